use Rattle.std.proofs.Common.{◌≡◌, ◌==◌, ◌∷◌, None, codes, length, sym, ap, subst, ◌∙◌}
use Rattle.std.specs.Option.{option_or}
use Rattle.nj_manifest.specs.Contents.{outputs_model, inputs_model}
use Rattle.nj_scope.specs.ReadingList.{value_after, pools}
use Rattle.nj_edges.specs.Edges.{EdgePaths, inputs_of}
use Rattle.nj_edges.specs.EdgeTables.{edge_read}
use Rattle.nj_edge_env.specs.LateStrings.{LateNames, asked_text}
use Rattle.nj_faults.specs.Faults.{IsFault}
use Rattle.nj_statements.specs.EdgeList.{stated_paths, edge_paths, file_given}
use Rattle.nj_statements.specs.BuildFaults.{paths_fault}
use Rattle.nj_statements.specs.Inside.EdgeSteps.{AreClean, IsFileGiven, SeesLate, bound_by, names_read}
use Rattle.nj_statements.specs.Inside.EdgeSteps.{names_fault}
use Rattle.nj_statements.proofs.Faults.{fault-second, both-none, err-checks}
use Rattle.nj_statements.proofs.Adding.{adds-edge}
use Rattle.nj_statements.proofs.LateLemmas.{inputs-read, sees-late}
use Rattle.nj_statements.proofs.stated_files.add_edge.Goals as goal

pub returns-in_err-assigned-clause-fault : goal.returns-in_err-assigned-clause-fault
returns-in_err-assigned-clause-fault c = λ values sees none tells.
    let file = c.args.context.place.file.now in
    let spot = c.args.context.place.spot in
    let outputs = outputs_model c.args.build.now in
    let inputs = inputs_model c.args.build.now in
    let block = bound_by c.args.context in
    let open_edge = c.add_files.new.edges.«open» in
    let paths : EdgePaths = edge_paths (stated_paths values outputs inputs (c.args.rule.number.0 == 0)) in
    let n : LateNames = names_read paths block c.args.rule.rule.now
    (value_after sees.entries (c.args.context.scope.0 ∷ sees.around)) in
    let named = c.in_ok-kinds.ensures.named values sees none in
    let inputs_are : inputs_of paths ≡ open_edge.inputs =
    sym (ap inputs_of named) ∙ inputs-read open_edge c.in_ok-kinds.kinds (c.args.rule.number.0 == 0)
    (length open_edge.outputs) c.in_ok-kinds.ensures.within in
    let late : SeesLate c.late_edge-edge.result sees.entries n =
    sees-late c.late_edge-edge.result c.args.context.declarations.now c.args.context.scope.0 sees.entries
    sees.around (edge_read open_edge c.in_ok-kinds.kinds (c.args.rule.number.0 == 0)) paths block
    c.args.rule.rule.now
    c.late_edge-edge.ensures.declarations c.late_edge-edge.ensures.scope c.late_edge-edge.ensures.names named
    sees.declared sees.within in
    let f = c.in_err-assigned.field-0.0 in
    let before = paths_fault file values c.args.edges.now.edges outputs inputs in
    let after = names_fault file spot (pools sees.entries) (inputs_of paths) n in
    err-checks c.from_residual-in_err-assigned.result f (option_or before after)
    c.from_residual-in_err-assigned.ensures.1
    (fault-second before after f (c.in_ok-kinds.ensures.fault values sees none)
    (subst (λ is. IsFault (names_fault file spot (pools sees.entries) is n) f) (sym inputs_are)
    (c.in_err-assigned.ensures.fault sees.entries n late tells)))

pub returns-clause-fault : goal.returns-clause-fault
returns-clause-fault c = λ values sees none tells.
    let file = c.args.context.place.file.now in
    let spot = c.args.context.place.spot in
    let outputs = outputs_model c.args.build.now in
    let inputs = inputs_model c.args.build.now in
    let block = bound_by c.args.context in
    let open_edge = c.add_files.new.edges.«open» in
    let paths : EdgePaths = edge_paths (stated_paths values outputs inputs (c.args.rule.number.0 == 0)) in
    let n : LateNames = names_read paths block c.args.rule.rule.now
    (value_after sees.entries (c.args.context.scope.0 ∷ sees.around)) in
    let named = c.in_ok-kinds.ensures.named values sees none in
    let inputs_are : inputs_of paths ≡ open_edge.inputs =
    sym (ap inputs_of named) ∙ inputs-read open_edge c.in_ok-kinds.kinds (c.args.rule.number.0 == 0)
    (length open_edge.outputs) c.in_ok-kinds.ensures.within in
    let late : SeesLate c.late_edge-edge.result sees.entries n =
    sees-late c.late_edge-edge.result c.args.context.declarations.now c.args.context.scope.0 sees.entries
    sees.around (edge_read open_edge c.in_ok-kinds.kinds (c.args.rule.number.0 == 0)) paths block
    c.args.rule.rule.now
    c.late_edge-edge.ensures.declarations c.late_edge-edge.ensures.scope c.late_edge-edge.ensures.names named
    sees.declared sees.within in
    both-none (paths_fault file values c.args.edges.now.edges outputs inputs)
    (names_fault file spot (pools sees.entries) (inputs_of paths) n)
    (c.in_ok-kinds.ensures.fault values sees none)
    (subst (λ is. names_fault file spot (pools sees.entries) is n ≡ None) (sym inputs_are)
    (c.in_ok-assigned.ensures.fault sees.entries n late tells))

pub returns-clause-added : goal.returns-clause-added
returns-clause-added c = λ values sees none.
    adds-edge c.args.edges.now c.add_files.new.edges c.end_edge.new.self c.in_ok-kinds.kinds
    (c.args.rule.number.0 == 0) (edge_paths
    (stated_paths values (outputs_model c.args.build.now) (inputs_model c.args.build.now)
    (c.args.rule.number.0 == 0)))
    c.in_ok-kinds.ensures.keeps.read (c.in_ok-kinds.ensures.named values sees none)
    c.in_ok-end_edge.ensures.ended

pub returns-clause-dyndep : goal.returns-clause-dyndep
returns-clause-dyndep c = λ values sees none.
    let outputs = outputs_model c.args.build.now in
    let inputs = inputs_model c.args.build.now in
    let block = bound_by c.args.context in
    let open_edge = c.add_files.new.edges.«open» in
    let paths : EdgePaths = edge_paths (stated_paths values outputs inputs (c.args.rule.number.0 == 0)) in
    let n : LateNames = names_read paths block c.args.rule.rule.now
    (value_after sees.entries (c.args.context.scope.0 ∷ sees.around)) in
    let named = c.in_ok-kinds.ensures.named values sees none in
    let late : SeesLate c.late_edge-edge.result sees.entries n =
    sees-late c.late_edge-edge.result c.args.context.declarations.now c.args.context.scope.0 sees.entries
    sees.around (edge_read open_edge c.in_ok-kinds.kinds (c.args.rule.number.0 == 0)) paths block
    c.args.rule.rule.now
    c.late_edge-edge.ensures.declarations c.late_edge-edge.ensures.scope c.late_edge-edge.ensures.names named
    sees.declared sees.within in
    subst (λ t. IsFileGiven t.files c.in_ok-assigned.assigned.file
    (file_given (asked_text n (codes "dyndep")))) (sym c.in_ok-end_edge.ensures.ended)
    (c.in_ok-assigned.ensures.file sees.entries n late)

pub returns-clause-assigned : goal.returns-clause-assigned
returns-clause-assigned c = λ values sees none.
    let outputs = outputs_model c.args.build.now in
    let inputs = inputs_model c.args.build.now in
    let block = bound_by c.args.context in
    let open_edge = c.add_files.new.edges.«open» in
    let paths : EdgePaths = edge_paths (stated_paths values outputs inputs (c.args.rule.number.0 == 0)) in
    let n : LateNames = names_read paths block c.args.rule.rule.now
    (value_after sees.entries (c.args.context.scope.0 ∷ sees.around)) in
    let named = c.in_ok-kinds.ensures.named values sees none in
    let late : SeesLate c.late_edge-edge.result sees.entries n =
    sees-late c.late_edge-edge.result c.args.context.declarations.now c.args.context.scope.0 sees.entries
    sees.around (edge_read open_edge c.in_ok-kinds.kinds (c.args.rule.number.0 == 0)) paths block
    c.args.rule.rule.now
    c.late_edge-edge.ensures.declarations c.late_edge-edge.ensures.scope c.late_edge-edge.ensures.names named
    sees.declared sees.within in
    c.in_ok-assigned.ensures.assigned sees.entries n late

pub returns-clause-clean : goal.returns-clause-clean
returns-clause-clean c = subst (λ t. AreClean t.files) (sym c.in_ok-end_edge.ensures.ended)
    (c.in_ok-kinds.ensures.keeps.clean c.requires)
