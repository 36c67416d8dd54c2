use Rattle.std.proofs.Common.{◌≡◌, ℕ, List, not, false, Some, sym, ap, subst, ◌∙◌}
use Rattle.std.specs.Bool.{then_some}
use Rattle.nj_text.specs.Words.{word_model}
use Rattle.nj_faults.specs.declared.fault.GraphFault.{GraphFault}
use Rattle.nj_faults.specs.declared.fault.Cause.TheVariants.{UnknownTarget}
use Rattle.nj_faults.specs.Faults.{IsFault, fault_at}
use Rattle.nj_names.proofs.NameLemmas.{found-at}
use Rattle.nj_edges.specs.Edges.{is_named}
use Rattle.nj_statements.specs.EdgeList.{path_given}
use Rattle.nj_statements.specs.BuildFaults.{empty_path, unknown_target, target_fault}
use Rattle.nj_statements.proofs.Faults.{fault-first, fault-second, both-none, err-checks}
use Rattle.nj_statements.proofs.context.Context.named_file.Goals as goal

pub returns-in_err-path-clause-fault : goal.returns-in_err-path-clause-fault
returns-in_err-path-clause-fault c = λ values sees none.
    let file = c.args.self.place.file.now in
    let word = word_model c.args.word.now in
    let edges = c.args.edges.now.edges in
    err-checks c.from_residual.result _ (target_fault file values edges word) c.from_residual.ensures.1
    (fault-first (empty_path file values word) (unknown_target file values edges word) _
    (c.in_err-path.ensures.fault values sees))

pub returns-in-Some-clause-fault : goal.returns-in-Some-clause-fault
returns-in-Some-clause-fault c = λ values sees none.
    let file = c.args.self.place.file.now in
    let word = word_model c.args.word.now in
    let edges = c.args.edges.now.edges in
    both-none (empty_path file values word) (unknown_target file values edges word)
    (c.in_ok-path.ensures.fault values sees)
    (ap (λ b. then_some (not b) (fault_at file word.spot (UnknownTarget (path_given values word))))
    (sym (c.in-Some.ensures.named none ∙ ap (is_named edges) (c.in_ok-path.ensures.path values sees))))

pub returns-in-Some-clause-file : goal.returns-in-Some-clause-file
returns-in-Some-clause-file c = λ values sees.
    found-at c.in_ok-path.path.now c.args.edges.now.files c.in-Some.file.0 (sym c.in-Some.ensures.index)
    ∙ ap Some (c.in_ok-path.ensures.path values sees)

pub returns-in_ok-new-in-None-clause-fault : goal.returns-in_ok-new-in-None-clause-fault
returns-in_ok-new-in-None-clause-fault c = λ values sees none.
    let file = c.args.self.place.file.now in
    let word = word_model c.args.word.now in
    let edges = c.args.edges.now.edges in
    let meant = path_given values word in
    let path_is = c.in_ok-path.ensures.path values sees in
    let named : false ≡ is_named edges meant = c.in-None.ensures.named none ∙ ap (is_named edges) path_is in
    let fault : List ℕ → GraphFault = λ path. fault_at file word.spot (UnknownTarget path) in
    let is : unknown_target file values edges word ≡ Some (fault c.in_ok-new-in-None.field-0) =
    ap (λ b. then_some (not b) (fault meant)) (sym named)
    ∙ ap (λ path. Some (fault path)) (sym (c.in_ok-new-in-None.ensures ∙ path_is)) in
    fault-second (empty_path file values word) (unknown_target file values edges word) c.fault.result
    (c.in_ok-path.ensures.fault values sees)
    (subst (λ o. IsFault o c.fault.result) (sym is) c.fault.ensures)
