use Rattle.std.proofs.Common.{◌≡◌, ◌<◌, ◌++◌, Some, None, slice_get, sym, ap, subst, ◌∙◌}
use Rattle.nj_scope.specs.Scopes.{first_given}
use Rattle.std.specs.Option.{option_or}
use Rattle.nj_manifest.specs.DyndepParsers.{entry_model}
use Rattle.nj_manifest.specs.Contents.{words_model}
use Rattle.nj_edges.specs.Joining.{JoinTable, AddedFiles}
use Rattle.nj_faults.specs.Faults.{IsFault}
use Rattle.nj_statements.specs.EdgeList.{paths_given}
use Rattle.nj_statements.specs.BuildFaults.{empty_path, outputs_fault}
use Rattle.nj_statements.specs.Joining.{no_values, entry_fault, with_entry}
use Rattle.nj_statements.specs.JoiningHeld.{JoiningModel, HasJoined, KeepsEdges}
use Rattle.nj_statements.specs.Inside.JoiningFields.{fields_of}
use Rattle.nj_statements.specs.Inside.JoiningSteps.{IsMeant, maker_fault, edge_bound, with_added_outputs}
use Rattle.nj_statements.specs.Inside.JoiningSteps.{with_added_inputs}
use Rattle.nj_statements.proofs.Faults.{fault-first, fault-second, both-none}
use Rattle.nj_statements.proofs.AddedLemmas.{keeps-nothing, keeps-trans, outputs-open, inputs-open}
use Rattle.nj_statements.proofs.Holding.{on-err}
use Rattle.nj_statements.proofs.JoiningLemmas.{joins-err, joins-nothing, still-held, same-firsts, fault-is}
use Rattle.nj_statements.proofs.JoiningLemmas.{joined-has, entry-inside, entry-some, entry-held, entry-keeps}
use Rattle.nj_statements.proofs.JoiningLemmas.{noted-held, noted-details}
use Rattle.nj_statements.proofs.dyndep_entries.Joining.join_entry.Goals as goal

-- ---- the output that names a statement

pub returns-in_err-edge-clause-joins : goal.returns-in_err-edge-clause-joins
returns-in_err-edge-clause-joins c = λ stated joined has'.
    let name = c.args.name.now in
    let entry = entry_model c.args.entry.now in
    let t = c.self.inside.edges in
    let bound = c.self.inside.bound.items in
    let has = subst (λ (h : JoiningModel). HasJoined h stated joined) (sym c.self.view_is) has' in
    let here : slice_get t.files c.args.file.0 ≡ Some name =
    subst (λ (h : JoiningModel). slice_get h.table.files c.args.file.0 ≡ Some name) (sym c.self.view_is)
    c.requires in
    let expected = entry_fault name stated joined entry in
    let first = option_or (empty_path name no_values entry.out)
    (maker_fault name entry.out t (edge_bound t bound c.args.file entry.out)) in
    let outputs = outputs_fault name no_values t.joined t.«open».outputs entry.outs in
    let inputs = first_given (empty_path name no_values) entry.ins in
    let is : expected ≡ option_or first (option_or outputs inputs) =
    fault-is (fields_of c.self.inside) c.self.invariant stated joined has c.args.file name here entry in
    let f = c.in_err-edge.field-0.0 in
    joins-err _ expected stated (with_entry stated joined entry) c.from_residual.result f
    c.from_residual.ensures.1
    (subst (λ o. IsFault o f) (sym is) (fault-first first (option_or outputs inputs) f
    (subst (λ bs. IsFault (option_or (empty_path name no_values entry.out)
    (maker_fault name entry.out t (edge_bound t bs c.args.file entry.out))) f) c.deref.ensures.value
    c.in_err-edge.ensures.fault)))

-- ---- its outputs

pub invariant_of-self-in_err-add_outputs : goal.invariant_of-self-in_err-add_outputs
invariant_of-self-in_err-add_outputs c =
    still-held (fields_of c.self.inside) c.self.invariant c.add_outputs.new.edges
    c.in_err-add_outputs.ensures.keeps

pub returns-in_err-add_outputs-clause-joins : goal.returns-in_err-add_outputs-clause-joins
returns-in_err-add_outputs-clause-joins c = λ stated joined has'.
    let name = c.args.name.now in
    let entry = entry_model c.args.entry.now in
    let t = c.self.inside.edges in
    let bound = c.self.inside.bound.items in
    let has = subst (λ (h : JoiningModel). HasJoined h stated joined) (sym c.self.view_is) has' in
    let here : slice_get t.files c.args.file.0 ≡ Some name =
    subst (λ (h : JoiningModel). slice_get h.table.files c.args.file.0 ≡ Some name) (sym c.self.view_is)
    c.requires in
    let expected = entry_fault name stated joined entry in
    let first = option_or (empty_path name no_values entry.out)
    (maker_fault name entry.out t (edge_bound t bound c.args.file entry.out)) in
    let outputs = outputs_fault name no_values t.joined t.«open».outputs entry.outs in
    let inputs = first_given (empty_path name no_values) entry.ins in
    let is : expected ≡ option_or first (option_or outputs inputs) =
    fault-is (fields_of c.self.inside) c.self.invariant stated joined has c.args.file name here entry in
    let none : first ≡ None = subst (λ bs. option_or (empty_path name no_values entry.out)
    (maker_fault name entry.out t (edge_bound t bs c.args.file entry.out)) ≡ None) c.deref.ensures.value
    c.in_ok-edge.ensures.fault in
    let f = c.in_err-add_outputs.field-0.0 in
    joins-err _ expected stated (with_entry stated joined entry) c.from_residual-in_err-add_outputs.result f
    c.from_residual-in_err-add_outputs.ensures.1
    (subst (λ o. IsFault o f) (sym is) (fault-second first (option_or outputs inputs) f none
    (fault-first outputs inputs f
    (subst (λ words. IsFault (outputs_fault name no_values t.joined t.«open».outputs (words_model words)) f)
    c.as_slice.ensures.value c.in_err-add_outputs.ensures.fault))))

pub returns-in_err-add_outputs-clause-dyndep_files : goal.returns-in_err-add_outputs-clause-dyndep_files
returns-in_err-add_outputs-clause-dyndep_files c =
    same-firsts (fields_of c.self.inside) c.self.invariant c.add_outputs.new.edges
    c.in_err-add_outputs.ensures.keeps
    ∙ ap (λ (h : JoiningModel). h.dyndep_files) c.self.view_is

-- ---- its inputs

pub invariant_of-self-in_err-add_inputs : goal.invariant_of-self-in_err-add_inputs
invariant_of-self-in_err-add_inputs c =
    let keeps : KeepsEdges c.self.inside.edges c.add_inputs.new.edges =
    keeps-trans c.self.inside.edges c.add_outputs.new.edges c.add_inputs.new.edges
    c.in_ok-add_outputs.ensures.keeps c.in_err-add_inputs.ensures.keeps in
    still-held (fields_of c.self.inside) c.self.invariant c.add_inputs.new.edges keeps

pub returns-in_err-add_inputs-clause-joins : goal.returns-in_err-add_inputs-clause-joins
returns-in_err-add_inputs-clause-joins c = λ stated joined has'.
    let name = c.args.name.now in
    let entry = entry_model c.args.entry.now in
    let t = c.self.inside.edges in
    let bound = c.self.inside.bound.items in
    let has = subst (λ (h : JoiningModel). HasJoined h stated joined) (sym c.self.view_is) has' in
    let here : slice_get t.files c.args.file.0 ≡ Some name =
    subst (λ (h : JoiningModel). slice_get h.table.files c.args.file.0 ≡ Some name) (sym c.self.view_is)
    c.requires in
    let expected = entry_fault name stated joined entry in
    let first = option_or (empty_path name no_values entry.out)
    (maker_fault name entry.out t (edge_bound t bound c.args.file entry.out)) in
    let outputs = outputs_fault name no_values t.joined t.«open».outputs entry.outs in
    let inputs = first_given (empty_path name no_values) entry.ins in
    let is : expected ≡ option_or first (option_or outputs inputs) =
    fault-is (fields_of c.self.inside) c.self.invariant stated joined has c.args.file name here entry in
    let none : first ≡ None = subst (λ bs. option_or (empty_path name no_values entry.out)
    (maker_fault name entry.out t (edge_bound t bs c.args.file entry.out)) ≡ None) c.deref.ensures.value
    c.in_ok-edge.ensures.fault in
    let no_outputs : outputs ≡ None = subst
    (λ words. outputs_fault name no_values t.joined t.«open».outputs (words_model words) ≡ None)
    c.as_slice.ensures.value c.in_ok-add_outputs.ensures.fault in
    let f = c.in_err-add_inputs.field-0.0 in
    joins-err _ expected stated (with_entry stated joined entry) c.from_residual-in_err-add_inputs.result f
    c.from_residual-in_err-add_inputs.ensures.1
    (subst (λ o. IsFault o f) (sym is) (fault-second first (option_or outputs inputs) f none
    (fault-second outputs inputs f no_outputs
    (subst (λ words. IsFault (first_given (empty_path name no_values) (words_model words)) f)
    c.as_slice-2.ensures.value c.in_err-add_inputs.ensures.fault))))

pub returns-in_err-add_inputs-clause-dyndep_files : goal.returns-in_err-add_inputs-clause-dyndep_files
returns-in_err-add_inputs-clause-dyndep_files c =
    let keeps : KeepsEdges c.self.inside.edges c.add_inputs.new.edges =
    keeps-trans c.self.inside.edges c.add_outputs.new.edges c.add_inputs.new.edges
    c.in_ok-add_outputs.ensures.keeps c.in_err-add_inputs.ensures.keeps in
    same-firsts (fields_of c.self.inside) c.self.invariant c.add_inputs.new.edges keeps
    ∙ ap (λ (h : JoiningModel). h.dyndep_files) c.self.view_is

pub returns-in_err-edge-clause-refused : goal.returns-in_err-edge-clause-refused
returns-in_err-edge-clause-refused c = on-err c.from_residual.result
    (joins-nothing (fields_of c.self.inside) c.self.invariant c.self.inside.edges
    (keeps-nothing c.self.inside.edges) _
    c.self.view_is)

pub returns-in_err-add_outputs-clause-refused : goal.returns-in_err-add_outputs-clause-refused
returns-in_err-add_outputs-clause-refused c =
    on-err c.from_residual-in_err-add_outputs.result
    (joins-nothing (fields_of c.self.inside) c.self.invariant c.add_outputs.new.edges
    c.in_err-add_outputs.ensures.keeps _
    c.self.view_is)

pub returns-in_err-add_inputs-clause-refused : goal.returns-in_err-add_inputs-clause-refused
returns-in_err-add_inputs-clause-refused c =
    let keeps : KeepsEdges c.self.inside.edges c.add_inputs.new.edges =
    keeps-trans c.self.inside.edges c.add_outputs.new.edges c.add_inputs.new.edges
    c.in_ok-add_outputs.ensures.keeps c.in_err-add_inputs.ensures.keeps in
    on-err c.from_residual-in_err-add_inputs.result
    (joins-nothing (fields_of c.self.inside) c.self.invariant c.add_inputs.new.edges keeps _
    c.self.view_is)

-- ---- the entry is joined

pub index_mut-requires : goal.index_mut-requires
index_mut-requires c =
    let same = c.self.inside.unjoined.ok.0 in
    subst (λ n. c.args.file.0 < n) (sym same)
    (entry-inside (fields_of c.self.inside) c.self.invariant _ c.deref.ensures.value c.args.file
    (entry_model c.args.entry.now).out c.in_ok-edge.edge.0 c.in_ok-edge.ensures.edge)

pub overflow_sub-index_mut : goal.overflow_sub-index_mut
overflow_sub-index_mut c =
    entry-some (fields_of c.self.inside) c.self.invariant _ c.deref.ensures.value c.args.file
    (entry_model c.args.entry.now).out c.in_ok-edge.edge.0 c.in_ok-edge.ensures.edge c.index_mut.result.now
    c.index_mut.ensures.value

pub invariant_of-self-2 : goal.invariant_of-self-2
invariant_of-self-2 c =
    let keeps : KeepsEdges c.self.inside.edges c.add_inputs.new.edges =
    keeps-trans c.self.inside.edges c.add_outputs.new.edges c.add_inputs.new.edges
    c.in_ok-add_outputs.ensures.keeps c.in_ok-add_inputs.ensures.keeps in
    let all = entry-held (fields_of c.self.inside) c.self.invariant _ c.deref.ensures.value c.args.file
    (entry_model c.args.entry.now).out c.in_ok-edge.edge.0 c.in_ok-edge.ensures.edge c.add_inputs.new.edges
    c.end_join.new.self c.index_mut.result.now keeps c.end_join.ensures c.index_mut.ensures.value in
    noted-held _ all c.args.entry.now.restat c.in_ok-edge.edge.0
    c.note_restat.new.self c.note_restat.ensures

pub returns-clause-dyndep_files : goal.returns-clause-dyndep_files
returns-clause-dyndep_files c =
    let keeps : KeepsEdges c.self.inside.edges c.add_inputs.new.edges =
    keeps-trans c.self.inside.edges c.add_outputs.new.edges c.add_inputs.new.edges
    c.in_ok-add_outputs.ensures.keeps c.in_ok-add_inputs.ensures.keeps in
    entry-keeps (fields_of c.self.inside) c.self.invariant c.in_ok-edge.edge.0 c.add_inputs.new.edges
    c.end_join.new.self keeps c.end_join.ensures
    ∙ ap (λ (h : JoiningModel). h.dyndep_files) c.self.view_is

pub returns-clause-joins : goal.returns-clause-joins
returns-clause-joins c = λ stated joined has'.
    let name = c.args.name.now in
    let entry = entry_model c.args.entry.now in
    let t = c.self.inside.edges in
    let bound = c.self.inside.bound.items in
    let has = subst (λ (h : JoiningModel). HasJoined h stated joined) (sym c.self.view_is) has' in
    let here : slice_get t.files c.args.file.0 ≡ Some name =
    subst (λ (h : JoiningModel). slice_get h.table.files c.args.file.0 ≡ Some name) (sym c.self.view_is)
    c.requires in
    let expected = entry_fault name stated joined entry in
    let first = option_or (empty_path name no_values entry.out)
    (maker_fault name entry.out t (edge_bound t bound c.args.file entry.out)) in
    let outputs = outputs_fault name no_values t.joined t.«open».outputs entry.outs in
    let inputs = first_given (empty_path name no_values) entry.ins in
    let is : expected ≡ option_or first (option_or outputs inputs) =
    fault-is (fields_of c.self.inside) c.self.invariant stated joined has c.args.file name here entry in
    let none : first ≡ None = subst (λ bs. option_or (empty_path name no_values entry.out)
    (maker_fault name entry.out t (edge_bound t bs c.args.file entry.out)) ≡ None) c.deref.ensures.value
    c.in_ok-edge.ensures.fault in
    let no_outputs : outputs ≡ None = subst
    (λ words. outputs_fault name no_values t.joined t.«open».outputs (words_model words) ≡ None)
    c.as_slice.ensures.value c.in_ok-add_outputs.ensures.fault in
    let meant : IsMeant c.self.inside.edges c.self.inside.bound.items c.args.file
    (entry_model c.args.entry.now).out c.in_ok-edge.edge.0 =
    subst (λ bs. IsMeant c.self.inside.edges bs c.args.file (entry_model c.args.entry.now).out
    c.in_ok-edge.edge.0) c.deref.ensures.value c.in_ok-edge.ensures.edge in
    let keeps : KeepsEdges c.self.inside.edges c.add_inputs.new.edges =
    keeps-trans c.self.inside.edges c.add_outputs.new.edges c.add_inputs.new.edges
    c.in_ok-add_outputs.ensures.keeps c.in_ok-add_inputs.ensures.keeps in
    let no_inputs : inputs ≡ None = subst (λ words. first_given (empty_path name no_values)
    (words_model words) ≡ None) c.as_slice-2.ensures.value c.in_ok-add_inputs.ensures.fault in
    let outs = paths_given no_values entry.outs in
    let ins = paths_given no_values entry.ins in
    let added_outputs : c.add_outputs.new.edges ≡ with_added_outputs t outs =
    subst (λ words. c.add_outputs.new.edges
    ≡ with_added_outputs t (paths_given no_values (words_model words))) c.as_slice.ensures.value
    c.in_ok-add_outputs.ensures.added in
    let added_inputs : c.add_inputs.new.edges ≡ with_added_inputs c.add_outputs.new.edges ins =
    subst (λ words. c.add_inputs.new.edges
    ≡ with_added_inputs c.add_outputs.new.edges (paths_given no_values (words_model words)))
    c.as_slice-2.ensures.value c.in_ok-add_inputs.ensures.added in
    let opens : c.add_inputs.new.edges.«open» ≡ record { outputs = outs; inputs = ins } =
    ap (λ (u : JoinTable). u.«open») added_inputs ∙ inputs-open c.add_outputs.new.edges ins
    ∙ ap (λ (u : JoinTable). record u.«open» { inputs = u.«open».inputs ++ ins }) added_outputs
    ∙ ap (λ (o : AddedFiles). record o { inputs = o.inputs ++ ins })
    (outputs-open t outs ∙ ap (λ (o : AddedFiles). record o { outputs = o.outputs ++ outs }) has.none_open)
    in (
      is ∙ both-none first (option_or outputs inputs) none (both-none outputs inputs no_outputs no_inputs),
      joined-has (fields_of c.self.inside) c.self.invariant stated joined has c.args.file name here entry
          c.in_ok-edge.edge.0 meant c.add_inputs.new.edges c.end_join.new.self keeps opens c.end_join.ensures
          c.note_restat.new.self c.note_restat.ensures,
    )

pub returns-clause-details : goal.returns-clause-details
returns-clause-details c =
    noted-details c.self.inside.records c.note_restat.new.self c.args.entry.now.restat
    c.in_ok-edge.edge.0 c.note_restat.ensures ∙ ap (λ (h : JoiningModel). h.details) c.self.view_is
