use Rattle.std.proofs.Common.{◌≡◌, ◌∙◌, false, ℕ, List, Some, is_some, bytes_eq, slice_get, ap, subst, sym}
use Rattle.std.specs.List.{list_any}
use Rattle.nj_names.proofs.NameLemmas.{found-at}
use Rattle.nj_edges.specs.MoreInputs.{InputTable}
use Rattle.nj_edges.proofs.MarkLemmas.{added-number, marks-new, no-option}
use Rattle.nj_edges.proofs.more_inputs.JoiningInputs.add_input.Goals as goal

pub returns-in-Some-clause-added : goal.returns-in-Some-clause-added
returns-in-Some-clause-added c =
    let found = found-at c.args.path.now c.files.result.now c.in-Some.file.0 (sym c.in-Some.ensures.index) in
    let here : slice_get c.self.inside.edges.files c.in-Some.file.0 ≡ Some c.args.path.now =
    subst (λ (fs : List (List ℕ)). slice_get fs c.in-Some.file.0 ≡ Some c.args.path.now)
    c.files.ensures.files found in
    c.in_ok-add_known_input.ensures.added c.args.path.now
    (subst (λ (t : InputTable). slice_get t.table.files c.in-Some.file.0 ≡ Some c.args.path.now)
    c.self.view_is here)

pub returns-in-Some-clause-number : goal.returns-in-Some-clause-number
returns-in-Some-clause-number c =
    let found = found-at c.args.path.now c.files.result.now c.in-Some.file.0 (sym c.in-Some.ensures.index) in
    let here : slice_get c.self.inside.edges.files c.in-Some.file.0 ≡ Some c.args.path.now =
    subst (λ (fs : List (List ℕ)). slice_get fs c.in-Some.file.0 ≡ Some c.args.path.now)
    c.files.ensures.files found in
    subst (λ (t : InputTable). slice_get t.table.files c.in-Some.file.0 ≡ Some c.args.path.now)
    (sym (returns-in-Some-clause-added c))
    (added-number c.args.self.now c.args.path.now c.in-Some.file.0
    (subst (λ (t : InputTable). slice_get t.table.files c.in-Some.file.0 ≡ Some c.args.path.now)
    c.self.view_is here))

pub invariant_of-self-2 : goal.invariant_of-self-2
invariant_of-self-2 c =
    let table : InputTable = record { table = c.self.inside.edges; edge = c.self.inside.edge } in
    let absent : list_any (bytes_eq c.args.path.now) c.self.inside.edges.files ≡ false =
    ap (list_any (bytes_eq c.args.path.now)) (sym c.files.ensures.files) ∙ sym c.number.ensures.known
    ∙ ap is_some (no-option c.number.result c.in_default.not-Some) in
    rw (c.push_reserved.ensures.items, c.in_ok-reserve.ensures.items)
    (marks-new table c.self.inside.marks.items c.self.invariant c.args.path.now absent c.add_input.new.self
    c.in_ok-file.ensures.added)
