use Rattle.std.proofs.Common.{◌≡◌, ◌∙◌, Some, [], slice_get, slice_set, subst, sym}
use Rattle.std.proofs.lemmas.Option.{get_or_from_slice_get, slice_get_within, unwrap_or-slice_get}
use Rattle.nj_names.specs.NameTables.{name_at}
use Rattle.nj_edges.specs.MoreInputs.{InputTable}
use Rattle.nj_statements.proofs.Holding.{on-ok}
use Rattle.nj_graph.specs.Inside.InputSteps.{AreFilesOf}
use Rattle.nj_graph.proofs.FoundInputLemmas.{files-later, files-more}
use Rattle.nj_graph.proofs.discovered_inputs.add_path.Goals as goal

pub add_known_input-requires : goal.add_known_input-requires
add_known_input-requires c =
    slice_get_within c.args.joining.now.table.files c.in-Some.file
    (name_at c.args.found.now.names c.args.number)
    (c.requires.files.each c.args.number c.in-Some.file c.in-Some.is)

pub returns-in-Some-clause-files : goal.returns-in-Some-clause-files
returns-in-Some-clause-files c =
    let names = c.args.found.now.names in
    let path = name_at names c.args.number in
    let here = c.requires.files.each c.args.number c.in-Some.file c.in-Some.is in
    on-ok c.add_known_input.result (c.add_known_input.ensures.added path here) (λ added.
    subst (λ (t : InputTable). AreFilesOf names t.table.files c.args.files.now) (sym added)
    (files-later names c.args.joining.now c.args.files.now c.requires.files path))

pub returns-clause-files : goal.returns-clause-files
returns-clause-files c =
    let names = c.args.found.now.names in
    let path = c.path.result.now in
    let files = c.args.files.now in
    let number = c.args.number in
    let added = c.in_ok-file.ensures.added in
    let is = sym (unwrap_or-slice_get names number []
    ∙ get_or_from_slice_get names number path [] c.path.ensures) in
    subst (λ (t : InputTable). AreFilesOf names t.table.files
    (slice_set files number (Some c.in_ok-short_number.field-0))) (sym added)
    (files-more names c.args.joining.now files c.requires.files path number c.in_ok-short_number.field-0
    c.requires.below
    (subst (λ (t : InputTable). slice_get t.table.files c.in_ok-short_number.field-0 ≡ Some path) added
    (subst (λ n. slice_get c.add_input.new.self.table.files n ≡ Some path)
    (sym c.in_ok-short_number.ensures.short) c.in_ok-file.ensures.number)) is)
