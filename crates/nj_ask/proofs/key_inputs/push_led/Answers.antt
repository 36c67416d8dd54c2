use Rattle.std.proofs.Common.{◌≡◌, ◌∙◌, IfOk, ap, ap₂, drop, length, map, subst, sym}
use Rattle.std.proofs.lemmas.List.{drop-map, length-map}
use Rattle.nj_names.specs.NameTables.{name_at}
use Rattle.nj_ask.specs.KeyObjects.{inputs_among}
use Rattle.nj_ask.specs.Inside.FilesFound.{paths_found}
use Rattle.nj_ask.specs.Inside.JsonTexts.{AddsInputs}
use Rattle.nj_ask.proofs.key_inputs.push_led.Goals as goal

pub returns-clause-text : goal.returns-clause-text
returns-clause-text c =
    let files = c.args.graph.now.files in
    let before = c.args.found.now.numbers in
    let after = c.add_led.new.found in
    let same : map (name_at files) c.numbers_from.result.now
    ≡ drop (length (paths_found files c.args.found.now)) (paths_found files after) =
    ap (map (name_at files)) (c.numbers_from.ensures
    ∙ ap₂ drop (ap length c.numbers-place.ensures.numbers ∙ sym (length-map before (name_at files)))
    c.numbers.ensures.numbers)
    ∙ sym (drop-map (name_at files) (length (paths_found files c.args.found.now)) after.numbers) in
    subst (λ ps. IfOk c.push_files.result (AddsInputs c.args.later
    (inputs_among c.args.graph.now.edges c.args.kind ps) c.args.text.now.items c.push_files.new.text.items))
    same
    c.push_files.ensures
