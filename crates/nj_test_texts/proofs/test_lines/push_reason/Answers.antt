use Rattle.std.proofs.Common.{◌∷◌, [], ◌++◌, option_map, ap, ◌∙◌}
use Rattle.nj_chosen.specs.Choices.{choice_model}
use Rattle.nj_test_texts.specs.TestTexts.{reason_path, reason_word, spaced}
use Rattle.nj_test_texts.proofs.TextLemmas.{reason-parts}
use Rattle.nj_test_texts.proofs.test_lines.push_reason.Goals as goal

pub returns : goal.returns
returns c =
    let why = option_map choice_model c.args.choice in
    let name = c.args.name.now in
    let old = c.args.text.now.items in
    c.in_ok-push-2.ensures.items ∙ ap (λ t. t ++ 10 ∷ [])
    (c.in_ok-push_spaced.ensures ∙ ap (λ path. c.extend_from_slice-2.new.self.items ++ spaced path)
    c.reason_path.ensures
    ∙ ap (λ t. t ++ spaced (reason_path why))
    (c.in_ok-extend_from_slice-2.ensures.items
    ∙ ap (λ word. c.push.new.self.items ++ word) (c.as_bytes-2.ensures.value ∙ c.reason_word.ensures)
    ∙ ap (λ t. t ++ reason_word why)
    (c.in_ok-push.ensures.items ∙ ap (λ t. t ++ 9 ∷ [])
    (c.in_ok-extend_from_slice.ensures.items ∙ ap (λ bytes. old ++ bytes) c.as_bytes.ensures.value))))
    ∙ reason-parts old name (reason_word why) (spaced (reason_path why)) (10 ∷ [])
