use Rattle.std.proofs.Common.{◌++◌, option_map, ap, ◌∙◌, codes}
use Rattle.std.specs.Str.Lossy.{utf8_lossy}
use Rattle.serde_json.specs.Data.{string}
use Rattle.serde_json.specs.Written.{compact_text}
use Rattle.nj_chosen.specs.Choices.{choice_model}
use Rattle.nj_test_texts.specs.TestTexts.{named_test, reason_path, reason_word}
use Rattle.nj_test_texts.proofs.TextLemmas.{object-is}
use Rattle.nj_test_texts.proofs.test_lines.push_object.Goals as goal

pub returns : goal.returns
returns c =
    let why = option_map choice_model c.args.choice in
    let name = c.args.name.now in
    let old = c.args.text.now.items in
    c.in_ok-extend_from_slice-4.ensures.items ∙ ap (λ t. t ++ codes "}\n")
    (c.in_ok-push_bytes.ensures
    ∙ ap (λ path. c.extend_from_slice-3.new.self.items ++ compact_text (string (utf8_lossy path)))
    c.reason_path.ensures
    ∙ ap (λ t. t ++ compact_text (string (utf8_lossy (reason_path why))))
    (c.in_ok-extend_from_slice-3.ensures.items ∙ ap (λ t. t ++ codes ",\"path\":")
    (c.in_ok-push_string-2.ensures
    ∙ ap (λ word. c.extend_from_slice-2.new.self.items ++ compact_text (string word)) c.reason_word.ensures
    ∙ ap (λ t. t ++ compact_text (string (reason_word why)))
    (c.in_ok-extend_from_slice-2.ensures.items ∙ ap (λ t. t ++ codes ",\"reason\":")
    (c.in_ok-push_string.ensures ∙ ap (λ t. t ++ compact_text (string name))
    c.in_ok-extend_from_slice.ensures.items)))))
    ∙ object-is (named_test name why) old
