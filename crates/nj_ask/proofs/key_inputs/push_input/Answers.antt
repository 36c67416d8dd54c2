use Rattle.std.proofs.Common.{◌++◌, ◌∙◌, ap, ap₂, codes}
use Rattle.serde_json.specs.Data.{string}
use Rattle.serde_json.specs.Written.{compact_text}
use Rattle.nj_ask.specs.KeyObjects.{text_value}
use Rattle.nj_ask.proofs.JsonTextLemmas.{adds-input}
use Rattle.nj_ask.proofs.key_inputs.push_input.Goals as goal

pub returns : goal.returns
returns c =
    adds-input c.args.later c.args.kind c.args.path.now c.args.text.now.items c.push.new.self.items
    (c.in_ok-push.ensures.items ∙ ap (λ t. t ++ codes "}")
    (c.in_ok-push_text.ensures ∙ ap₂ (λ t word. t ++ compact_text (string word))
    (c.in_ok-extend_from_slice-2.ensures.items ∙ ap (λ t. t ++ codes ",\"kind\":")
    (c.in_ok-push_bytes.ensures ∙ ap (λ t. t ++ compact_text (text_value c.args.path.now))
    (c.in_ok-extend_from_slice.ensures.items ∙ ap (λ t. t ++ codes "{\"path\":") c.in_ok-push_comma.ensures)))
    c.kind_name.ensures))
