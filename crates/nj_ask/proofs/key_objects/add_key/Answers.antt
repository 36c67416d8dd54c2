use Rattle.std.proofs.Common.{◌++◌, ◌∷◌, ◌∙◌, [], ap, codes, false}
use Rattle.std.proofs.lemmas.List.{append_assoc}
use Rattle.std.proofs.lemmas.Result.{on_ok_weaker}
use Rattle.hex.specs.Hex.{encode_lower}
use Rattle.serde_json.specs.Data.{member, string}
use Rattle.serde_json.specs.Written.{compact_text, members_text}
use Rattle.nj_ask.proofs.JsonTextLemmas.{adds-value}
use Rattle.nj_ask.proofs.key_objects.add_key.Goals as goal

pub returns : goal.returns
returns c =
    on_ok_weaker c.push_text.result
    (λ is. λ rest. adds-value false (codes "key") (string (encode_lower c.args.key.now)) c.push.new.self.items
    c.begin_member.new.text.items c.push_text.new.lines.items c.in_ok-begin_member.ensures (is
    ∙ ap (λ bytes. c.begin_member.new.text.items ++ compact_text (string bytes))
    (c.deref.ensures ∙ c.in_ok-digits.ensures)) rest
    ∙ ap (λ t. t ++ members_text false (member (codes "key") (string (encode_lower c.args.key.now)) rest))
    c.in_ok-push.ensures.items
    ∙ append_assoc c.args.text.now.items (123 ∷ [])
    (members_text false (member (codes "key") (string (encode_lower c.args.key.now)) rest)))
    c.push_text.ensures
