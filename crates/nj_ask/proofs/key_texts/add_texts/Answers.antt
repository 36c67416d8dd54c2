use Rattle.std.proofs.Common.{◌∙◌, ap, codes, subst, true}
use Rattle.std.proofs.lemmas.Result.{on_ok_weaker}
use Rattle.serde_json.specs.Data.{boolean}
use Rattle.nj_ask.specs.KeyObjects.{KeyTexts, text_value}
use Rattle.nj_ask.specs.Inside.JsonTexts.{AddsMember}
use Rattle.nj_ask.proofs.JsonTextLemmas.{adds-texts}
use Rattle.nj_ask.proofs.key_texts.add_texts.Goals as goal

pub returns : goal.returns
returns c =
    let t = c.args.texts.now in
    let view = c.texts.view_is in
    let zero = c.args.text.now.items in
    let one = c.add_text.new.text.items in
    let two = c.add_text-2.new.text.items in
    let three = c.add_text-3.new.text.items in
    let four = c.add_text-4.new.text.items in
    let five = c.add_bool.new.text.items in
    let six = c.add_text-5.new.text.items in
    on_ok_weaker c.add_text-5.result
    (λ last. adds-texts t zero one two three four five six
    (subst (λ v. AddsMember true (codes "response_file") (text_value v) zero one)
    (c.deref.ensures.value ∙ ap (λ (k : KeyTexts). k.response_file) view) c.in_ok-add_text.ensures)
    (subst (λ v. AddsMember true (codes "response") (text_value v) one two)
    (c.deref-2.ensures.value ∙ ap (λ (k : KeyTexts). k.response) view) c.in_ok-add_text-2.ensures)
    (subst (λ v. AddsMember true (codes "command") (text_value v) two three)
    (c.deref-3.ensures.value ∙ ap (λ (k : KeyTexts). k.command) view) c.in_ok-add_text-3.ensures)
    (subst (λ v. AddsMember true (codes "depfile") (text_value v) three four)
    (c.deref-4.ensures.value ∙ ap (λ (k : KeyTexts). k.depfile) view) c.in_ok-add_text-4.ensures)
    (subst (λ v. AddsMember true (codes "generator") (boolean v) four five)
    (ap (λ (k : KeyTexts). k.generator) view) c.in_ok-add_bool.ensures)
    (subst (λ v. AddsMember true (codes "pool") (text_value v) five six)
    (c.deref-5.ensures.value ∙ ap (λ (k : KeyTexts). k.pool) view) last))
    c.add_text-5.ensures
