use Rattle.std.proofs.Common.{◌∙◌, ap, ◌++◌, lit<, refl}
use Rattle.std.specs.Prelude.{string_bytes}
use Rattle.nj_needs.proofs.MarkTextLemmas.{position-more}
use Rattle.nj_needs.proofs.marks.address_text.Goals as goal

pub loop-position-preserved : goal.loop-position-preserved
loop-position-preserved c =
    position-more c.args.target c.args.positions.now c.args.positions.now c.loop-position.position-index
    (string_bytes c.loop-position.text)
    (string_bytes c.push.new.self) (string_bytes c.push_str.new.self) c.format-in-loop-position.result.now
    refl c.loop-position-test.true c.loop-position.invariant
    (c.in_ok-push.ensures.bytes ∙ ap (λ xs. string_bytes c.loop-position.text ++ xs)
    (c.in_ok-push.ensures.ascii (lit< tt))) c.in_ok-push_str.ensures.bytes
    c.format-in-loop-position.ensures.text
