use Rattle.std.proofs.Common.{sym, subst, ◌∙◌}
use Rattle.nj_text.specs.Words.{WordModel}
use Rattle.nj_text.specs.Calls.{Between, TakesBinding}
use Rattle.nj_text.specs.Inside.States.{inside, lines_within, lines_at}
use Rattle.nj_text.proofs.PlainBindings.{binding_seen}
use Rattle.nj_text.proofs.plain_bindings.plain_binding.Goals as goal

pub returns : goal.returns
returns c =
    let start = c.args.start in
    let name = c.run in
    let equals = name.result.1 in
    let text = c.in-Some.text in
    let value = c.run-2 in
    let end = value.result.1 in
    let first = c.in-Some-first_byte in
    let feed = c.in-Some-eq10-default in
    let after = c.on_next_line-after in
    let seen = binding_seen start.spot equals.spot text.spot end.spot after.result.spot first.first
    feed.field-0-0 start.rest.now name.result.0.now equals.rest.now text.rest.now value.result.0.now
    first.field-0-1.now end.rest.now feed.field-0-1.now after.result.rest.now
    name.ensures.whole name.ensures.run name.ensures.after name.ensures.spot
    (sym c.is_empty.ensures ∙ c.if-is_empty.false)
    c.in-Some.ensures.rest c.in-Some.ensures.spot
    value.ensures.whole value.ensures.run value.ensures.after value.ensures.spot first.ensures
    c.if-first-eq32.false
    feed.ensures feed.field-0-0-test after.ensures.spot after.ensures.rest in
    subst (λ (w : WordModel). TakesBinding (inside (lines_within start.spot start.rest.now))
    (Between (lines_at after.result)) start.spot name.result.0.now w) (sym c.plain-value.ensures) seen
