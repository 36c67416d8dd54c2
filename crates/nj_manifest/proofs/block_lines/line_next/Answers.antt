use Rattle.std.proofs.Common.{sym, ◌∙◌}
use Rattle.nj_text.specs.Words.{word_model}
use Rattle.nj_manifest.proofs.PlainLines.{line-taken, key-unknown}
use Rattle.nj_manifest.proofs.block_lines.line_next.Goals as goal

pub returns-then-not-allows : goal.returns-then-not-allows
returns-then-not-allows c =
    let line = c.in-Some.binding in
    key-unknown c.args.allowed c.args.lexer.now c.plain_binding.new.self line.spot line.name.now
    (word_model line.value) c.in-Some.ensures (sym c.allows.ensures ∙ c.if-not-allows.true)

pub returns-in-Some : goal.returns-in-Some
returns-in-Some c =
    let line = c.in-Some.binding in
    line-taken c.args.allowed c.args.lexer.now c.plain_binding.new.self line.spot line.name.now
    (word_model line.value) c.in-Some.ensures (sym c.allows.ensures ∙ c.if-not-allows.false)
