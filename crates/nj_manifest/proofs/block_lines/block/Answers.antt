use Rattle.std.proofs.Common.{◌∷◌, [], ap, ◌∙◌}
use Rattle.std.proofs.lemmas.List.{map-append}
use Rattle.nj_text.specs.declared.line_start.LineStart.TheVariants as start
use Rattle.nj_manifest.specs.Statements.{block}
use Rattle.nj_manifest.specs.Contents.{line_model, lines_model}
use Rattle.nj_manifest.proofs.BlockLines.{Started, block-turn, block-end, lines_left-line, fails-from}
use Rattle.nj_manifest.proofs.BlockLines.{block-start-fails, block-line-fails}
use Rattle.nj_manifest.proofs.block_lines.block.Goals as goal

pub returns-in_err-start_line : goal.returns-in_err-start_line
returns-in_err-start_line c =
    fails-from (λ lines. lines_model lines.items) c.args.lexer.now c.start_line.new.self
    (block c.args.allowed) c.from_residual.result _ c.from_residual.ensures
    (block-start-fails c.args.allowed (lines_model c.lines.lines.items) c.args.lexer.now c.lines.lexer
    c.start_line.new.self c.in_err-start_line.field-0.0 c.lines.invariant c.in_err-start_line.ensures)

pub returns-in_err-line_next : goal.returns-in_err-line_next
returns-in_err-line_next c =
    let started : Started start.Indented c.lines.lexer c.start_line.new.self =
    rw c.in-Indented.is at c.in_ok-start_line.ensures in
    fails-from (λ lines. lines_model lines.items) c.args.lexer.now c.line_next.new.lexer
    (block c.args.allowed) c.from_residual-in_err-line_next.result _
    c.from_residual-in_err-line_next.ensures
    (block-line-fails c.args.allowed (lines_model c.lines.lines.items) c.args.lexer.now c.lines.lexer
    c.start_line.new.self c.in_err-line_next.field-0.0 c.lines.invariant started
    c.in_err-line_next.ensures)

pub lines-smaller : goal.lines-smaller
lines-smaller c =
    lines_left-line c.args.allowed c.lines.lexer c.start_line.new.self (line_model c.in_ok-line_next.field-0)
    c.line_next.new.lexer (rw c.in-Indented.is at c.in_ok-start_line.ensures) c.in_ok-line_next.ensures

pub lines-preserved : goal.lines-preserved
lines-preserved c =
    let turned = block-turn c.args.allowed (lines_model c.lines.lines.items) c.args.lexer.now c.lines.lexer
    c.start_line.new.self (line_model c.in_ok-line_next.field-0) c.line_next.new.lexer
    c.lines.invariant (rw c.in-Indented.is at c.in_ok-start_line.ensures) c.in_ok-line_next.ensures in
    let items = ap lines_model c.in_ok-push_line.ensures
    ∙ map-append line_model c.lines.lines.items (c.in_ok-line_next.field-0 ∷ []) in
    rw items turned

pub returns : goal.returns
returns c = block-end (λ lines. lines_model lines.items) c.args.allowed c.args.lexer.now c.lines.lexer
    c.start_line.new.self c.in_ok-start_line.field-0 c.lines.lines c.lines.invariant c.in_default.not-Indented
    c.in_ok-start_line.ensures
