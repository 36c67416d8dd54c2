use Rattle.std.proofs.Common.{sym, ap, subst, ◌∙◌, Err}
use Rattle.nj_text.specs.declared.line_start.LineStart.TheVariants as start
use Rattle.nj_manifest.specs.declared.cause.SyntaxCause.TheVariants as cause
use Rattle.nj_manifest.specs.declared.parse_fault.ParseFault.TheVariants as fault
use Rattle.nj_manifest.specs.Faults.{Placed}
use Rattle.nj_manifest.specs.Parsers.{Fails}
use Rattle.nj_manifest.proofs.Handed.{handed}
use Rattle.nj_manifest.proofs.Starts.{front_at, begins-badly, begins-as, blank-falls-as, found-end}
use Rattle.nj_manifest.proofs.Starts.{found-line}
use Rattle.nj_manifest.proofs.statement_start.find_statement.Goals as goal

pub returns-in_err-start_line : goal.returns-in_err-start_line
returns-in_err-start_line c =
    let f = c.in_err-start_line.field-0.0 in
    let b = begins-badly c.lines.lexer c.start_line.new.self f c.lines.invariant.0 c.in_err-start_line.ensures
    in
    rw (handed (fault.Lex f) c.from_residual.result c.from_residual.ensures)
    (subst (Fails (fault.Lex f)) c.lines.invariant.1 b)

pub returns-in-End : goal.returns-in-End
returns-in-End c =
    let b = begins-as c.lines.lexer c.start_line.new.self c.in_ok-start_line.field-0 start.End c.in-End.is
    c.lines.invariant.0 c.in_ok-start_line.ensures in
    found-end c.args.lexer.now c.start_line.new.self (sym c.lines.invariant.1 ∙ b.0, b.1, b.2)

pub lines-smaller : goal.lines-smaller
lines-smaller c = blank-falls-as c.lines.lexer c.start_line.new.self c.in_ok-start_line.field-0 c.in-Blank.is
    c.in_ok-start_line.ensures

pub lines-preserved : goal.lines-preserved
lines-preserved c =
    let b = begins-as c.lines.lexer c.start_line.new.self c.in_ok-start_line.field-0 start.Blank c.in-Blank.is
    c.lines.invariant.0 c.in_ok-start_line.ensures in
    rw b.1 (tt, sym b.2 ∙ c.lines.invariant.1)

pub returns-in-Indented : goal.returns-in-Indented
returns-in-Indented c =
    let b = begins-as c.lines.lexer c.start_line.new.self c.in_ok-start_line.field-0 start.Indented
    c.in-Indented.is c.lines.invariant.0 c.in_ok-start_line.ensures in
    sym c.lines.invariant.1 ∙ b ∙ ap (λ s. Err (Placed s cause.UnexpectedIndent))
    (sym (c.line_front.ensures ∙ ap front_at c.spot.ensures))

pub returns-in-Plain : goal.returns-in-Plain
returns-in-Plain c =
    let b = begins-as c.lines.lexer c.start_line.new.self c.in_ok-start_line.field-0 start.Plain c.in-Plain.is
    c.lines.invariant.0 c.in_ok-start_line.ensures in
    found-line c.args.lexer.now c.start_line.new.self (b.0, b.1, b.2, b.3, sym c.lines.invariant.1 ∙ b.4)

pub returns-in-Middle : goal.returns-in-Middle
returns-in-Middle c =
    let b = begins-as c.lines.lexer c.start_line.new.self c.in_ok-start_line.field-0 start.Middle
    c.in-Middle.is c.lines.invariant.0 c.in_ok-start_line.ensures in
    found-line c.args.lexer.now c.start_line.new.self (b.0, b.1, b.2, b.3, sym c.lines.invariant.1 ∙ b.4)
