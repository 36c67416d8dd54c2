use Rattle.std.proofs.Common.{◌∙◌, ap, sym, ◌∷◌, ◌+◌, ◌++◌, take}
use Rattle.std.specs.List.{flat_map}
use Rattle.std.proofs.lemmas.List.{take_rest}
use Rattle.nj_text.specs.Quotes.{within_quotes}
use Rattle.nj_text.proofs.QuotedStrings.{run-quote}
use Rattle.nj_text.proofs.quotes.first_run.Goals as goal

pub returns-then-byte-eq39-clause-run : goal.returns-then-byte-eq39-clause-run
returns-then-byte-eq39-clause-run c =
    let text = c.args.text.now in
    run-quote text c.loop-end.end c.loop-end-test.true c.loop-end.invariant c.if-byte-eq39.true
    ∙ ap (λ rest. take c.loop-end.end text ++ 39 ∷ 92 ∷ 39 ∷ 39 ∷ flat_map within_quotes rest)
    (sym (take_rest text (c.loop-end.end + 1)))
