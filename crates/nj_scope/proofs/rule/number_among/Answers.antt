use Rattle.std.proofs.Common.{◌∙◌, ap, sym, arith, bytes_eq, below_more}
use Rattle.nj_scope.proofs.KeyLemmas.{has_here, has_not_here}
use Rattle.nj_scope.proofs.rule.number_among.Goals as goal

pub returns-then-eq-clause-some : goal.returns-then-eq-clause-some
returns-then-eq-clause-some c = (
  omega arith,
  has_here c.args.lines.now _ c.line_at.result.now c.args.key.now c.line_at.ensures
      (ap (bytes_eq c.args.key.now) (sym c.as_slice.ensures.value) ∙ sym c.eq.ensures ∙ c.if-eq.true),
)

pub places-preserved : goal.places-preserved
places-preserved c =
    below_more _ _ c.places.invariant
    (has_not_here c.args.lines.now _ c.line_at.result.now c.args.key.now c.line_at.ensures
    (ap (bytes_eq c.args.key.now) (sym c.as_slice.ensures.value) ∙ sym c.eq.ensures ∙ c.if-eq.false))

pub returns-clause-none : goal.returns-clause-none
returns-clause-none c = λ n below. c.places.invariant n (omega arith)
