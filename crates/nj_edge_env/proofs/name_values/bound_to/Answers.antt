use Rattle.std.proofs.Common.{◌<◌, ◌-◌, length, sym, ap, ◌∙◌, arith, subst, slice_range}
use Rattle.std.proofs.lemmas.Bool.Decides.{Decides-eqb}
use Rattle.std.proofs.lemmas.List.Elements.{All-from_recursion}
use Rattle.std.proofs.lemmas.Slice.Eq.{slice_eq-Decides}
use Rattle.nj_edge_env.specs.Inside.BlocksHeld.{IsPart}
use Rattle.nj_edge_env.proofs.name_values.bound_to.Goals as goal

pub returns-then-eq-clause-bound : goal.returns-then-eq-clause-bound
returns-then-eq-clause-bound c =
    let some : 0 < length c.args.bounds.now = c.in-Some.ensures.item.3.0 in
    let at = All-from_recursion (IsPart (length c.args.text.now.items) c.args.edge) c.args.bounds.now
    c.requires (length c.args.bounds.now - 1) c.in-Some.last.now (omega arith) in
    let part = subst (IsPart (length c.args.text.now.items) c.args.edge) (sym c.in-Some.ensures.item.1) at in
    record {
      edge = c.in_ok-edge.ensures.short;
      rises = part.rises;
      ends = part.ends;
      is = ap (λ t. slice_range t c.in-Some.last.now.start c.in-Some.last.now.end)
          (sym c.as_slice.ensures.value) ∙ sym c.value_at.ensures
          ∙ (slice_eq-Decides Decides-eqb _ _ _ c.eq.ensures).0 c.if-eq.true;
    }
