use Rattle.std.proofs.Common.{◌<◌, ℕ, List, [], arith, replicate, subst, sym}
use Rattle.std.proofs.lemmas.List.Elements.{All-replicate}
use Rattle.nj_names.specs.Inside.RoundsHeld.{AreMarked}
use Rattle.nj_names.proofs.RoundLemmas.{marked-next, marked-none}
use Rattle.nj_names.proofs.round_set.RoundSet.clear.Goals as goal

pub invariant_of-self : goal.invariant_of-self
invariant_of-self c =
    let marks = c.self.inside.marks.items in
    let round = c.self.inside.round in
    subst (λ (ns : List ℕ). AreMarked marks c.in-Some.round ns) (sym c.clear.ensures.items)
    (subst (λ (r : ℕ). AreMarked marks r []) (omega (arith, c.in-Some.ensures))
    (marked-next round marks c.self.inside.numbers.items c.self.invariant))

pub invariant_of-self-in-None : goal.invariant_of-self-in-None
invariant_of-self-in-None c =
    let limit = c.self.inside.marks.len in
    rw (c.clear.ensures.items, c.fill.ensures.items (λ y is. is))
    (marked-none 1 (replicate limit 0) (All-replicate (λ mark. mark < 1) limit 0 (omega arith)))
