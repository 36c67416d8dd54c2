use Rattle.std.proofs.Common.{◌≡◌, false, refl, replicate}
use Rattle.std.proofs.lemmas.List.Elements.{All-replicate}
use Rattle.nj_names.proofs.NumberLemmas.{flagged-none}
use Rattle.nj_names.proofs.number_set.NumberSet.none_below.Goals as goal

pub invariant_of-result : goal.invariant_of-result
invariant_of-result c =
    let unset = c.in_ok-vec.ensures.items_if_clones_equal (λ y is. is) in
    rw (c.new.ensures.items, unset) (flagged-none (replicate c.args.limit false)
    (All-replicate (λ flag. flag ≡ false) c.args.limit false refl))
