use Rattle.std.proofs.Common.{◌<◌, replicate, arith}
use Rattle.std.proofs.lemmas.List.Elements.{All-replicate}
use Rattle.nj_names.proofs.RoundLemmas.{marked-none}
use Rattle.nj_names.proofs.round_set.RoundSet.none_below.Goals as goal

pub invariant_of-result : goal.invariant_of-result
invariant_of-result c =
    let unset = c.in_ok-vec.ensures.items_if_clones_equal (λ y is. is) in
    rw (c.new.ensures.items, unset) (marked-none 1 (replicate c.args.limit 0)
    (All-replicate (λ mark. mark < 1) c.args.limit 0 (omega arith)))
