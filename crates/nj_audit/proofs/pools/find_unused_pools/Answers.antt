use Rattle.std.proofs.Common.{length, arith}
use Rattle.std.specs.List.{filter_map}
use Rattle.std.proofs.lemmas.List.Elements.{filter_map-append}
use Rattle.nj_audit.specs.Audit.{unused_pool}
use Rattle.nj_audit.proofs.ListLemmas.{all-numbers, more-numbers}
use Rattle.nj_audit.proofs.pools.find_unused_pools.Goals as goal

pub pools-preserved : goal.pools-preserved
pools-preserved c entries graph =
    let h = unused_pool c.args.graph.now entries in
    more-numbers (filter_map h) (filter_map-append h) c.args.found.now c.pools.found
    c.push_if_unused.new.found c.pools.pool (c.pools.invariant entries graph)
    (c.in_ok-push_if_unused.ensures entries graph)

pub returns : goal.returns
returns c entries graph =
    let h = unused_pool c.args.graph.now entries in
    let counted = c.pool_count-pool-end.ensures.held in
    all-numbers (filter_map h) (filter_map-append h) c.args.found.now c.pools.found c.pools.found c.pools.pool
    (length c.args.graph.now.declarations.pools)
    (omega (arith, counted)) (omega (arith, counted)) (c.pools.invariant entries graph)
