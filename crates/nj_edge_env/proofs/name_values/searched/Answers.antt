use Rattle.std.proofs.Common.{ltb, rules}
use Rattle.std.proofs.lemmas.List.Sorted.{IsPartitionPoint-from_clause}
use Rattle.nj_edge_env.proofs.BoundLemmas.{partitioned, searched-here, searched-other, searched-past}
use Rattle.nj_edge_env.proofs.name_values.searched.Goals as goal

pub returns-in-Some : goal.returns-in-Some
returns-in-Some c =
    let found = c.in-Some.ensures.lookup in
    searched-here c.args.bounds.now c.args.edge c.partition_point-index.result c.in-Some.bound.now c.requires
    found.3.0 found.1 c.if-bound-edge.true

pub returns-in-Some-2 : goal.returns-in-Some-2
returns-in-Some-2 c =
    let found = c.in-Some.ensures.lookup in
    let point = IsPartitionPoint-from_clause (λ b. ltb b.edge c.args.edge) _ _
    c.partition_point-index.ensures.partitioned (partitioned c.args.bounds.now c.args.edge c.requires)
    (λ a r q k. search rules) in
    searched-other c.args.bounds.now c.args.edge c.partition_point-index.result c.in-Some.bound.now c.requires
    found.3.0 found.1 point c.if-bound-edge.false

pub returns-in-None : goal.returns-in-None
returns-in-None c =
    let point = IsPartitionPoint-from_clause (λ b. ltb b.edge c.args.edge) _ _
    c.partition_point-index.ensures.partitioned (partitioned c.args.bounds.now c.args.edge c.requires)
    (λ a r q k. search rules) in
    searched-past c.args.bounds.now c.args.edge c.partition_point-index.result
    (record { edge = 0; start = 0; end = 0 }) c.in-None.ensures.lookup.3 point
