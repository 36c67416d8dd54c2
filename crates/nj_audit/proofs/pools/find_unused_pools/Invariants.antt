use Rattle.std.proofs.Common.{◌≡◌, ◌++◌, List}
use Rattle.std.specs.List.{filter_map}
use Rattle.nj_scope.specs.ReadingList.{ReadStatement}
use Rattle.nj_graph.specs.Graph.{IsGraphOf}
use Rattle.nj_audit.specs.Audit.{numbers, unused_pool}
use Rattle.nj_audit.proofs.pools.find_unused_pools.Given as goal

abbrev pub invariant-pools : goal.invariant-pools
invariant-pools l =
    (entries : List ReadStatement) → IsGraphOf l.graph entries
    → l.found ≡ l.fn.found ++ filter_map (unused_pool l.graph entries) (numbers l.pool)
