use Rattle.std.proofs.Common.{◌<◌, List, ℕ, length, map, rules}
use Rattle.std.specs.List.Sorted.{IsPermutation}
use Rattle.std.specs.Prelude.{nat_eq}
use Rattle.std.proofs.lemmas.List.Sorted.{All-permutation, Contains-permutation}
use Rattle.std.proofs.lemmas.List.Sorted.{IsNonDecreasingBy-from_sort_by_key}
use Rattle.std.proofs.lemmas.List.Sorted.{IsPermutation-map, IsPermutation-sym}
use Rattle.std.proofs.lemmas.Map.Keys.{IsDistinct-IsPermutation, IsStrictlyIncreasing-from_distinct}
use Rattle.nj_edges.specs.declared.edges.EdgeNo.{EdgeNo}
use Rattle.nj_times.proofs.OrderedLemmas.{even-turned, numbers-up}
use Rattle.nj_times.proofs.reports.needed_edges.Goals as goal

abbrev numbers : List EdgeNo → List ℕ
numbers edges = map (λ (edge : EdgeNo). edge.0) edges

pub returns-clause-needed : goal.returns-clause-needed
returns-clause-needed c = λ edge.
    let found = c.in_ok-needed.needed.items in
    let sorted = c.sort_unstable_by_key.new.self.items in
    let moved : IsPermutation (numbers found) (numbers sorted) =
    IsPermutation-map (λ (e : EdgeNo). e.0) found sorted c.sort_unstable_by_key.ensures.permutation in (
      (λ has. (c.in_ok-needed.ensures.needed edge).0
          (Contains-permutation (numbers sorted) (numbers found) edge
          (IsPermutation-sym (numbers found) (numbers sorted) moved) has)),
      (λ is. Contains-permutation (numbers found) (numbers sorted) edge moved
          ((c.in_ok-needed.ensures.needed edge).1 is)),
    )

pub returns-clause-rises : goal.returns-clause-rises
returns-clause-rises c =
    let found = c.in_ok-needed.needed.items in
    let sorted = c.sort_unstable_by_key.new.self.items in
    IsStrictlyIncreasing-from_distinct (numbers sorted)
    (numbers-up sorted (IsNonDecreasingBy-from_sort_by_key (λ (e : EdgeNo). e.0) sorted
    c.sort_unstable_by_key.ensures.sorted (λ a r q k. search rules)))
    (IsDistinct-IsPermutation nat_eq even-turned (numbers found) (numbers sorted)
    (IsPermutation-map (λ (e : EdgeNo). e.0) found sorted c.sort_unstable_by_key.ensures.permutation)
    c.in_ok-needed.ensures.each_once)

pub returns-clause-known : goal.returns-clause-known
returns-clause-known c =
    All-permutation (λ (e : EdgeNo). e.0 < length c.args.graph.now.edges) c.in_ok-needed.needed.items
    c.sort_unstable_by_key.new.self.items c.sort_unstable_by_key.ensures.permutation
    c.in_ok-needed.ensures.known
