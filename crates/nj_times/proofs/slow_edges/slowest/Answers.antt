use Rattle.std.proofs.Common.{◌<◌, ◌≡◌, ◌∙◌, List, ap, map, refl, rules, subst}
use Rattle.std.specs.List.Sorted.{IsPermutation}
use Rattle.std.specs.Ordering.{is_lt}
use Rattle.std.proofs.lemmas.Fn.{answers_by}
use Rattle.std.proofs.lemmas.List.Elements.{All-same, All-take}
use Rattle.std.proofs.lemmas.List.Sorted.{All-permutation, IsPermutation-map}
use Rattle.nj_edges.specs.declared.edges.EdgeNo.{EdgeNo}
use Rattle.nj_times.specs.Times.{time_at}
use Rattle.nj_times.specs.Slowest.{slowest_first}
use Rattle.nj_times.proofs.SlowestLemmas.{first_numbers, sorted_numbers}
use Rattle.nj_times.proofs.slow_edges.slowest.Goals as goal

pub returns-clause-slowest : goal.returns-clause-slowest
returns-clause-slowest c =
    let durations = c.args.durations.now in
    let sorted = c.sort_by_key.new.self.items in
    record {
      sorted = map (λ (edge : EdgeNo). edge.0) sorted;
      permuted = IsPermutation-map (λ (edge : EdgeNo). edge.0) c.args.edges.now sorted
          (subst (λ (es : List EdgeNo). IsPermutation es sorted) c.in_ok-sorted.ensures.items
          c.in_ok-sort_by_key.ensures.permutation);
      falling = sorted_numbers (λ e f. is_lt (slowest_first durations e f)) sorted
          (c.in_ok-sort_by_key.ensures.sorted
          (λ (edge : EdgeNo). (record { 0 = time_at durations edge.0 }, edge.0))
          (answers_by _ _ (λ f. f.0.now ≡ durations) (λ f a r g h same. (search rules, search rules)) _
          refl));
      front = ap (map (λ (edge : EdgeNo). edge.0)) c.truncate.ensures.items
          ∙ first_numbers c.args.count sorted;
    }

pub returns-clause-known : goal.returns-clause-known
returns-clause-known c = λ limit all.
    let P = λ (edge : EdgeNo). edge.0 < limit in
    let sorted = c.sort_by_key.new.self.items in
    All-same P c.truncate.new.self.items _ c.truncate.ensures.items
    (All-take P c.args.count sorted
    (All-permutation P c.in_ok-sorted.sorted.items sorted c.in_ok-sort_by_key.ensures.permutation
    (All-same P c.in_ok-sorted.sorted.items c.args.edges.now c.in_ok-sorted.ensures.items all)))
