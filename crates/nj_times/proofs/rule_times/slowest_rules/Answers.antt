use Rattle.std.proofs.Common.{◌<◌, length, map, subst, sym}
use Rattle.std.specs.Prelude.{⊤, All}
use Rattle.std.proofs.lemmas.Fn.{answers_by}
use Rattle.std.proofs.lemmas.List.{length-map}
use Rattle.std.proofs.lemmas.List.Sorted.{All-permutation}
use Rattle.nj_edges.specs.declared.edges.EdgeNo.{EdgeNo}
use Rattle.nj_times.specs.Rules.{rules_of}
use Rattle.nj_times.specs.Inside.RulesHeld.{IsSmall}
use Rattle.nj_times.specs.declared.rule_times.RuleTimes.{RuleTimes}
use Rattle.nj_times.proofs.RuleOrderLemmas.{AreOwn, own_times, slowest_first_rules}
use Rattle.nj_times.proofs.rule_times.slowest_rules.Goals as goal

pub returns-clause-known : goal.returns-clause-known
returns-clause-known c =
    All-permutation (IsSmall (length c.args.rules.now) (length c.args.edges.now)) c.in_ok-times.times.items
    c.sort_by_key.new.self.items c.in_ok-sort_by_key.ensures.permutation c.in_ok-times.ensures.small

pub returns-clause-held : goal.returns-clause-held
returns-clause-held c =
    let rules = map (λ rule. rule.now) c.args.rules.now in
    let edges = map (λ (edge : EdgeNo). edge.0) c.args.edges.now in
    All-permutation (AreOwn rules c.args.durations.now edges) c.in_ok-times.times.items
    c.sort_by_key.new.self.items c.in_ok-sort_by_key.ensures.permutation
    (own_times rules c.args.durations.now edges (rules_of rules edges) c.in_ok-times.times.items
    c.in_ok-times.ensures.held (λ k d within. (c.in_ok-times.ensures.small k d within).some))

pub returns-clause-slowest : goal.returns-clause-slowest
returns-clause-slowest c =
    let rules = map (λ rule. rule.now) c.args.rules.now in
    let edges = map (λ (edge : EdgeNo). edge.0) c.args.edges.now in
    let times = c.in_ok-times.times.items in
    let sorted = c.sort_by_key.new.self.items in
    let moved = c.in_ok-sort_by_key.ensures.permutation in
    slowest_first_rules rules c.args.durations.now edges times sorted c.in_ok-times.ensures.held
    (subst (λ n. All (λ (t : RuleTimes). t.first.0 < n) sorted)
    (sym (length-map c.args.rules.now (λ rule. rule.now)))
    (λ k d within. (All-permutation (IsSmall (length c.args.rules.now) (length c.args.edges.now)) times sorted
    moved
    c.in_ok-times.ensures.small k d within).first))
    (All-permutation (AreOwn rules c.args.durations.now edges) times sorted moved
    (own_times rules c.args.durations.now edges (rules_of rules edges) times
    c.in_ok-times.ensures.held (λ k d within. (c.in_ok-times.ensures.small k d within).some)))
    moved
    (c.in_ok-sort_by_key.ensures.sorted
    (λ (t : RuleTimes). (record { 0 = t.sum }, t.first.0))
    (answers_by _ _ (λ f. ⊤) (λ f a r g h same. (search, search)) _ tt))
