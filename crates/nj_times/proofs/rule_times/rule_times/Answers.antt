use Rattle.std.proofs.Common.{◌∙◌, ap, arith, length, List, [], map, refl, sym, subst, take, ℕ}
use Rattle.std.specs.Prelude.{All, slice_index_or, Some}
use Rattle.std.proofs.lemmas.List.{get_or-map, length-map, take_all}
use Rattle.nj_names.specs.NameTables.{with_name}
use Rattle.nj_edges.specs.declared.edges.EdgeNo.{EdgeNo}
use Rattle.nj_times.specs.Inside.RulesHeld.{IsSmall}
use Rattle.nj_times.proofs.RuleLemmas.{turn_more}
use Rattle.nj_times.proofs.rule_times.rule_times.Goals as goal

pub edges-preserved : goal.edges-preserved
edges-preserved c =
    let rules = map (λ rule. rule.now) c.args.rules.now in
    let edges = c.args.edges.now in
    let index = c.edges.edge-index in
    let none : EdgeNo = record { 0 = 0 } in
    let edge = slice_index_or edges index none in
    let within = c.edges-test.true in
    let known = c.requires index none within in
    let rule_is = get_or-map (λ rule. rule.now) c.args.rules.now edge.0
    (record { ref_ptr = (0, 0); now = [] }) []
    known in
    turn_more rules c.args.durations.now edges index none edge c.edges.names c.add.new.self
    c.edges.times.items
    c.add_edge.new.times.items c.in_ok-number.number within refl
    (omega (arith, known, length-map c.args.rules.now (λ rule. rule.now))) c.in_ok-add_edge.ensures.short
    c.edges.invariant
    (c.in_ok-number.ensures.added ∙ ap (λ (rule : List ℕ). with_name c.edges.names rule) (sym rule_is))
    (c.in_ok-number.ensures.number ∙ ap (λ (rule : List ℕ). Some rule) (sym rule_is))
    c.in_ok-number.ensures.each_name_once c.in_ok-add_edge.ensures.added

pub returns-clause-small : goal.returns-clause-small
returns-clause-small c =
    let edges = c.args.edges.now in
    let times = c.edges.times.items in
    let rules = length-map c.args.rules.now (λ rule. rule.now) in
    let all = ap length (take_all c.edges.edge-index edges c.edges-test.false) in
    let counted = length-map (take c.edges.edge-index edges) (λ (edge : EdgeNo). edge.0) ∙ all in
    subst (λ n. All (IsSmall n (length edges)) times) rules
    (subst (λ n. All (IsSmall (length (map (λ rule. rule.now) c.args.rules.now)) n) times) counted
    c.edges.invariant.small)
