use Rattle.std.proofs.Common.{◌<◌, ℕ, List, length, map, sym, ap, ◌∙◌, subst, arith}
use Rattle.std.specs.Prelude.{slice_index_or}
use Rattle.std.proofs.lemmas.List.{length-map}
use Rattle.nj_edges.specs.declared.edges.EdgeNo.{EdgeNo}
use Rattle.nj_stale.specs.Numbered.{evidence_of}
use Rattle.nj_stale.specs.Inside.Held.{IsFound, IsNext}
use Rattle.nj_stale.specs.declared.reason.Reason.{Reason}
use Rattle.std.proofs.Common.{Option}
use Rattle.nj_stale.proofs.FoundLemmas.{found_all, none_found, number_at, written_back}
use Rattle.nj_stale.proofs.reasons.found_edges.Goals as goal

pub turns-init : goal.turns-init
turns-init c =
    none_found (evidence_of c.args.graph.now c.args.facts.now c.args.times.now c.args.log.now.lines)
    (map (λ (edge : EdgeNo). edge.0) c.args.order.now) c.in_ok-reasons.reasons.items c.in_ok-lent.lent.items
    (omega (arith, c.in_ok-reasons.ensures.len, c.edge_count.ensures.count))
    (omega (arith, c.in_ok-lent.ensures.len, c.edge_count-2.ensures.count))

pub judge-requires : goal.judge-requires
judge-requires c =
    let none : EdgeNo = record { 0 = 0 } in
    let numbers = map (λ (edge : EdgeNo). edge.0) c.args.order.now in
    let before : c.turns.turn < length numbers =
    omega (arith, length-map c.args.order.now (λ (edge : EdgeNo). edge.0), c.turns-test.true) in
    record {
      known = c.requires.known;
      distinct = c.file_count-file_count.ensures.each_path_once;
      edge = subst (λ n. n < length c.args.graph.now.edges)
          (sym (number_at c.args.order.now c.turns.turn none c.turns-test.true))
          (c.requires.order.within c.turns.turn before);
      reasons = ap length c.deref_mut.ensures.value ∙ c.turns.invariant.reason_count;
      lent = ap length c.deref_mut-in-turns.ensures.value ∙ c.turns.invariant.lent_count;
    }

pub turns-preserved : goal.turns-preserved
turns-preserved c =
    let none : EdgeNo = record { 0 = 0 } in
    let graph = c.args.graph.now in
    let known = evidence_of graph c.args.facts.now c.args.times.now c.args.log.now.lines in
    let numbers = map (λ (edge : EdgeNo). edge.0) c.args.order.now in
    let next : IsNext graph.edges numbers c.turns.turn (slice_index_or c.args.order.now c.turns.turn none).0 =
    record {
      order_is = c.requires.order;
      within = omega (arith, length-map c.args.order.now (λ (edge : EdgeNo). edge.0), c.turns-test.true);
      edge_is = number_at c.args.order.now c.turns.turn none c.turns-test.true;
    } in
    let before : IsFound known numbers c.turns.turn c.deref_mut.result.now c.deref_mut-in-turns.result.now =
    subst (λ (rs : List (Option Reason)). IsFound known numbers c.turns.turn rs
    c.deref_mut-in-turns.result.now)
    (sym c.deref_mut.ensures.value)
    (subst (λ (ls : List ℕ). IsFound known numbers c.turns.turn c.turns.reasons.items ls)
    (sym c.deref_mut-in-turns.ensures.value) c.turns.invariant) in
    let after = c.judge.ensures numbers c.turns.turn next before in
    let a = after.reason_count in
    let b = after.lent_count in
    let reasons = written_back c.judge.new.reasons c.turns.reasons.items c.turns.reasons.len
    (omega (arith, a, c.turns.invariant.reason_count)) (omega arith) in
    let lent = written_back c.judge.new.lent c.turns.lent.items c.turns.lent.len
    (omega (arith, b, c.turns.invariant.lent_count)) (omega arith) in
    rw (reasons, lent) after

pub returns : goal.returns
returns c =
    found_all (evidence_of c.args.graph.now c.args.facts.now c.args.times.now c.args.log.now.lines)
    (map (λ (edge : EdgeNo). edge.0) c.args.order.now) c.turns.turn c.turns.reasons.items c.turns.lent.items
    (omega (arith, length-map c.args.order.now (λ (edge : EdgeNo). edge.0), c.turns-test.false))
    c.requires.order.within c.turns.invariant
