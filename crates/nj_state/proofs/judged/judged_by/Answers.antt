use Rattle.std.proofs.Common.{ℕ, List, map, refl, subst}
use Rattle.nj_edges.specs.declared.edges.EdgeNo.{EdgeNo}
use Rattle.nj_stale.specs.Numbered.{AreFound, evidence_of}
use Rattle.nj_state.proofs.ReasonLemmas.{all_judged}
use Rattle.nj_state.proofs.judged.judged_by.Goals as goal

pub returns : goal.returns
returns c =
    let g = c.args.graph.now in
    let facts = c.args.facts.now in
    let lines = c.args.log.now.lines in
    let times = c.args.times.items in
    let order = map (λ (edge : EdgeNo). edge.0) c.in_ok-order.order.items in
    let reasons = c.in_ok-found.found.reasons in
    let lent = c.in_ok-found.found.lent in
    let found : AreFound (evidence_of g facts times lines) order reasons.items lent.items =
    subst (λ (ts : List ℕ). AreFound (evidence_of g facts ts lines) order reasons.items lent.items)
    c.deref.ensures.value
    (subst (λ (o : List EdgeNo). AreFound (evidence_of g facts c.deref.result.now lines)
    (map (λ (edge : EdgeNo). edge.0) o) reasons.items lent.items) c.deref-2.ensures.value
    c.in_ok-found.ensures) in
    record {
      times_are = refl;
      counts = record { time_count = c.requires.time_count; lent_count = found.lent_count };
      judged = all_judged g facts lines order
          (record { times = c.args.times; reasons = reasons; lent = lent })
          c.in_ok-order.ensures found;
    }
