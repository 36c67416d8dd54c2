use Rattle.std.proofs.Common.{ℕ, List, map, option_map, subst}
use Rattle.std.proofs.lemmas.Result.{IfOk-weaker}
use Rattle.nj_edges.specs.declared.edges.EdgeNo.{EdgeNo}
use Rattle.nj_times.specs.Inside.CostsHeld.{IsFollowed, IsLast}
use Rattle.nj_times.proofs.PathLemmas.{critical}
use Rattle.nj_times.proofs.path.critical_path.Goals as goal

pub returns-clause-path : goal.returns-clause-path
returns-clause-path c = λ files needed.
    let edges = c.args.graph.now.edges in
    let durations = c.args.durations.now in
    let costs = c.in_ok-costs.costs.items in
    let among = map (λ (edge : EdgeNo). edge.0) c.args.needed.now in
    let last = option_map (λ (edge : EdgeNo). edge.0) c.costliest_of-last.result in
    IfOk-weaker c.followed.result _ _
    (λ path follows. critical edges durations costs c.in_ok-costs.ensures files among needed last
    (map (λ (edge : EdgeNo). edge.0) path.items)
    (subst (λ (cs : List ℕ). IsLast durations cs among last) c.deref-2.ensures.value
    c.costliest_of-last.ensures)
    (subst (λ (cs : List ℕ). IsFollowed edges cs last (map (λ (edge : EdgeNo). edge.0) path.items))
    c.deref-3.ensures.value follows))
    c.followed.ensures.path
