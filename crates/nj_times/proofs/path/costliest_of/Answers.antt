use Rattle.std.proofs.Common.{◌<◌, ◌++◌, ◌∙◌, [], ◌∷◌, Option, List, ℕ, arith, get_or, map, option_map, subst}
use Rattle.std.proofs.Common.{sym, take}
use Rattle.std.proofs.lemmas.List.{take_all}
use Rattle.nj_edges.specs.declared.edges.EdgeNo.{EdgeNo}
use Rattle.nj_times.specs.Inside.CostsHeld.{IsLast}
use Rattle.nj_times.proofs.PathLemmas.{new_last, one_more, same_last}
use Rattle.nj_times.proofs.path.costliest_of.Goals as goal
use Rattle.nj_times.proofs.path.costliest_of.Goals.{then-time_at-gt0+then-is_costlier, else-time_at-gt0}
use Rattle.nj_times.proofs.path.costliest_of.Goals.{else-time_at-gt0-via-then-time_at-gt0+else-is_costlier}
use Rattle.nj_times.proofs.path.costliest_of.Goals.{else-time_at-gt0-via-else-time_at-gt0}

pub edges-preserved : goal.edges-preserved
edges-preserved c =
    let none : EdgeNo = record { 0 = 0 } in
    let durations = c.args.durations.now in
    let costs = c.args.costs.now in
    let index = c.edges.edge-index in
    let edge = (get_or c.args.edges.now index none).0 in
    let before = map (λ (edge : EdgeNo). edge.0) (take index c.args.edges.now) in
    let old = option_map (λ (edge : EdgeNo). edge.0) c.edges.costliest in
    subst (λ (ns : List ℕ). IsLast durations costs ns
    (option_map (λ (edge : EdgeNo). edge.0) c.if-time_at-gt0.costliest))
    (sym (one_more c.args.edges.now index none c.edges-test.true))
    (elim c.if-time_at-gt0.branch [
      | then-time_at-gt0+then-is_costlier w ↦
          subst (λ (o : Option EdgeNo). IsLast durations costs (before ++ edge ∷ [])
          (option_map (λ (edge : EdgeNo). edge.0) o))
          (sym w.costliest-is)
          (new_last durations costs before old edge c.edges.invariant
          (subst (λ n. 0 < n) c.time_at.ensures w.if-time_at-gt0.true)
          (sym w.is_costlier.ensures ∙ w.if-is_costlier.true))
      | else-time_at-gt0 w ↦
          subst (λ (o : Option EdgeNo). IsLast durations costs (before ++ edge ∷ [])
          (option_map (λ (edge : EdgeNo). edge.0) o))
          (sym w.costliest-is)
          (same_last durations costs before old edge c.edges.invariant
          (λ timed. elim w.else-time_at-gt0.branch [
            | else-time_at-gt0-via-then-time_at-gt0+else-is_costlier v ↦
                sym v.is_costlier.ensures ∙ v.if-is_costlier.false
            | else-time_at-gt0-via-else-time_at-gt0 v ↦
                (let is = c.time_at.ensures in absurd (omega (arith, is, timed, v.if-time_at-gt0.false)))
          ]))
    ])

pub returns : goal.returns
returns c =
    subst (λ (es : List EdgeNo). IsLast c.args.durations.now c.args.costs.now
    (map (λ (edge : EdgeNo). edge.0) es)
    (option_map (λ (edge : EdgeNo). edge.0) c.edges.costliest))
    (take_all c.edges.edge-index c.args.edges.now (omega (arith, c.edges-test.false))) c.edges.invariant
