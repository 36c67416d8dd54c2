use Rattle.std.proofs.Common.{◌≡◌, ◌<◌, ◌∙◌, Option, [], ◌∷◌, ◌++◌, ap, length, subst, sym, append_assoc}
use Rattle.std.specs.Prelude.{IfSome, option_to_list}
use Rattle.std.specs.List.{AllByRecursion}
use Rattle.nj_edges.specs.EdgeGraphs.{EdgeGraph}
use Rattle.nj_edges.specs.declared.edges.EdgeNo.{EdgeNo}
use Rattle.nj_state.specs.declared.commands.StaleEdge.{StaleEdge}
use Rattle.nj_state.proofs.ReasonLemmas.{known_more, more_stale}
use Rattle.nj_state.proofs.commands.stale_in.Goals as goal

pub commands-preserved : goal.commands-preserved
commands-preserved c =
    let i = c.commands.invariant in
    let edge = c.in-Some.edge.0 in
    let edges = c.args.graph.now.edges in
    let count = length edges in
    let stale = c.commands.stale.items in
    let found = c.stale_edge.result in
    let lt : edge < count = subst (λ (g : EdgeGraph). edge < length g.edges) i.graph c.in-Some.ensures.known
    in
    record {
      before = i.before ++ edge ∷ [];
      graph = c.in-Some.ensures.same.graph ∙ i.graph;
      split = append_assoc i.before (edge ∷ []) c.next.new.self.left
          ∙ ap (λ left. i.before ++ left) (sym c.in-Some.ensures.next.first) ∙ i.split;
      known = subst (AllByRecursion (λ (item : StaleEdge). item.edge.0 < count))
          (sym c.in_ok-push_found.ensures)
          (known_more count stale edge found i.known lt (λ item is.
          ap (λ (e : EdgeNo). e.0) (subst (λ (o : Option StaleEdge). IfSome o (λ f. f.edge ≡ c.in-Some.edge))
          is c.stale_edge.ensures.edge)));
      stale_are = λ facts lines judged s fits.
          c.in_ok-push_found.ensures
          ∙ ap (λ (f : Option StaleEdge). stale ++ option_to_list f)
          (c.stale_edge.ensures.stale facts lines s judged fits)
          ∙ more_stale edges s i.before stale edge (i.stale_are facts lines judged s fits);
    }
