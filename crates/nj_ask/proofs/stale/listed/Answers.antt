use Rattle.std.proofs.Common.{◌<◌, ◌++◌, [], All, length, map, not, sym, ap, subst, ◌∙◌}
use Rattle.std.proofs.lemmas.List.Elements.{All-map}
use Rattle.nj_state.specs.declared.commands.StaleEdge.{StaleEdge}
use Rattle.nj_graph.specs.declared.EdgeNo.{EdgeNo}
use Rattle.nj_graph.specs.Graph.{edges_of}
use Rattle.nj_ask.specs.Shape.{dyndep_text}
use Rattle.nj_ask.proofs.LineLemmas.{map-map}
use Rattle.nj_ask.proofs.StaleLemmas.{empty-is}
use Rattle.nj_ask.proofs.stale.listed.Goals as goal

pub caveat_lines_of-requires : goal.caveat_lines_of-requires
caveat_lines_of-requires c =
    let Below = λ (edge : EdgeNo). edge.0 < length (edges_of c.args.known.now.graph) in
    subst (All Below) (sym (c.deref.ensures.value ∙ c.in_ok-edges.ensures))
    (All-map Below (λ (item : StaleEdge). item.edge) c.args.stale.now c.requires.stale)

pub returns : goal.returns
returns c = λ entries graph times is.
    let known = c.args.known.now in
    record {
      output = c.in_ok-output.ensures entries times is;
      looks = ap not (c.is_empty.ensures ∙ empty-is c.args.stale.now);
      warnings = c.in_ok-warnings.ensures entries graph
          ∙ ap (λ edges. known.caveats.items ++ dyndep_text known.graph entries [] edges)
          (ap (map (λ (edge : EdgeNo). edge.0)) (c.deref.ensures.value ∙ c.in_ok-edges.ensures)
          ∙ map-map (λ (edge : EdgeNo). edge.0) (λ (item : StaleEdge). item.edge) c.args.stale.now);
    }
