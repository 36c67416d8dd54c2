use Rattle.std.proofs.Common.{ap, sym, ◌∙◌}
use Rattle.std.specs.List.{fold}
use Rattle.nj_graph.specs.Handles.{edge_of}
use Rattle.nj_questions.specs.Questions.{draw_model}
use Rattle.nj_ask.specs.DrawnNodes.{mention_edge, up_to}
use Rattle.nj_ask.proofs.MentionLemmas.{full-skips}
use Rattle.nj_ask.proofs.mentions.drawn_nodes.Goals as goal

pub edges-preserved : goal.edges-preserved
edges-preserved c =
    let options = draw_model c.args.options.now in
    let nodes = c.edges.nodes in
    full-skips options (edge_of c.in-Some.edge) c.next.new.self nodes options.limit
    (sym c.is_full.ensures ∙ c.if-not-is_full.false)
    ∙ ap (λ edges. up_to options.limit (fold (mention_edge options) nodes edges))
    (sym c.in-Some.ensures.steps)
    ∙ c.edges.invariant
