use Rattle.std.proofs.Common.{◌≡◌}
use Rattle.std.specs.List.{fold}
use Rattle.nj_questions.specs.Questions.{draw_model}
use Rattle.nj_ask.specs.DrawnNodes.{mention_edge, mentioned, up_to}
use Rattle.nj_ask.proofs.mentions.drawn_nodes.Given as goal

abbrev pub invariant-edges : goal.invariant-edges
invariant-edges l =
    let options = draw_model l.options in
    up_to options.limit (fold (mention_edge options) l.nodes l.edge-iterator)
    ≡ up_to options.limit (mentioned options l.fn.files l.fn.edges)
