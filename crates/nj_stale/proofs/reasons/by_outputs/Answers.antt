use Rattle.std.proofs.Common.{◌∙◌}
use Rattle.nj_edges.specs.Edges.{edge_at}
use Rattle.nj_stale.proofs.FoundLemmas.{outputs_by_path}
use Rattle.nj_stale.proofs.reasons.by_outputs.Goals as goal

pub returns : goal.returns
returns c =
    c.first_of_outputs.ensures
    ∙ outputs_by_path c.args.graph.now c.args.times.now c.requires.distinct c.requires.times
    c.args.log.now.lines c.args.facts c.args.newest c.outputs.result.now
    (edge_at c.args.graph.now.edges c.args.edge.0) c.outputs.ensures.files
