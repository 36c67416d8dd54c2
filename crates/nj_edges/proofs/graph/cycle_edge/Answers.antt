use Rattle.std.proofs.Common.{◌∙◌, Some, ap, sym}
use Rattle.nj_edges.proofs.CycleLemmas.{first-path}
use Rattle.nj_edges.proofs.graph.cycle_edge.Goals as goal

pub returns-clause-output : goal.returns-clause-output
returns-clause-output c =
    first-path c.args.files.now c.args.outputs.now _ c.path.result.now c.requires.some c.path.ensures
    ∙ ap Some (sym c.in_ok-output.ensures.items)
