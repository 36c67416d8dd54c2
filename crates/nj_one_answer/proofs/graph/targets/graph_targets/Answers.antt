use Rattle.std.proofs.Common.{map}
use Rattle.nj_graph.specs.Graph.{edges_of}
use Rattle.nj_statements.specs.Built.{defaults_in_force}
use Rattle.nj_graph.specs.Targets.{targets_or}
use Rattle.nj_agreement.proofs.TargetAnswers.{files-agree}
use Rattle.nj_one_answer.proofs.graph.targets.graph_targets.Goals as goal

pub returns : goal.returns
returns g c =
    let of = c.args.graph.now in
    files-agree of (targets_or (defaults_in_force of.built.defaults (edges_of of)) (edges_of of)
    (map g.W.AsSlice.items c.args.words.now)) c.targets.result c.targets-2.result c.targets.ensures
    c.targets-2.ensures
