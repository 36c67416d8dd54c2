use Rattle.std.proofs.Common.{map}
use Rattle.nj_graph.specs.Graph.{edges_of, files_of}
use Rattle.nj_statements.specs.Built.{defaults_in_force}
use Rattle.nj_graph.specs.Targets.{targets_or}
use Rattle.nj_agreement.proofs.TargetAnswers.{targets-agree}
use Rattle.nj_one_answer.proofs.graph.targets.graph_pick_targets.Goals as goal

pub returns : goal.returns
returns g c =
    let of = c.args.graph.now in
    targets-agree (files_of of) c.files-files.ensures.each_path_once
    (targets_or (defaults_in_force of.built.defaults (edges_of of)) (edges_of of)
    (map g.W.AsSlice.items c.args.words.now)) c.pick_targets.result c.pick_targets-2.result
    c.pick_targets.ensures.picks c.pick_targets-2.ensures.picks
