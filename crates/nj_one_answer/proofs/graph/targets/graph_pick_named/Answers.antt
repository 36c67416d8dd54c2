use Rattle.std.proofs.Common.{map}
use Rattle.nj_graph.specs.Graph.{edges_of, files_of}
use Rattle.nj_graph.specs.Targets.{targets_named}
use Rattle.nj_agreement.proofs.TargetAnswers.{targets-agree}
use Rattle.nj_one_answer.proofs.graph.targets.graph_pick_named.Goals as goal

pub returns : goal.returns
returns g c =
    let of = c.args.graph.now in
    targets-agree (files_of of) c.files-files.ensures.each_path_once
    (targets_named (edges_of of) (map g.W.AsSlice.items c.args.words.now)) c.pick_named.result
    c.pick_named-2.result c.pick_named.ensures c.pick_named-2.ensures
