use Rattle.std.proofs.Common.{map}
use Rattle.nj_names.specs.Files.{path_at}
use Rattle.nj_needs.specs.Growing.{grown_targets}
use Rattle.nj_agreement.proofs.FileNumbers.{lists-agree}
use Rattle.nj_one_answer.proofs.needs.grow_targets.Goals as goal

pub returns : goal.returns
returns c = lists-agree c.args.graph.now.files c.file_count.ensures.each_path_once
    (grown_targets c.args.graph.now.edges (map (path_at c.args.graph.now.files) c.args.targets.now))
    c.grow_targets.result c.grow_targets-2.result c.grow_targets.ensures.grown c.grow_targets-2.ensures.grown
