use Rattle.std.proofs.Common.{ap}
use Rattle.nj_edges.proofs.ChangeLemmas.{files-paths}
use Rattle.nj_graph.specs.Graph.{files_of}
use Rattle.nj_graph.specs.Handles.{files_in}
use Rattle.nj_graph.proofs.handle_lists.Files.new.Goals as goal

pub returns-clause-paths : goal.returns-clause-paths
returns-clause-paths c paths are =
    let graph = c.args.graph.now in
    ap (files_in graph) (files-paths (files_of graph) c.args.numbers.now paths are)
