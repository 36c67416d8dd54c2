use Rattle.std.proofs.Common.{map}
use Rattle.nj_graph.specs.declared.EdgeNo.{EdgeNo}
use Rattle.nj_graph.specs.Files.{path_at}
use Rattle.nj_graph.specs.Graph.{files_of}
use Rattle.nj_reached.proofs.FillingLemmas.{filled}
use Rattle.nj_reached.proofs.reached_paths.changed_paths.Goals as goal

pub returns : goal.returns
returns c entries graph =
    filled c.args.graph.now entries c.args.folder.now c.args.roots c.args.changed
    (map (path_at (files_of c.args.graph.now)) c.args.files.now)
    (map (λ (e : EdgeNo). e.0) c.args.touched.now)
    c.without_outputs-paths.result c.fill.new.paths c.without_outputs-paths.ensures
    (c.in_ok-fill.ensures entries graph)
