use Rattle.nj_graph.specs.Handles.{edge_in, edge_of}
use Rattle.nj_tools.proofs.EdgeLists.{no_maker}
use Rattle.nj_tools.proofs.target_lists.is_source.Goals as goal

pub returns : goal.returns
returns c =
    no_maker edge_of (edge_in c.args.file.graph.now) c.maker.result _ c.is_none.result c.maker.ensures
    c.is_none.ensures
