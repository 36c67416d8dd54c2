use Rattle.std.proofs.Common.{drop, subst}
use Rattle.nj_names.specs.Files.{AreFiles}
use Rattle.nj_edges.specs.EdgeTables.{EdgeTable}
use Rattle.nj_edges.proofs.NamedLemmas.{open-files}
use Rattle.nj_edges.proofs.edges.Edges.open_output_files.Goals as goal

pub returns : goal.returns
returns c =
    rw (c.after.ensures, c.deref.ensures.value)
    (subst (λ (t : EdgeTable). AreFiles t.files
    (drop c.self.inside.lists.starts.outputs c.self.inside.lists.outputs.items) t.«open».outputs)
    c.self.view_is
    (open-files c.self.inside.files c.self.inside.lists.outputs.items c.self.inside.lists.starts.outputs
    c.self.invariant.edges_are.outputs.are))
