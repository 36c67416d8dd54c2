use Rattle.std.proofs.Common.{◌∙◌, ◌-◌, ap, length, sym}
use Rattle.nj_edges.proofs.EdgeLemmas.{length-open}
use Rattle.nj_edges.proofs.edges.Edges.open_outputs.Goals as goal

pub returns : goal.returns
returns c =
    ap (λ ns. length ns - c.self.inside.lists.starts.outputs) c.as_slice.ensures.value
    ∙ sym (length-open c.self.inside.files c.self.inside.lists.outputs.items
    c.self.inside.lists.starts.outputs)
    ∙ ap (λ t. length t.«open».outputs) c.self.view_is
