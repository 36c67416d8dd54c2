use Rattle.std.proofs.Common.{◌∙◌, ◌-◌, ap, length, sym}
use Rattle.nj_edges.proofs.EdgeLemmas.{length-open}
use Rattle.nj_edges.proofs.edges.Edges.open_inputs.Goals as goal

pub returns : goal.returns
returns c =
    ap (λ ns. length ns - c.self.inside.lists.starts.inputs) c.as_slice.ensures.value
    ∙ sym (length-open c.self.inside.files c.self.inside.lists.inputs.items c.self.inside.lists.starts.inputs)
    ∙ ap (λ t. length t.«open».inputs) c.self.view_is
