use Rattle.std.proofs.Common.{sym, ap, ◌∙◌, subst}
use Rattle.sha2.specs.Sha256.{sha256}
use Rattle.nj_graph.specs.Graph.{edges_of}
use Rattle.nj_graph.specs.Handles.{edge_of}
use Rattle.nj_keys.specs.Keys.{IsKey, edges_stated}
use Rattle.nj_keys.proofs.MakerLemmas.{kept-digest}
use Rattle.nj_keys.proofs.StatedLemmas.{needs-stated}
use Rattle.nj_keys.proofs.keys.key_of.Goals as goal

pub returns : goal.returns
returns c entries graph kept =
    let edge = edge_of c.args.edge in
    let edges = edges_of edge.graph in
    let counts = c.args.counts.now in
    let stated = edges_stated counts edges in
    let is = c.digest.ensures ∙ ap sha256 (c.as_slice.ensures.value ∙ c.in_ok-fields.ensures entries graph) in
    subst (IsKey c.args.bases.now stated entries edge.number) (sym is)
    (kept-digest stated c.args.keys.now edge.number c.args.bases.now entries
    (λ f needs. c.requires f (needs-stated counts edges edge.number f needs)) kept)
