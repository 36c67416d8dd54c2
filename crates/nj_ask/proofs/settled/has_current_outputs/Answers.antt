use Rattle.std.proofs.Common.{◌∙◌, ap, map, slice_get, subst, sym}
use Rattle.nj_graph.specs.declared.FileNo.{FileNo}
use Rattle.nj_edges.specs.Edges.{counted_inputs_of, edge_at, outputs_of}
use Rattle.nj_names.specs.Files.{path_at}
use Rattle.nj_ask.specs.Settled.{HasCurrentOutputs}
use Rattle.nj_ask.specs.Inside.TimesAt.{AreTimesAt}
use Rattle.nj_ask.proofs.LineLemmas.{files-paths}
use Rattle.nj_ask.proofs.SettledLemmas.{current-outputs}
use Rattle.nj_ask.proofs.settled.has_current_outputs.Goals as goal

pub returns : goal.returns
returns g c =
    let declared = g.T.FileTimes.times c.args.times.now in
    let graph = c.args.graph.now in
    let e = edge_at graph.edges c.args.edge.0 in
    let at = path_at graph.files in
    let outputs = files-paths (λ (f : FileNo). slice_get graph.files f.0) c.outputs.result.now (outputs_of e)
    c.outputs.ensures.files in
    let inputs = ap (map at) c.deref.ensures.value
    ∙ files-paths (λ (f : FileNo). slice_get graph.files f.0) c.in_ok-files.files.items (counted_inputs_of e)
    c.in_ok-files.ensures.files in
    subst (HasCurrentOutputs declared e) (sym c.are_current_if.ensures)
    (current-outputs declared e c.in_ok-outputs.outputs c.in_ok-inputs.inputs
    (subst (λ ps. AreTimesAt declared ps c.in_ok-outputs.outputs) outputs c.in_ok-outputs.ensures)
    (subst (λ ps. AreTimesAt declared ps c.in_ok-inputs.inputs) inputs c.in_ok-inputs.ensures))
