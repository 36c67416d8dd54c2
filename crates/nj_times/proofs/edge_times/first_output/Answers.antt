use Rattle.std.proofs.Common.{◌∙◌, Some, [], ap, sym}
use Rattle.std.specs.Prelude.{option_map, slice_get, unwrap_or}
use Rattle.nj_names.specs.Files.{path_at}
use Rattle.nj_edges.specs.Edges.{edge_at, outputs_of}
use Rattle.nj_edges.proofs.ChangeLemmas.{files-paths}
use Rattle.nj_times.proofs.OrderLemmas.{get_map}
use Rattle.nj_times.proofs.edge_times.first_output.Goals as goal

pub returns : goal.returns
returns c =
    let files = c.args.graph.now.files in
    let paths = outputs_of (edge_at c.args.graph.now.edges c.args.edge.0) in
    ap (λ (o : _). Some (unwrap_or o [])) (sym c.path.ensures)
    ∙ ap (option_map (path_at files)) c.in_ok-output.ensures.value
    ∙ sym (get_map (path_at files) c.outputs.result.now 0)
    ∙ ap (λ ps. slice_get ps 0) (files-paths files c.outputs.result.now paths c.outputs.ensures.files)
