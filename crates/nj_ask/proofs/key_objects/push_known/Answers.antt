use Rattle.std.proofs.Common.{◌≡◌, ◌∙◌, OnOk, ap, drop, map, subst, sym}
use Rattle.std.proofs.lemmas.List.{drop-map}
use Rattle.serde_json.specs.Data.{array}
use Rattle.nj_graph.specs.Edges.{edge_at}
use Rattle.nj_graph.specs.Files.{path_at}
use Rattle.nj_ask.specs.KeyObjects.{path_items}
use Rattle.nj_ask.specs.Inside.JsonTexts.{AddsValue}
use Rattle.nj_ask.proofs.StatedLemmas.{paths-are}
use Rattle.nj_ask.proofs.key_objects.push_known.Goals as goal

pub returns : goal.returns
returns c =
    let files = c.args.graph.now.files in
    let e = edge_at c.args.graph.now.edges c.args.edge.0 in
    let inputs = c.implicit_input_files-inputs.result.now in
    let same : map (path_at files) c.files_from.result.now ≡ drop c.args.stated e.implicit_inputs =
    ap (map (path_at files)) c.files_from.ensures ∙ sym (drop-map (path_at files) c.args.stated inputs)
    ∙ ap (drop c.args.stated)
    (paths-are files inputs e.implicit_inputs c.implicit_input_files-inputs.ensures.files) in
    subst (λ ps. OnOk c.push_paths.result (AddsValue (array (path_items ps)) c.args.text.now.items
    c.push_paths.new.text.items)) same c.push_paths.ensures
