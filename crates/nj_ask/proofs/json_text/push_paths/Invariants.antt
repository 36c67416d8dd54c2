use Rattle.std.proofs.Common.{◌≡◌, ◌++◌, drop, map}
use Rattle.serde_json.specs.Data.{array}
use Rattle.serde_json.specs.Written.{compact_text, items_text}
use Rattle.nj_graph.specs.Files.{path_at}
use Rattle.nj_ask.specs.KeyObjects.{path_items}
use Rattle.nj_ask.proofs.json_text.push_paths.Given as goal

abbrev pub invariant-files : goal.invariant-files
invariant-files l =
    l.text.items ++ items_text l.later (path_items (map (path_at l.graph.files) (drop l.file-index l.files)))
    ≡ l.fn.text.items ++ compact_text (array (path_items (map (path_at l.graph.files) l.files)))
