use Rattle.std.proofs.Common.{◌≡◌, ◌++◌, drop, map}
use Rattle.serde_json.specs.Data.{Items}
use Rattle.serde_json.specs.Written.{items_text}
use Rattle.nj_names.specs.NameTables.{name_at}
use Rattle.nj_ask.specs.KeyObjects.{input_items, inputs_among}
use Rattle.nj_ask.proofs.key_inputs.push_files.Given as goal

abbrev pub invariant-files : goal.invariant-files
invariant-files l = (rest : Items) → l.text.items ++ items_text l.after
    (input_items (inputs_among l.graph.edges l.kind
    (map (name_at l.graph.files) (drop l.number-index l.numbers))) rest)
    ≡ l.fn.text.items ++ items_text l.fn.later
    (input_items (inputs_among l.graph.edges l.kind (map (name_at l.graph.files) l.numbers)) rest)
