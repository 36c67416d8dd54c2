use Rattle.std.proofs.Common.{◌≡◌, ◌++◌, drop}
use Rattle.serde_json.specs.Data.{array}
use Rattle.serde_json.specs.Written.{compact_text, items_text}
use Rattle.nj_graph.specs.Edges.{edges_from}
use Rattle.nj_ask.specs.KeyObjects.{bases_named, is_named_base, number_items}
use Rattle.nj_ask.proofs.key_texts.push_bases.Given as goal

abbrev pub invariant-bases : goal.invariant-bases
invariant-bases l = l.text.items
    ++ items_text l.later (number_items (edges_from l.number (is_named_base l.texts) (drop l.number l.bases)))
    ≡ l.fn.text.items ++ compact_text (array (number_items (bases_named l.bases l.texts)))
