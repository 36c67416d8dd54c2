use Rattle.std.proofs.Common.{◌≡◌, ◌++◌, drop, length}
use Rattle.nj_graph.specs.ReadingList.{ReadStatement}
use Rattle.nj_graph.specs.Graph.{files_of, IsGraphOf}
use Rattle.std.specs.Prelude.{List}
use Rattle.nj_ask.specs.KeyObjects.{key_objects}
use Rattle.nj_ask.proofs.key_objects.key_objects.Given as goal

abbrev pub invariant-keys : goal.invariant-keys
invariant-keys l = record {
  limit : l.found.limit ≡ length (files_of l.known.graph);
  text : (entries : List ReadStatement) → IsGraphOf l.known.graph entries → l.text.items
      ++ key_objects l.known.graph entries l.known.discoveries.items l.bases (drop l.next-index l.keys)
      ≡ key_objects l.known.graph entries l.known.discoveries.items l.bases l.keys;
}
