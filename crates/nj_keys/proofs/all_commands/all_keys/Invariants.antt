use Rattle.std.proofs.Common.{◌<◌, List, length, map}
use Rattle.std.specs.Prelude.{All}
use Rattle.nj_graph.specs.ReadingList.{ReadStatement}
use Rattle.nj_graph.specs.Graph.{edges_of, IsGraphOf}
use Rattle.nj_keys.specs.Keys.{HaveKeys, edges_stated}
use Rattle.nj_keys.specs.Inside.Keeping.{KeepsKeys}
use Rattle.nj_keys.specs.declared.pages.EdgeKey.{EdgeKey}
use Rattle.nj_keys.proofs.CommandLemmas.{first_commands}
use Rattle.nj_keys.proofs.all_commands.all_keys.Given as goal

abbrev pub invariant-edges : goal.invariant-edges
invariant-edges l = record {
  kept : (entries : List ReadStatement) → IsGraphOf l.graph entries
      → KeepsKeys l.bases (edges_stated l.counts (edges_of l.graph)) entries l.kept_keys;
  keys : (entries : List ReadStatement) → IsGraphOf l.graph entries
      → HaveKeys (map (λ text. text.now) l.additions) l.bases (edges_stated l.counts (edges_of l.graph))
      entries
      (first_commands (edges_of l.graph) l.number) l.keys.items;
  known : All (λ (next : EdgeKey). next.edge.0 < length (edges_of l.graph)) l.keys.items;
}
