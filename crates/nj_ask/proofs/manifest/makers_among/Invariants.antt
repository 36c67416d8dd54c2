use Rattle.std.proofs.Common.{◌≡◌, ◌<◌, ℕ, All, List, length, map, take}
use Rattle.std.specs.List.{filter}
use Rattle.nj_graph.specs.ReadingList.{ReadStatement}
use Rattle.nj_graph.specs.Graph.{edges_of, IsGraphOf}
use Rattle.nj_ask.specs.Inside.Flags.{AreFlags}
use Rattle.nj_ask.specs.Manifest.{makers_of_opened, makes_manifest}
use Rattle.nj_ask.proofs.manifest.makers_among.Given as goal

abbrev pub invariant-edges : goal.invariant-edges
invariant-edges l = record {
  makers : (opened : List ℕ) → AreFlags (length (edges_of l.graph)) (makers_of_opened l.graph opened) l.flags
      → (entries : List ReadStatement) → IsGraphOf l.graph entries
      → map (λ edge. edge.0) l.makers.items
      ≡ filter (makes_manifest l.graph opened entries) (map (λ edge. edge.0) (take l.edge-index l.edges));
  known : All (λ edge. edge.0 < length (edges_of l.graph)) l.makers.items;
}
