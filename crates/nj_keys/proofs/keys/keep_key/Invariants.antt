use Rattle.std.proofs.Common.{ℕ, ◌+◌, ◌-◌, ◌*◌, List, length, reverse}
use Rattle.nj_graph.specs.ReadingList.{ReadStatement}
use Rattle.nj_graph.specs.Graph.{edges_of, IsGraphOf}
use Rattle.nj_graph.specs.Handles.{edge_of}
use Rattle.nj_keys.specs.Keys.{edges_stated}
use Rattle.nj_keys.specs.Inside.Keeping.{missing, AreOpen, BeganWith, IsRank, KeepsKeys}
use Rattle.nj_keys.proofs.keys.keep_key.Given as goal

abbrev pub invariant-open : goal.invariant-open
invariant-open l =
    let graph = (edge_of l.edge).graph in
    record {
      rank : ℕ → ℕ;
      ranked : IsRank (edges_of graph) rank;
      frames : AreOpen graph l.keys rank 0 (reverse l.open.items);
      began : BeganWith l.keys (edge_of l.edge).number (reverse l.open.items);
      keys : (entries : List ReadStatement) → IsGraphOf graph entries
          → KeepsKeys l.bases (edges_stated l.counts (edges_of graph)) entries l.fn.keys
          → KeepsKeys l.bases (edges_stated l.counts (edges_of graph)) entries l.keys;
    }

abbrev pub decreases-open : goal.decreases-open
decreases-open l =
    2 * missing l.keys + (length (edges_of (edge_of l.edge).graph) + 1 - length l.open.items)
