use Rattle.std.proofs.Common.{◌≡◌, ℕ, ◌<◌, ◌-◌, length, get_or}
use Rattle.nj_edges.specs.Chains.{inputs_with}
use Rattle.nj_edges.specs.Edges.{edge_at}
use Rattle.nj_names.specs.Files.{path_at}
use Rattle.nj_edges.proofs.graph.EdgeGraph.step_to.Given as goal

abbrev pub invariant-inputs : goal.invariant-inputs
invariant-inputs l =
    (i : ℕ) → i < l.index → i < length (inputs_with l.kinds (edge_at l.self.edges l.edge.0))
    → get_or (inputs_with l.kinds (edge_at l.self.edges l.edge.0)) i (path_at l.self.files l.to)
    ≡ path_at l.self.files l.to → ⊥

abbrev pub decreases-inputs : goal.decreases-inputs
decreases-inputs l = length (inputs_with l.kinds (edge_at l.self.edges l.edge.0)) - l.index
