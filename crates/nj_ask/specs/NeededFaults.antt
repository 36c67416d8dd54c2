-- The faults of depfiles that a question meets.
use Rattle.std.specs.Prelude.{◌≡◌, ◌↔◌, ℕ, Option, List, Contains, find}
use Rattle.nj_graph.specs.Graph.{edges_of}
use Rattle.nj_graph.specs.Distances.{IsNeeded}
use Rattle.nj_ask.specs.declared.discovered.DiscoveredGraph.{DiscoveredGraph}
use Rattle.nj_ask.specs.declared.doubts.EdgeFault.{EdgeFault}
use Rattle.nj_ask.specs.Manifest.{is_one_of}

-- The first fault of a depfile whose edge the given files need, if any.
pub record IsFirstFault (known : DiscoveredGraph) (files : List (List ℕ)) (found : Option EdgeFault) : Type 0 where
  pub needed : List ℕ
  pub are_needed : (edge : ℕ) → Contains needed edge ↔ IsNeeded (edges_of known.graph) files edge
  pub first : found ≡ find (λ fault. is_one_of needed fault.edge.0) known.faults.items
