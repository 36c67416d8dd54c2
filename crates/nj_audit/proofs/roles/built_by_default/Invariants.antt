use Rattle.std.proofs.Common.{◌≡◌, ◌++◌, ℕ, List, length}
use Rattle.nj_graph.specs.Graph.{edges_of}
use Rattle.nj_audit.specs.Roles.{built_by_default}
use Rattle.nj_audit.specs.Inside.RolesHeld.{HasNumbers}
use Rattle.nj_audit.proofs.HandleLemmas.{AreOf, numbers_of}
use Rattle.nj_audit.proofs.roles.built_by_default.Given as goal

abbrev pub invariant-edges : goal.invariant-edges
invariant-edges l = record {
  before : List ℕ;
  all : built_by_default l.graph ≡ before ++ numbers_of l.edge-iterator;
  of : AreOf l.graph l.edge-iterator;
  held : HasNumbers (length (edges_of l.graph)) before l.built;
}
