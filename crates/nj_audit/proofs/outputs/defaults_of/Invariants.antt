use Rattle.std.proofs.Common.{◌≡◌, ◌||◌, ℕ, List}
use Rattle.nj_graph.specs.Edges.{is_among}
use Rattle.nj_audit.specs.Audit.{defaults_of}
use Rattle.nj_audit.specs.Inside.Handles.{AreIn}
use Rattle.nj_audit.proofs.HandleLemmas.{paths_in}
use Rattle.nj_audit.proofs.outputs.defaults_of.Given as goal

abbrev pub invariant-files : goal.invariant-files
invariant-files l = record {
  graph : l.defaults.graph ≡ l.graph;
  of : AreIn l.graph l.file-iterator;
  paths : (path : List ℕ) → (is_among l.defaults.paths path || is_among (paths_in l.file-iterator) path)
      ≡ is_among (defaults_of l.graph) path;
}
