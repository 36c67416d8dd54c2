use Rattle.std.proofs.Common.{◌≡◌, ◌++◌, ℕ, List, length}
use Rattle.std.specs.Prelude.{All}
use Rattle.nj_graph.specs.Inside.UndeclaredFound.{AreMade, IsKnownIfAny}
use Rattle.nj_graph.proofs.made_files.made_files.Given as goal

-- some paths were taken, and the others are left
abbrev pub invariant-paths : goal.invariant-paths
invariant-paths l = record {
  taken : List (List ℕ);
  paths : taken ++ l.path-iterator ≡ l.log.paths;
  count : length l.made.items ≡ length taken;
  made : AreMade l.graph l.log.paths l.made.items;
  known : All (IsKnownIfAny l.graph) l.made.items;
}
