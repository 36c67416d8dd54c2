use Rattle.std.proofs.Common.{ℕ, List, map, take}
use Rattle.nj_text.specs.Paths.{clean_path_of}
use Rattle.nj_names.specs.NameTables.{name_at}
use Rattle.nj_deps.specs.Logs.{numbers_of}
use Rattle.nj_graph.specs.Undeclared.{AreThose, InputOfEdge, IsUndeclared, input_of_edge}
use Rattle.nj_graph.specs.Inside.UndeclaredFound.{AreMade, FindsAt, IsFound}
use Rattle.nj_graph.proofs.found_inputs.FoundInputs.add_edge.Given as goal

abbrev pub invariant-numbers : goal.invariant-numbers
invariant-numbers l = record {
  found : IsFound l.graph l.self;
  added : (paths : List (List ℕ)) (before : List InputOfEdge) → AreMade l.graph paths l.made
      → AreThose (IsUndeclared l.graph.edges) before
      (map (input_of_edge l.graph.files) l.fn.self.inputs.items)
      → FindsAt l.graph l.edge.0 before (map clean_path_of
      (map (name_at paths) (numbers_of (take l.number-index l.numbers)))) l.self;
}
