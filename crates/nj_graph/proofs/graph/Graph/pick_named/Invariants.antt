use Rattle.std.proofs.Common.{◌≡◌, ℕ, Ok, List, map, take}
use Rattle.nj_names.specs.Files.{AreFiles}
use Rattle.nj_graph.specs.Graph.{edges_of, files_of}
use Rattle.nj_graph.specs.Targets.{targets_named}
use Rattle.nj_graph.proofs.graph.Graph.pick_named.Given as goal

abbrev pub invariant-words : goal.invariant-words
invariant-words g l =
    (paths : List (List ℕ)) × (targets_named (edges_of l.self)
    (map g.W.AsSlice.items (take l.word-index l.words)) ≡ Ok paths)
    × AreFiles (files_of l.self) l.files.items paths
