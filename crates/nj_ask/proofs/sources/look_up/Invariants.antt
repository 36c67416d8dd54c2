use Rattle.std.proofs.Common.{◌≡◌, ◌++◌, ℕ, List}
use Rattle.nj_graph.specs.Graph.{files_of}
use Rattle.nj_graph.specs.Handles.{files_in}
use Rattle.nj_ask.specs.Audits.{LookUp}
use Rattle.nj_ask.proofs.sources.look_up.Given as goal

abbrev pub invariant-files : goal.invariant-files
invariant-files g l =
    (done : List (List ℕ)) × (left : List (List ℕ))
    × LookUp l.graph (g.T.FileTimes.times l.times) done l.missing.items l.unknown.items
    × (l.file-iterator ≡ files_in l.graph left) × (done ++ left ≡ files_of l.graph)
