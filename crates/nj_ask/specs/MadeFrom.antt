-- Which of the given files the manifest is made from.
use Rattle.std.specs.Prelude.{◌≡◌, ◌↔◌, ℕ, Bool, true, List, [], ◌∷◌}
use Rattle.nj_graph.specs.ReadingList.{ReadStatement}
use Rattle.nj_graph.specs.Graph.{GraphModel, IsGraphOf}
use Rattle.nj_ask.specs.Manifest.{IsMadeFrom}

-- for each of the files, whether the manifest is made from it
abbrev pub AreMadeFrom : GraphModel → List ReadStatement → (files : List ℕ) → (made : List Bool) → Type 0
AreMadeFrom g stated [] made = made ≡ []
AreMadeFrom g stated (file ∷ files) [] = ⊥
AreMadeFrom g stated (file ∷ files) (is ∷ made) = ((is ≡ true) ↔ IsMadeFrom g stated file) × AreMadeFrom g stated files made

-- the same for the statements of a graph
abbrev pub TellMadeFrom : GraphModel → (files : List ℕ) → (made : List Bool) → Type 0
TellMadeFrom g files made = (stated : List ReadStatement) → IsGraphOf g stated → AreMadeFrom g stated files made
