-- Worked rows, computed on the definitions: where rules, pools and files come from.
use Rattle.std.proofs.Common.{◌≡◌, ℕ, Some, None, List, [], ◌∷◌, refl}
use Rattle.std.specs.Prelude.{codes}
use Rattle.nj_manifest.proofs.StatementRows.{at}
use Rattle.nj_scope.specs.Readings.{Reading}
use Rattle.nj_faults.specs.declared.fault.Place.{Place}
use Rattle.nj_graph.specs.Origins.{OriginsModel, main_opening, origins_read}
use Rattle.nj_graph.proofs.ReadingRows.{on_files, main_file, file, read_of}

abbrev origins_of : (text : List ℕ) → (others : List Reading) → OriginsModel
origins_of text others = origins_read main_file (read_of text others).entries

-- the place of a line of a file
abbrev line : (path : List ℕ) → (number : ℕ) → Place
line path number = record { file = path; spot = at number 1 }

nothing : origins_of [] [] ≡ record { rules = None ∷ []; pools = []; openings = main_opening main_file ∷ [] }
unfolding on_files
nothing = refl

-- rules of two scopes
two_rules : (origins_of (codes "rule a\n  command = c\nsubninja s\n")
    (file (codes "s") (codes "\nrule a\n  command = c\n") ∷ [])).rules
    ≡ None ∷ Some (line main_file 1) ∷ Some (line (codes "s") 2) ∷ []
unfolding on_files
two_rules = refl

-- the last depth, by the bindings before the pool
last_depth : (origins_of (codes "n = 3\npool p\n  depth = 1\n  depth = ${n}2x\nn = 4\n") []).pools
    ≡ record { place = line main_file 2; depth = 32 } ∷ []
unfolding on_files
last_depth = refl

-- a file that is opened again
opened_again : (origins_of (codes "include r\nsubninja s\n")
    (file (codes "r") (codes "v = 1\n") ∷ file (codes "s") (codes "include r\n") ∷ [])).openings
    ≡ main_opening main_file
    ∷ record { path = codes "r"; named_at = Some (line main_file 1); scope = 0 }
    ∷ record { path = codes "s"; named_at = Some (line main_file 2); scope = 1 }
    ∷ record { path = codes "r"; named_at = Some (line (codes "s") 1); scope = 1 } ∷ []
unfolding on_files
opened_again = refl
