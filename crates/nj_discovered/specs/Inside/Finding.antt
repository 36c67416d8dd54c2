-- How what edges discover is found and held. Nothing here has to be believed.
use Rattle.std.specs.Prelude.{ℕ, ◌≤◌, List, map, length, slice_range}
use Rattle.std.specs.List.{AllByRecursion}
use Rattle.nj_discovered.specs.Discovered.{Discovery}
use Rattle.nj_discovered.specs.Discoveries.{DiscoveriesModel, FoundModel}
use Rattle.nj_discovered.specs.declared.discoveries.FoundEdge.{FoundEdge}
use Rattle.nj_discovered.specs.declared.verdict.Verdict.{Verdict}
use Rattle.nj_discovered.specs.Inside.Numbers.{Appends, AreBelow, AreCleanNumbers}

-- what an edge discovers was found, and the numbers of the inputs were appended
pub record Finds (IsFound : Discovery → Type 0) (old_names new_names : List (List ℕ)) (old new : List ℕ) (verdict : Verdict) : Type 0 where
  pub inputs : List (List ℕ)
  pub is_found : IsFound (record { verdict = verdict; inputs = inputs })
  pub appends : Appends inputs old_names new_names old new

-- ---- held

abbrev pub found_of : (numbers : List ℕ) → FoundEdge → FoundModel
found_of numbers edge = record { verdict = edge.verdict; inputs = slice_range numbers edge.start edge.end }

abbrev pub found_held : (names : List (List ℕ)) → (numbers : List ℕ) → List FoundEdge → DiscoveriesModel
found_held names numbers edges = record { names = names; edges = map (found_of numbers) edges }

pub record IsWithin (size : ℕ) (edge : FoundEdge) : Type 0 where
  pub rises : edge.start ≤ edge.end
  pub ends : edge.end ≤ size

-- each edge has a part of the numbers, all of which are numbers of names
pub record AreHeld (names : List (List ℕ)) (numbers : List ℕ) (edges : List FoundEdge) : Type 0 where
  pub within : AllByRecursion (IsWithin (length numbers)) edges
  pub below : AreBelow (length names) numbers

-- ---- a finder

pub record IsFinderHeld (log_paths : List (List ℕ)) (log_numbers : List ℕ) (names : List (List ℕ)) (inputs : List ℕ) (edges : List FoundEdge)
    : Type 0 where
  pub numbers : AreCleanNumbers log_paths names log_numbers
  pub held : AreHeld names inputs edges
