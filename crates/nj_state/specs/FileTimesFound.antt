-- The times of files, as a source of them answers.
use Rattle.std.specs.Prelude.{◌≡◌, ℕ, ◌<◌, Option, unwrap_or, List, [], ◌∷◌, length, take}
use Rattle.nj_names.specs.NameTables.{name_at}
use Rattle.nj_discovered.specs.Times.{DeclaredTimes, IsTimeOf}
use Rattle.nj_state.specs.declared.state_fault.StateFault.{StateFault}
use Rattle.nj_state.specs.declared.state_fault.StateFault.TheVariants.{NoTime, OutOfMemory}
use Rattle.nj_discovered.specs.declared.times.TimeFound.TheVariants.{Time, NoAnswer}

-- the time of the file at a path, 0 if the file is missing
abbrev pub HasTime : DeclaredTimes → (path : List ℕ) → (time : ℕ) → Type 0
HasTime declared path time = (found : Option ℕ) × IsTimeOf declared path (Time found) × (time ≡ unwrap_or found 0)

-- the times of the files at the given paths
abbrev pub HaveTimes : DeclaredTimes → (paths : List (List ℕ)) → (times : List ℕ) → Type 0
HaveTimes declared [] [] = Unit {0}
HaveTimes declared (path ∷ paths) (time ∷ times) = HasTime declared path time × HaveTimes declared paths times
HaveTimes declared [] (time ∷ times) = ⊥
HaveTimes declared (path ∷ paths) [] = ⊥

-- the number of the first path for which the source has no answer
pub record IsFirstUnanswered (declared : DeclaredTimes) (paths : List (List ℕ)) (number : ℕ) : Type 0 where
  pub within : number < length paths
  pub earlier : (times : List ℕ) × HaveTimes declared (take number paths) times
  pub none : IsTimeOf declared (name_at paths number) NoAnswer

-- why times are not found: the source has no answer for a file, or memory ran out
abbrev pub FaultsAt : DeclaredTimes → (paths : List (List ℕ)) → StateFault → Type 0
FaultsAt declared paths (NoTime file) = IsFirstUnanswered declared paths file.0
FaultsAt declared paths OutOfMemory = Unit {0}
