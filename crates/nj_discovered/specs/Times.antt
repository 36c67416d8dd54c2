-- The times of files, as a source reports them.
use Rattle.std.specs.Prelude.{◌≡◌, ℕ, Option, List, IfSome, Result, Ok, Err}
use Rattle.std.specs.Str.{IsUtf8}
use Rattle.nj_scope.specs.declared.source.SourceFault.{SourceFault}
use Rattle.nj_scope.specs.declared.source.SourceFault.TheVariants.{Io, OutOfMemory}
use Rattle.nj_discovered.specs.declared.times.TimeFound.{TimeFound}
use Rattle.nj_discovered.specs.declared.times.TimeFound.TheVariants.{Time, NoAnswer}

-- the answer for each path for which a source declares one
abbrev pub DeclaredTimes : Type 0
DeclaredTimes = List ℕ → Option TimeFound

-- A call of `time`: it is as the source declares for the path, where it declares anything.
abbrev pub AsksTime : DeclaredTimes → (path : List ℕ) → Result (Option ℕ) SourceFault → Type 0
AsksTime declared path (Ok time) = IfSome (declared path) (λ meant. meant ≡ Time time)
AsksTime declared path (Err Io) = IfSome (declared path) (λ meant. meant ≡ NoAnswer)
AsksTime declared path (Err OutOfMemory) = Unit {0}

-- what a source answers at a path; it is not asked for a path that is not UTF-8
pub data IsTimeOf (declared : DeclaredTimes) (path : List ℕ) (found : TimeFound) : Type 0 where
  asked : IsUtf8 path → IfSome (declared path) (λ meant. meant ≡ found) → IsTimeOf declared path found
  not_asked : ¬ IsUtf8 path → found ≡ NoAnswer → IsTimeOf declared path found
