-- The readings of a run from its source, and how it ends.
use Rattle.std.specs.Prelude.{◌≡◌, ◌⊎◌, ℕ, false, Some, List, [], ◌∷◌, ◌++◌, ⊤}
use Rattle.nj_scope.specs.Readings.{Reading, EachPathOnce, is_read, paths_of, IsPrefix}
use Rattle.nj_scope.specs.Sources.{SourceState, HasRead, Rises}
use Rattle.nj_faults.specs.declared.fault.GraphFault.{GraphFault}
use Rattle.nj_faults.specs.declared.fault.Cause.TheVariants.{Io}
use Rattle.nj_faults.specs.Faults.{no_memory}
use Rattle.nj_graph.specs.Reading.{End, Whole, Refused, Lacking, ReadingModel}

-- The readings from the source are appended to the earlier files, each path once.
pub record IsRead (before after : SourceState) (old files : List Reading) : Type 0 where
  pub readings : List Reading
  pub added : files ≡ old ++ readings
  pub read : HasRead before after readings
  pub once : EachPathOnce files

-- ---- how a run stops

-- The fault of a run if its reading ends this way. A file is reported as unreadable exactly where the source failed at
-- its path.
abbrev pub IsEnd : (before after : SourceState) → End → GraphFault → Type 0
IsEnd before after Whole fault = ⊥
IsEnd before after (Refused expected) fault = (fault ≡ expected) × (after.failures ≡ before.failures)
IsEnd before after (Lacking path place) fault =
    (fault ≡ record { place = Some place; cause = Io path }) × Rises before.failures after.failures

-- the path at which the reading ends was not read
abbrev pub IsLacking : End → List Reading → Type 0
IsLacking (Lacking path place) files = is_read files path ≡ false
IsLacking end files = ⊤

-- the requested paths: the paths of the files, and the lacking path
abbrev pub paths_with : End → List Reading → List (List ℕ)
paths_with (Lacking path place) files = paths_of files ++ path ∷ []
paths_with end files = paths_of files

-- The reading by some files: the statements, and how it ends; and the paths that it reaches, including the path at its end.
pub record ReachedModel : Type 0 where
  pub read : ReadingModel
  pub paths : List (List ℕ)

-- By the given files the reading ends as reported, whatever other files contain; and all paths that it reaches were read.
pub record EndsSo (before after : SourceState) (files : List Reading) (reading : List Reading → ReachedModel) (fault : GraphFault)
    : Type 0 where
  pub reached : ReachedModel
  pub answered : IsEnd before after reached.read.end fault
  pub read : (all : List Reading) → IsPrefix files all → IsLacking reached.read.end all → reading all ≡ reached
  pub came_to : reached.paths ≡ paths_with reached.read.end files

-- Out of memory. The paths that were read are those that the reading reaches first, and the source did not fail.
pub record LacksMemory (before after : SourceState) (files : List Reading) (reading : List Reading → ReachedModel) (fault : GraphFault)
    : Type 0 where
  pub answered : fault ≡ no_memory
  pub failures : after.failures ≡ before.failures
  pub came_to : (all : List Reading) → IsPrefix files all → IsPrefix (paths_of files) (reading all).paths

-- the reading ends with the given fault, or ran out of memory
abbrev pub Stops : (before after : SourceState) → (files : List Reading) → (reading : List Reading → ReachedModel) → GraphFault → Type 0
Stops before after files reading fault = LacksMemory before after files reading fault ⊎ EndsSo before after files reading fault
