-- The files that C supplies, as a source of files.
use Rattle.std.specs.Prelude.{◌≡◌, ℕ, List, [], Option, Some, None, option_and_then, is_some, unwrap_or, position, slice_get, bytes_eq, if◌then◌else◌}
use Rattle.std.specs.List.{AllByRecursion, filter_map}
use Rattle.nj_scope.specs.Readings.{Reading}
use Rattle.nj_scope.specs.Sources.{SourceState}

-- the known paths, without duplicates, and for each its bytes, or that no file is there; and the readings
pub record Supplied : Type 0 where
  pub paths : List (List ℕ)
  pub files : List (Option (List ℕ))
  pub read : List Reading

-- the file supplied for a path: bytes, or that no file is there; `None` if nothing was supplied
abbrev pub supplied_for : Supplied → List ℕ → Option (Option (List ℕ))
supplied_for h path = option_and_then (slice_get h.files) (position (bytes_eq path) h.paths)

-- the same was supplied, for each path
abbrev pub SameFiles : (before after : Supplied) → Type 0
SameFiles before after = (path : List ℕ) → supplied_for after path ≡ supplied_for before path

-- the paths that were read and not supplied
abbrev pub wanted_paths : Supplied → List (List ℕ)
wanted_paths h = filter_map (λ r. if is_some (supplied_for h r.path) then None else Some r.path) h.read

-- the reading of the file at a path: as it was supplied, or an empty file if nothing was
abbrev pub reads_as : Supplied → List ℕ → Option (List ℕ)
reads_as h path = unwrap_or (supplied_for h path) (Some [])

-- each reading found the file as it was supplied
abbrev pub ReadsAsSupplied : Supplied → Type 0
ReadsAsSupplied h = AllByRecursion (λ r. r.bytes ≡ reads_as h r.path) h.read

-- it reports the readings, and never fails; it declares the supplied files
abbrev pub supplied_state : Supplied → SourceState
supplied_state h = record { readings = Some h.read; failures = 0; files = supplied_for h }

-- The given file is supplied for a path, and the files for other paths are unchanged. Earlier readings are forgotten.
pub record SetsFile (before after : Supplied) (path : List ℕ) (file : Option (List ℕ)) : Type 0 where
  pub files : (other : List ℕ) → supplied_for after other ≡ (if bytes_eq other path then Some file else supplied_for before other)
  pub read : after.read ≡ []
