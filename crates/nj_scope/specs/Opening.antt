-- Opening a file: its result, and its effect on the table of files and on the source.
use Rattle.std.specs.Prelude.{◌≡◌, ◌⊎◌, ℕ, true, false, Option, option_map, List, [], ◌∷◌, ◌++◌, Result, Ok, Err, ⊤}
use Rattle.std.specs.Global.{Global}
use Rattle.std.specs.Rc.{rc_slice_items}
use Rattle.std.specs.declared.rc.RcSlice.{RcSlice}
use Rattle.nj_scope.specs.Readings.{Reading, is_read, bytes_in}
use Rattle.nj_scope.specs.Sources.{SourceState, HasRead, Rises}
use Rattle.nj_scope.specs.declared.source.SourceFault.{SourceFault}
use Rattle.nj_scope.specs.declared.source.SourceFault.TheVariants.{Io, OutOfMemory}

-- The path was read before: the table returns it, and the source is not read.
pub record IsKnown (before after : SourceState) (old new : List Reading) (path : List ℕ) (found : Option (List ℕ)) : Type 0 where
  pub was_read : is_read old path ≡ true
  pub found_is : found ≡ bytes_in old path
  pub table_stays : new ≡ old
  pub source_stays : after ≡ before

-- The path is new: it was read once from the source, and the reading is kept.
pub record IsReadNow (before after : SourceState) (old new : List Reading) (reading : Reading) : Type 0 where
  pub was_not_read : is_read old reading.path ≡ false
  pub read : HasRead before after (reading ∷ [])
  pub failures : after.failures ≡ before.failures
  pub kept : new ≡ old ++ reading ∷ []

-- The source failed at a new path. The table is unchanged.
pub record CannotBeRead (before after : SourceState) (old new : List Reading) (path : List ℕ) : Type 0 where
  pub was_not_read : is_read old path ≡ false
  pub read : HasRead before after []
  pub failures : Rises before.failures after.failures
  pub table_stays : new ≡ old

-- nothing was read, or the path once, if it is new
abbrev pub AtMostOneReading : List Reading → (path : List ℕ) → List Reading → Type 0
AtMostOneReading old path [] = ⊤
AtMostOneReading old path (r ∷ []) = (r.path ≡ path) × (is_read old path ≡ false)
AtMostOneReading old path (r ∷ s ∷ others) = ⊥

-- Out of memory: the table is unchanged, though the path may have been read.
pub record LacksCapacity (before after : SourceState) (old new : List Reading) (path : List ℕ) : Type 0 where
  pub readings : List Reading
  pub at_most_one : AtMostOneReading old path readings
  pub read : HasRead before after readings
  pub failures : after.failures ≡ before.failures
  pub table_stays : new ≡ old

-- the bytes that are shared
abbrev pub shared_bytes : Option (RcSlice ℕ Global) → Option (List ℕ)
shared_bytes found = option_map rc_slice_items found

-- Opening the file at a path, by its result: the source before and after it, the table before and after it.
abbrev pub OpensFile : (before after : SourceState) → (old new : List Reading) → (path : List ℕ)
    → Result (Option (RcSlice ℕ Global)) SourceFault → Type 0
OpensFile before after old new path (Ok found) =
    IsKnown before after old new path (shared_bytes found)
    ⊎ IsReadNow before after old new (record { path = path; bytes = shared_bytes found })
OpensFile before after old new path (Err Io) = CannotBeRead before after old new path
OpensFile before after old new path (Err OutOfMemory) = LacksCapacity before after old new path
