-- A source of files in memory.
use Rattle.std.specs.Prelude.{ℕ, List, reverse, Option, Some, option_map, find, bytes_eq}
use Rattle.nj_scope.specs.Readings.{Reading}
use Rattle.nj_scope.specs.Sources.{SourceState}

-- a file that was added
pub record Added : Type 0 where
  pub name : List ℕ
  pub bytes : List ℕ

-- the files in the order in which they were added, their readings, how often a reading failed, and which of the next
-- readings will fail, counted from 1; 0 for none
pub record Memory : Type 0 where
  pub added : List Added
  pub readings : List Reading
  pub failures : ℕ
  pub due : ℕ

-- the bytes that were added last under the name
abbrev pub bytes_added : List Added → List ℕ → Option (List ℕ)
bytes_added added name = option_map (λ a. a.bytes) (find (λ a. bytes_eq name a.name) (reverse added))

-- it reports all readings, and the bytes that it would return
abbrev pub memory_state : Memory → SourceState
memory_state m = record { readings = Some m.readings; failures = m.failures; files = λ path. Some (bytes_added m.added path) }
