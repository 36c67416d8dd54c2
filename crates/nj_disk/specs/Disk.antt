-- The known properties of the files of a disk.
use Rattle.std.specs.Prelude.{ℕ, Option, None, List}
use Rattle.nj_scope.specs.Sources.{SourceState}

-- what is known of the disk
pub record Disk : Type 0 where
  -- the name of the file that is read from standard input
  pub input_name : Option (List ℕ)
  -- how often a read has failed; the count stays at 2 ^ 64 - 1
  pub failed : ℕ

-- its known state as a source: how often it failed, but not its readings and files
abbrev pub disk_state : Disk → SourceState
disk_state disk = record { readings = None; failures = disk.failed; files = λ path. None }

-- nothing is known of the times of a disk
pub record Times : Type 0 where
