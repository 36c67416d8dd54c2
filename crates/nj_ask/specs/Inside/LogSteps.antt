-- A deps log at a path, as the code reads it.
use Rattle.std.specs.Prelude.{◌≡◌, ℕ, Bool, true, Option, List, [], ◌++◌, codes, string_bytes}
use Rattle.nj_scope.specs.Sources.{SourceState, HasRead, Rises}
use Rattle.nj_ask.specs.declared.deps_log.ReadLog.{ReadLog}
use Rattle.nj_ask.specs.Endings.{program_line}
use Rattle.nj_ask.specs.LogsRead.{IsLogAt, IsNoLog, ReadsBytes}

-- a log was read at a path, which is the named one or Ninja's own
pub record ReadsAt (is_named : Bool) (path : List ℕ) (before after : SourceState) (read : ReadLog) : Type 0 where
  pub path_is : string_bytes read.path ≡ path
  pub bytes : Option (List ℕ)
  pub reads : ReadsBytes before after path bytes
  pub is_log : IsLogAt is_named path bytes read.log read.caveat.items

-- the file at a path cannot be read
pub record IsUnreadable (path : List ℕ) (before after : SourceState) (line : List ℕ) : Type 0 where
  pub line_is : line ≡ program_line (path ++ codes ": the file could not be read")
  pub read : HasRead before after []
  pub rises : Rises before.failures after.failures

-- no log was read there
pub data LacksAt (is_named : Bool) (path : List ℕ) (before after : SourceState) (line : List ℕ) : Type 0 where
  unreadable : IsUnreadable path before after line → LacksAt is_named path before after line
  no_log : {bytes : Option (List ℕ)} → is_named ≡ true → ReadsBytes before after path bytes → IsNoLog path bytes line
      → LacksAt is_named path before after line
