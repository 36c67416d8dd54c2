-- The deps log on which an answer is based ("Deps" in the manual).
use Rattle.std.specs.Prelude.{◌≡◌, ◌≢◌, ℕ, Bool, true, false, Option, Some, None, is_some, unwrap_or, List, [], ◌∷◌, ◌++◌, codes, length}
use Rattle.std.specs.Fmt.{decimal}
use Rattle.std.specs.Str.{IsUtf8}
use Rattle.nj_scope.specs.ReadingList.{ReadStatement, value_if_bound}
use Rattle.nj_scope.specs.Sources.{SourceState, HasRead, Rises}
use Rattle.nj_deps.specs.Faults.{fault_text}
use Rattle.nj_deps.specs.Logs.{LogModel, IsLogFault, IsLogOf, opening}
use Rattle.nj_deps.specs.declared.log_fault.DepsLogFault.{DepsLogFault}
use Rattle.nj_deps.specs.declared.log_fault.DepsLogFault.TheVariants.{OutOfMemory}
use Rattle.nj_ask.specs.Affected.{line}
use Rattle.nj_ask.specs.Endings.{program_line}

-- ---- its path

-- a directory with a slash after it; empty without a directory
abbrev pub folder_text : List ℕ → List ℕ
folder_text [] = []
folder_text (byte ∷ folder) = (byte ∷ folder) ++ codes "/"

-- the path of Ninja's own log, by the value of `builddir`
abbrev pub own_path : (builddir : Option (List ℕ)) → List ℕ
own_path None = codes ".ninja_deps"
own_path (Some folder) = folder_text folder ++ codes ".ninja_deps"

-- the named path; without a name, that of Ninja's own log, by the value of `builddir` in the main scope after all statements
abbrev pub log_path : (named : Option (List ℕ)) → List ReadStatement → List ℕ
log_path named entries = unwrap_or named (own_path (value_if_bound entries (0 ∷ []) (codes "builddir")))

-- ---- what it has

-- the line about a log that was not read to its end; empty if it was
abbrev pub cut_line : (path : List ℕ) → (is_whole : Bool) → (read size : ℕ) → List ℕ
cut_line path true read size = []
cut_line path false read size = path ++ codes ": " ++ decimal read ++ codes " of its " ++ decimal size ++ codes " bytes were read\n"

-- The log in the bytes at a path, and what is said of it. Ninja's own log has no records if it is missing, or if Ninja would start it over:
-- if it is not a deps log, or has another version.
pub data IsLogAt (is_named : Bool) (path : List ℕ) : (bytes : Option (List ℕ)) → LogModel → (caveat : List ℕ) → Type 0 where
  read : {bytes : List ℕ} {log : LogModel} → IsLogOf bytes log
      → IsLogAt is_named path (Some bytes) log (cut_line path log.is_whole log.size (length bytes))
  absent : {log : LogModel} → is_named ≡ false → IsLogOf (opening 4) log → IsLogAt is_named path None log []
  started_over : {bytes : List ℕ} {log : LogModel} {fault : DepsLogFault} → is_named ≡ false → IsLogFault bytes fault
      → fault ≢ OutOfMemory → IsLogOf (opening 4) log
      → IsLogAt is_named path (Some bytes) log (line (path ++ codes ": " ++ fault_text fault))

-- why the bytes at the named path are not a log
pub data IsNoLog (path : List ℕ) : (bytes : Option (List ℕ)) → (line : List ℕ) → Type 0 where
  absent : IsNoLog path None (program_line (path ++ codes ": there is no such file"))
  no_log : {bytes : List ℕ} {fault : DepsLogFault} → IsLogFault bytes fault → fault ≢ OutOfMemory
      → IsNoLog path (Some bytes) (program_line (path ++ codes ": " ++ fault_text fault))

-- ---- its reading

-- the bytes at a path were read, or the lack of a file
pub record ReadsBytes (before after : SourceState) (path : List ℕ) (bytes : Option (List ℕ)) : Type 0 where
  pub read : HasRead before after (record { path = path; bytes = bytes } ∷ [])
  pub failures : after.failures ≡ before.failures

-- the named log, or Ninja's own, was read
pub record ReadsLog (named : Option (List ℕ)) (entries : List ReadStatement) (before after : SourceState) (log : LogModel)
    (caveat : List ℕ) : Type 0 where
  pub bytes : Option (List ℕ)
  pub is_text : IsUtf8 (log_path named entries)
  pub reads : ReadsBytes before after (log_path named entries) bytes
  pub is_log : IsLogAt (is_some named) (log_path named entries) bytes log caveat

-- no log was read: its path is not UTF-8, or it cannot be read, or the named file is missing or not a log
pub data LacksLog (named : Option (List ℕ)) (entries : List ReadStatement) (before after : SourceState) :
    (line : List ℕ) → Type 0 where
  no_path : ¬ IsUtf8 (log_path named entries) → after ≡ before
      → LacksLog named entries before after (program_line (codes "the path of the deps log is not UTF-8"))
  unreadable : HasRead before after [] → Rises before.failures after.failures
      → LacksLog named entries before after (program_line (log_path named entries ++ codes ": the file could not be read"))
  no_log : {bytes : Option (List ℕ)} {line : List ℕ} → is_some named ≡ true
      → ReadsBytes before after (log_path named entries) bytes → IsNoLog (log_path named entries) bytes line
      → LacksLog named entries before after line
