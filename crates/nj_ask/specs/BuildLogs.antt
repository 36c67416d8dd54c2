-- The build log that `stale` is answered by, `.ninja_log` ("Ninja log" in the manual).
use Rattle.std.specs.Prelude.{◌≡◌, ℕ, Option, Some, None, unwrap_or, Result, Ok, Err, List, [], ◌∷◌, ◌++◌, codes}
use Rattle.std.specs.Str.{IsUtf8}
use Rattle.nj_build_log.specs.Faults.{fault_text}
use Rattle.nj_build_log.specs.Logs.{BuildLogModel, build_log_of}
use Rattle.nj_build_log.specs.declared.build_log_fault.BuildLogFault.{BuildLogFault}
use Rattle.nj_scope.specs.ReadingList.{ReadStatement, value_if_bound}
use Rattle.nj_scope.specs.Sources.{SourceState, HasRead, Rises}
use Rattle.nj_ask.specs.Endings.{program_line}
use Rattle.nj_ask.specs.LogsRead.{ReadsBytes, folder_text}

-- the path of the build log, by the value of `builddir`
abbrev pub built_path : (builddir : Option (List ℕ)) → List ℕ
built_path None = codes ".ninja_log"
built_path (Some folder) = folder_text folder ++ codes ".ninja_log"

-- its path, by the value of `builddir` in the main scope after all statements
abbrev pub build_log_path : List ReadStatement → List ℕ
build_log_path entries = built_path (value_if_bound entries (0 ∷ []) (codes "builddir"))

-- the build log in a file with the given bytes; a file that is not there has no lines
abbrev pub build_log_in : Option (List ℕ) → Result BuildLogModel BuildLogFault
build_log_in bytes = build_log_of (unwrap_or bytes [])

-- the line about a file at a path that is no build log: its first line is wrong
abbrev pub bad_log_line : (path : List ℕ) → BuildLogFault → List ℕ
bad_log_line path fault = program_line (path ++ codes ":1:1: " ++ fault_text fault)

-- the build log was read
pub record ReadsBuildLog (entries : List ReadStatement) (before after : SourceState) (log : BuildLogModel) : Type 0 where
  pub bytes : Option (List ℕ)
  pub is_text : IsUtf8 (build_log_path entries)
  pub reads : ReadsBytes before after (build_log_path entries) bytes
  pub is_log : build_log_in bytes ≡ Ok log

-- it was not: its path is no text, or it cannot be read, or it is no build log
pub data LacksBuildLog (entries : List ReadStatement) (before after : SourceState) : (line : List ℕ) → Type 0 where
  no_path : ¬ IsUtf8 (build_log_path entries) → after ≡ before
      → LacksBuildLog entries before after (program_line (codes "the path of the build log is not UTF-8"))
  unreadable : HasRead before after [] → Rises before.failures after.failures
      → LacksBuildLog entries before after (program_line (build_log_path entries ++ codes ": the file could not be read"))
  no_log : {bytes : Option (List ℕ)} {fault : BuildLogFault} → ReadsBytes before after (build_log_path entries) bytes
      → build_log_in bytes ≡ Err fault → LacksBuildLog entries before after (bad_log_line (build_log_path entries) fault)
