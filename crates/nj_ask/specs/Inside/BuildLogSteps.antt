-- A build log at a path, as the code reads it.
use Rattle.std.specs.Prelude.{◌≡◌, ℕ, Option, Ok, Err, List}
use Rattle.nj_build_log.specs.Logs.{BuildLogModel, build_log_of}
use Rattle.nj_build_log.specs.declared.build_log_fault.BuildLogFault.{BuildLogFault}
use Rattle.nj_scope.specs.Sources.{SourceState}
use Rattle.nj_ask.specs.BuildLogs.{bad_log_line, build_log_in}
use Rattle.nj_ask.specs.LogsRead.{ReadsBytes}
use Rattle.nj_ask.specs.Inside.LogSteps.{IsUnreadable}

-- the bytes of the file at a path are no build log, and the line says why
pub record IsNoBuildLog (path bytes : List ℕ) (line : List ℕ) : Type 0 where
  pub fault : BuildLogFault
  pub is_fault : build_log_of bytes ≡ Err fault
  pub line_is : line ≡ bad_log_line path fault

-- a build log was read at a path
pub record ReadsBuildLogAt (path : List ℕ) (before after : SourceState) (log : BuildLogModel) : Type 0 where
  pub bytes : Option (List ℕ)
  pub reads : ReadsBytes before after path bytes
  pub is_log : build_log_in bytes ≡ Ok log

-- none was read there
pub data LacksBuildLogAt (path : List ℕ) (before after : SourceState) (line : List ℕ) : Type 0 where
  unreadable : IsUnreadable path before after line → LacksBuildLogAt path before after line
  no_log : {bytes : Option (List ℕ)} {fault : BuildLogFault} → ReadsBytes before after path bytes
      → build_log_in bytes ≡ Err fault → line ≡ bad_log_line path fault → LacksBuildLogAt path before after line
