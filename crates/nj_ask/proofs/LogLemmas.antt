-- What bytes at a path say of a log, and what a question is answered by.
use Rattle.std.specs.Prelude.{◌≡◌, ◌≢◌, ◌++◌, ℕ, Bool, true, false, Option, Some, None, List, [], length}
use Rattle.std.specs.Prelude.{is_some, codes, string_bytes}
use Rattle.std.specs.Str.{IsUtf8}
use Rattle.std.proofs.Common.{sym, ap, subst, ◌∙◌}
use Rattle.nj_scope.specs.ReadingList.{ReadStatement}
use Rattle.nj_scope.specs.Sources.{SourceState}
use Rattle.nj_deps.specs.Faults.{fault_text}
use Rattle.nj_deps.specs.Logs.{LogModel, IsLogFault, IsLogOf, opening}
use Rattle.nj_deps.specs.declared.log_fault.DepsLogFault.{DepsLogFault}
use Rattle.nj_deps.specs.declared.log_fault.DepsLogFault.TheVariants.{OutOfMemory}
use Rattle.nj_ask.specs.declared.deps_log.ReadLog.{ReadLog}
use Rattle.nj_ask.specs.declared.failure.Failure.{Failure}
use Rattle.nj_ask.specs.declared.status.Status.TheVariants.{Fault}
use Rattle.nj_ask.specs.Affected.{line}
use Rattle.nj_ask.specs.Endings.{program_line}
use Rattle.nj_ask.specs.LogsRead.{IsLogAt, IsNoLog, LacksLog, ReadsBytes, ReadsLog, cut_line, log_path}
use Rattle.nj_ask.specs.LogsRead.IsLogAt.{read as log_read, absent, started_over}
use Rattle.nj_ask.specs.LogsRead.IsNoLog.{absent as no_file, no_log as no_records}
use Rattle.nj_ask.specs.LogsRead.LacksLog.{unreadable as cannot_be_read, no_log as no_named}
use Rattle.nj_ask.specs.Inside.Failures.{FailsBy}
use Rattle.nj_ask.specs.Inside.LogSteps.{LacksAt, ReadsAt}
use Rattle.nj_ask.specs.Inside.LogSteps.LacksAt.{unreadable, no_log}
use Rattle.nj_ask.proofs.FailureLemmas.{fails-as}

-- ---- at a path

module _ (is_named : Bool) (path : List ℕ) (before after : SourceState) (given : Option (List ℕ))
    (reads : ReadsBytes before after path given) where
  reads-as : (bytes : Option (List ℕ)) → given ≡ bytes → ReadsBytes before after path bytes
  reads-as bytes is = subst (λ b. ReadsBytes before after path b) is reads

  pub reads-whole : (bytes : List ℕ) (read : ReadLog) (log : LogModel) (size : ℕ) → given ≡ Some bytes
      → string_bytes read.path ≡ path → read.log ≡ log
      → read.caveat.items ≡ cut_line path log.is_whole log.size size
      → size ≡ length bytes → IsLogOf bytes log → ReadsAt is_named path before after read
  reads-whole bytes read log size is path_is log_is caveat size_is is_log = record {
    path_is = path_is;
    bytes = Some bytes;
    reads = reads-as (Some bytes) is;
    is_log = subst (λ l. IsLogAt is_named path (Some bytes) l read.caveat.items) (sym log_is)
        (subst (λ said. IsLogAt is_named path (Some bytes) log said)
        (sym (caveat ∙ ap (cut_line path log.is_whole log.size) size_is)) (log_read is_log));
  }

  pub reads-none : (read : ReadLog) → is_named ≡ false → given ≡ None → string_bytes read.path ≡ path
      → IsLogOf (opening 4) read.log → read.caveat.items ≡ [] → ReadsAt is_named path before after read
  reads-none read own is path_is is_log caveat = record {
    path_is = path_is;
    bytes = None;
    reads = reads-as None is;
    is_log = subst (λ said. IsLogAt is_named path None read.log said) (sym caveat) (absent own is_log);
  }

  pub reads-over : (bytes : List ℕ) (fault : DepsLogFault) (read : ReadLog) → is_named ≡ false
      → given ≡ Some bytes
      → string_bytes read.path ≡ path → IsLogOf (opening 4) read.log
      → read.caveat.items ≡ line (path ++ codes ": " ++ fault_text fault)
      → IsLogFault bytes fault → fault ≢ OutOfMemory → ReadsAt is_named path before after read
  reads-over bytes fault read own is path_is is_log caveat is_fault reason = record {
    path_is = path_is;
    bytes = Some bytes;
    reads = reads-as (Some bytes) is;
    is_log = subst (λ said. IsLogAt is_named path (Some bytes) read.log said) (sym caveat)
        (started_over own is_fault reason is_log);
  }

  pub lacks-file : (said : List ℕ) → is_named ≡ true → given ≡ None
      → said ≡ program_line (path ++ codes ": there is no such file")
      → LacksAt is_named path before after said
  lacks-file said named is said_is =
      no_log named (reads-as None is) (subst (λ l. IsNoLog path None l) (sym said_is) no_file)

  pub lacks-records : (bytes : List ℕ) (fault : DepsLogFault) (said : List ℕ) → is_named ≡ true
      → given ≡ Some bytes
      → said ≡ program_line (path ++ codes ": " ++ fault_text fault) → IsLogFault bytes fault
      → fault ≢ OutOfMemory
      → LacksAt is_named path before after said
  lacks-records bytes fault said named is said_is is_fault reason =
      no_log named (reads-as (Some bytes) is) (subst (λ l. IsNoLog path (Some bytes) l) (sym said_is)
      (no_records is_fault reason))

-- ---- by the statements of a graph

module _ (named : Option (List ℕ)) (entries : List ReadStatement) (before after : SourceState) where
  pub reads-log : (read : ReadLog) (is_named : Bool) (path : List ℕ) → is_named ≡ is_some named
      → path ≡ log_path named entries
      → IsUtf8 path → ReadsAt is_named path before after read
      → ReadsLog named entries before after read.log read.caveat.items
  reads-log read is_named path named_is path_is is_text at =
      let there = subst (λ p. ReadsAt (is_some named) p before after read) path_is
      (subst (λ b. ReadsAt b path before after read) named_is at) in
      record {
        bytes = there.bytes;
        is_text = subst IsUtf8 path_is is_text;
        reads = there.reads;
        is_log =
            there.is_log;
      }

  lacks-log : (said : List ℕ) → LacksAt (is_some named) (log_path named entries) before after said
      → LacksLog named entries before after said
  lacks-log said (unreadable u) =
      subst (λ l. LacksLog named entries before after l) (sym u.line_is) (cannot_be_read u.read u.rises)
  lacks-log said (no_log is reads lacking) = no_named is reads lacking

  pub fails-log : (failure : Failure) (is_named : Bool) (path : List ℕ) → is_named ≡ is_some named
      → path ≡ log_path named entries → FailsBy Fault (LacksAt is_named path before after) failure
      → FailsBy Fault (LacksLog named entries before after) failure
  fails-log failure is_named path named_is path_is fails =
      fails-as Fault (LacksAt is_named path before after) (LacksLog named entries before after) failure
      (λ said lacking. lacks-log said (subst (λ p. LacksAt (is_some named) p before after said) path_is
      (subst (λ b. LacksAt b path before after said) named_is lacking)))
      fails
