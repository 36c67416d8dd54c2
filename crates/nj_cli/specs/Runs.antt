-- A run, with its source and its two sinks.
use Rattle.std.specs.Prelude.{◌≡◌, ◌⊎◌, ℕ, Bool, true, false, Option, None, IsSomeAnd, Result, Ok, Err, List, []}
use Rattle.nj_scope.specs.Readings.{Reading}
use Rattle.nj_scope.specs.Sources.{SourceState}
use Rattle.nj_scope.specs.ReadingList.{ReadStatement}
use Rattle.nj_faults.specs.declared.fault.GraphFault.{GraphFault}
use Rattle.nj_faults.specs.FaultLines.{fault_line}
use Rattle.nj_faults.specs.Faults.{no_memory}
use Rattle.nj_graph.specs.Graph.{IsGraphOf}
use Rattle.nj_graph.specs.Joining.{joined_after}
use Rattle.nj_graph.specs.Loads.{LoadedModel, IsWhole, LoadingFails, main_reached}
use Rattle.nj_graph.specs.Runs.{IsRead}
use Rattle.nj_tools.specs.Lines.{line}
use Rattle.nj_tools.specs.Sinks.{SinkState, Takes, FailsWithin}
use Rattle.nj_tools.specs.Texts.{TakesFront}
use Rattle.nj_args.specs.FaultLines as usage
use Rattle.nj_requests.specs.Actions.{ActionModel, RequestModel}
use Rattle.nj_args.specs.Requests.{request_of}
use Rattle.nj_args.specs.declared.usage_fault.UsageFault.{UsageFault}
use Rattle.nj_cli.specs.Answers.{output_of, Ending, EndsWith}
use Rattle.nj_cli.specs.Reported.{Reported, Reports}
use Rattle.nj_cli.specs.Targets.{edges_by_path, NoEdgeNeedsItself}
use Rattle.nj_cli.specs.declared.status.Status.{Status}
use Rattle.nj_cli.specs.declared.status.Status.TheVariants.{Fault, Usage, OutputFailed}

-- the known states of a run's source and of its two sinks
pub record Around : Type 0 where
  pub source : SourceState
  pub output : SinkState
  pub error : SinkState

-- a source of files, and two outputs
abbrev pub around : (source : SourceState) → (output error : SinkState) → Around
around source output error = record { source = source; output = output; error = error }

-- the line that reports out of memory
abbrev pub out_of_memory : List ℕ
out_of_memory = fault_line no_memory

-- ---- by the statements of its files

-- Standard output took the whole output, and the ending is reported; or standard output failed, and nothing is reported; or an allocation
-- failed, after a prefix of the output.
pub data RunEnds (entries : List ReadStatement) (action : ActionModel) (old new : Around) : Status → Type 0 where
  reported : {status : Status} (ending : Ending) → EndsWith entries action ending → Takes old.output new.output (output_of entries action)
      → Reports ending old.error new.error status → RunEnds entries action old new status
  output_fails : FailsWithin old.output new.output (output_of entries action) → new.error ≡ old.error
      → RunEnds entries action old new OutputFailed
  memory_fails : TakesFront old.output new.output (output_of entries action) → Reported old.error new.error (line out_of_memory)
      → RunEnds entries action old new Fault

-- ---- by its files

-- The main file and all that it includes were read: they yield the given statements, without a fault, and without an
-- edge that needs itself by a chain. Only then, up to the end, more files were read.
pub record ReadsMore (main : List ℕ) (before after : SourceState) (files : List Reading) : Type 0 where
  pub between : SourceState
  pub read : List Reading
  pub stated : List ReadStatement
  pub reads : IsRead before between [] read
  pub whole : IsWhole before between read (main_reached main) stated
  pub acyclic : NoEdgeNeedsItself (edges_by_path stated)
  pub adds : IsRead between after read files

-- The statements of the files: those in the main file and in all that it includes; with `--dyndep`, if no edge of them
-- needs itself, joined with the discoveries of dyndep files.
abbrev pub AreStatements : (main : List ℕ) → (dyndep : Bool) → (before after : SourceState) → List Reading → List ReadStatement → Type 0
AreStatements main false before after files entries = IsWhole before after files (main_reached main) entries
AreStatements main true before after files entries =
    (more : ReadsMore main before after files) × IsWhole more.between after files (joined_after more.read more.stated) entries

-- The fault of the files: the fault that ended the reading of the main file and all that it includes, or a cycle of
-- their edges; with `--dyndep` also a fault that ended the joining after it.
abbrev pub HaveFault : (main : List ℕ) → (dyndep : Bool) → (before after : SourceState) → List Reading → GraphFault → Type 0
HaveFault main false before after files fault = LoadingFails before after files (main_reached main) fault
HaveFault main true before after files fault =
    LoadingFails before after files (main_reached main) fault
    ⊎ ((more : ReadsMore main before after files) × LoadingFails more.between after files (joined_after more.read more.stated) fault)

-- The files do not form a graph: a statement has a fault, or an edge lies on a cycle, or the source or an allocation
-- failed. Nothing is output. The fault is reported, or out of memory if its line could not be allocated.
pub record IsRefused (request : RequestModel) (files : List Reading) (old new : Around) (status : Status) : Type 0 where
  pub fault : GraphFault
  pub reading : HaveFault request.file request.dyndep old.source new.source files fault
  pub output : new.output ≡ old.output
  pub error : Reported old.error new.error (line (fault_line fault)) ⊎ Reported old.error new.error (line out_of_memory)
  pub status_is : status ≡ Fault

-- the files were read, and no edge of their statements needs itself by a chain
pub record IsAnswered (request : RequestModel) (files : List Reading) (old new : Around) (status : Status) : Type 0 where
  pub entries : List ReadStatement
  pub statements : AreStatements request.file request.dyndep old.source new.source files entries
  pub acyclic : NoEdgeNeedsItself (edges_by_path entries)
  pub ends : RunEnds entries request.action old new status

-- ---- the run

-- A run of the given request: the given files were read, each path once, and by them the request was refused or answered.
abbrev pub RunsAs : RequestModel → (old new : Around) → Status → Type 0
RunsAs request old new status =
    (files : List Reading) × IsRead old.source new.source [] files
    × (IsRefused request files old new status ⊎ IsAnswered request files old new status)

-- no file is read and nothing is written to standard output; standard error has the reason
pub record EndsAtOnce (reason : List ℕ) (old new : Around) : Type 0 where
  pub source : new.source ≡ old.source
  pub output : new.output ≡ old.output
  pub error : Reported old.error new.error reason

-- a run with arguments, by their request or their fault
abbrev pub RunsWith : Result RequestModel UsageFault → (old new : Around) → Status → Type 0
RunsWith (Ok request) old new status = RunsAs request old new status
RunsWith (Err fault) old new status = EndsAtOnce (line (usage.fault_line fault)) old new × (status ≡ Usage)

-- or an allocation failed before any file was read
abbrev pub RunsWords : (words : List (List ℕ)) → (old new : Around) → Status → Type 0
RunsWords words old new status =
    RunsWith (request_of words) old new status ⊎ (EndsAtOnce (line out_of_memory) old new × (status ≡ Fault))

-- ---- the files and the graph that a run keeps

-- A run of the given request, and the files and the graph that are kept: if the run was answered, the files that were
-- read and the graph of their statements; nothing if it was refused.
abbrev pub RunsAsAndKeeps : RequestModel → (old new : Around) → Status → Option LoadedModel → Type 0
RunsAsAndKeeps request old new status kept =
    (files : List Reading) × IsRead old.source new.source [] files
    × ((IsRefused request files old new status × (kept ≡ None))
    ⊎ ((answered : IsAnswered request files old new status)
    × IsSomeAnd kept (λ loaded. (loaded.files ≡ files) × IsGraphOf loaded.graph answered.entries)))

-- nothing is kept if the arguments are not a valid request
abbrev pub RunsAndKeepsWith : Result RequestModel UsageFault → (old new : Around) → Status → Option LoadedModel → Type 0
RunsAndKeepsWith (Ok request) old new status kept = RunsAsAndKeeps request old new status kept
RunsAndKeepsWith (Err fault) old new status kept = EndsAtOnce (line (usage.fault_line fault)) old new × (status ≡ Usage) × (kept ≡ None)

-- a run with arguments, and the files and the graph that are kept
abbrev pub RunsAndKeeps : (words : List (List ℕ)) → (old new : Around) → Status → Option LoadedModel → Type 0
RunsAndKeeps words old new status kept =
    RunsAndKeepsWith (request_of words) old new status kept
    ⊎ (EndsAtOnce (line out_of_memory) old new × (status ≡ Fault) × (kept ≡ None))
