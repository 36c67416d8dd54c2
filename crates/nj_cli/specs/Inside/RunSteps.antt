-- The steps of a run, on the way to its end.
use Rattle.std.specs.Prelude.{◌≡◌, ◌⊎◌, ℕ, Bool, false, if◌then◌else◌, Option, Some, None, Result, Ok, Err, MatchResult, List, [], ◌++◌, codes}
use Rattle.std.specs.Option.{option_map_or}
use Rattle.std.specs.Result.{result_ok}
use Rattle.nj_scope.specs.Readings.{Reading}
use Rattle.nj_scope.specs.Sources.{SourceState}
use Rattle.nj_scope.specs.ReadingList.{ReadStatement}
use Rattle.nj_faults.specs.declared.fault.GraphFault.{GraphFault}
use Rattle.nj_faults.specs.FaultLines.{fault_line}
use Rattle.nj_graph.specs.Graph.{IsGraphOf}
use Rattle.nj_graph.specs.Loads.{LoadedModel}
use Rattle.nj_graph.specs.Runs.{IsRead}
use Rattle.nj_tools.specs.Lines.{line}
use Rattle.nj_tools.specs.Sinks.{SinkState, Takes, FailsWithin}
use Rattle.nj_tools.specs.Texts.{TakesFront}
use Rattle.nj_requests.specs.Actions.{ActionModel, commands, RequestModel}
use Rattle.nj_requests.specs.Actions as ask
use Rattle.nj_args.specs.RunMarks.{run_mark_text}
use Rattle.nj_args.specs.FaultLines as lines
use Rattle.nj_args.specs.declared.usage_fault.UsageFault.{UsageFault}
use Rattle.nj_args.specs.declared.usage_fault.UsageFault.TheVariants as usage
use Rattle.nj_cli.specs.Answers.{output_of, Ending, finished, stopped, faulty, EndsWith}
use Rattle.nj_cli.specs.Reported.{Reported}
use Rattle.nj_cli.specs.Runs.{out_of_memory, AreStatements, HaveFault}
use Rattle.nj_tools.specs.declared.error.Error.{Error}
use Rattle.nj_tools.specs.declared.error.Error.TheVariants as error
use Rattle.nj_cli.specs.declared.status.Status.{Status}
use Rattle.nj_cli.specs.declared.status.Status.TheVariants.{Done, Fault, Usage, Stopped, OutputFailed}
use Rattle.nj_edges.specs.Edges.{EdgePaths}
use Rattle.nj_needs.specs.Growing.{grown_targets}

-- the graph of the statements of the files, or their fault
abbrev pub GraphOr : RequestModel → (before after : SourceState) → List Reading → Result LoadedModel GraphFault → Type 0
GraphOr request before after files (Ok loaded) =
    (entries : List ReadStatement) × AreStatements request.file request.dyndep before after files entries × IsGraphOf loaded.graph entries
    × (loaded.files ≡ files)
GraphOr request before after files (Err fault) = HaveFault request.file request.dyndep before after files fault

-- the given files were read, each path once
abbrev pub ReadsGraph : RequestModel → (before after : SourceState) → Result LoadedModel GraphFault → Type 0
ReadsGraph request before after result = (files : List Reading) × IsRead before after [] files × GraphOr request before after files result

-- with `--validations` the validations of the edges that the targets need come after the targets
abbrev pub with_validations : (validations : Bool) → List EdgePaths → (targets : List (List ℕ)) → List (List ℕ)
with_validations validations edges targets = if validations then grown_targets edges targets else targets

-- a text for targets; empty if they have a fault
abbrev pub for_targets : (text : List (List ℕ) → List ℕ) → (targets : Result (List (List ℕ)) GraphFault) → List ℕ
for_targets text targets = option_map_or text (result_ok targets) []

-- how a run ends for targets; if they have a fault, the run ends with it
abbrev pub EndsOr : (Ends : List (List ℕ) → Ending → Type 0) → (targets : Result (List (List ℕ)) GraphFault) → Ending → Type 0
EndsOr Ends targets ending = MatchResult targets (λ targets. Ends targets ending) (λ fault. ending ≡ faulty (fault_line fault))

-- all is written
abbrev pub Finishes : (targets : List (List ℕ)) → Ending → Type 0
Finishes targets ending = ending ≡ finished

-- whether a run follows validations
abbrev pub follows_validations : ActionModel → Bool
follows_validations (commands words validations take start) = validations
follows_validations (ask.inputs words validations style) = validations
follows_validations _ = false

abbrev pub out_of_range : List ℕ
out_of_range = codes "ninja-explain: mark out of range"

-- the line that reports a mark
abbrev pub mark_line : (validations : Bool) → (mark : List ℕ) → List ℕ
mark_line validations mark = line (codes "mark " ++ run_mark_text validations mark)

-- the output so far, and how the run ends accordingly; a run has no other errors
abbrev pub ReturnsFor : List ReadStatement → ActionModel → (old new : SinkState) → Result (Option (List ℕ)) Error → Type 0
ReturnsFor entries action old new (Ok None) = EndsWith entries action finished × Takes old new (output_of entries action)
ReturnsFor entries action old new (Ok (Some mark)) =
    EndsWith entries action (stopped (run_mark_text (follows_validations action) mark)) × Takes old new (output_of entries action)
ReturnsFor entries action old new (Err (error.Graph fault)) =
    EndsWith entries action (faulty (fault_line fault)) × Takes old new (output_of entries action)
ReturnsFor entries action old new (Err error.MarkOutOfRange) =
    EndsWith entries action (faulty out_of_range) × Takes old new (output_of entries action)
ReturnsFor entries action old new (Err error.Write) = FailsWithin old new (output_of entries action)
ReturnsFor entries action old new (Err error.OutOfMemory) = TakesFront old new (output_of entries action)
ReturnsFor entries action old new (Err other) = ⊥

-- the text was reported, or out of memory if it could not be allocated
abbrev pub ReportsLine : (old new : SinkState) → (text : List ℕ) → Type 0
ReportsLine old new text = Reported old new text ⊎ Reported old new (line out_of_memory)

-- the mark was reported; or standard error failed; or the line could not be made
abbrev pub ReportsMark : (validations : Bool) → (old new : SinkState) → (mark : List ℕ) → Status → Type 0
ReportsMark validations old new mark Stopped = Takes old new (mark_line validations mark)
ReportsMark validations old new mark OutputFailed = FailsWithin old new (mark_line validations mark)
ReportsMark validations old new mark Fault = Reported old new (line out_of_memory)
ReportsMark validations old new mark other = ⊥

-- the report of an outcome
abbrev pub Concludes : (validations : Bool) → (old new : SinkState) → Result (Option (List ℕ)) Error → Status → Type 0
Concludes validations old new (Ok None) status = (new ≡ old) × (status ≡ Done)
Concludes validations old new (Ok (Some mark)) status = ReportsMark validations old new mark status
Concludes validations old new (Err (error.Graph fault)) status = ReportsLine old new (line (fault_line fault)) × (status ≡ Fault)
Concludes validations old new (Err error.Write) status = (new ≡ old) × (status ≡ OutputFailed)
Concludes validations old new (Err error.OutOfMemory) status = Reported old new (line out_of_memory) × (status ≡ Fault)
Concludes validations old new (Err other) status = Reported old new (line out_of_range) × (status ≡ Fault)

-- the report of arguments that are not a valid request
abbrev pub ReportsMisuse : (old new : SinkState) → UsageFault → Status → Type 0
ReportsMisuse old new usage.OutOfMemory status = Reported old new (line out_of_memory) × (status ≡ Fault)
ReportsMisuse old new fault status =
    (Reported old new (line (lines.fault_line fault)) × (status ≡ Usage)) ⊎ (Reported old new (line out_of_memory) × (status ≡ Fault))
