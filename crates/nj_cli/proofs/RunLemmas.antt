-- How a run ends.
use Rattle.std.proofs.Common.{◌≡◌, ◌⊎◌, inl, inr, ℕ, Option, Some, None, Result, Ok, Err, List, [], refl, sym}
use Rattle.std.proofs.Common.{subst}
use Rattle.std.proofs.lemmas.List.{append-nil}
use Rattle.nj_scope.specs.Readings.{Reading}
use Rattle.nj_scope.specs.ReadingList.{ReadStatement}
use Rattle.nj_faults.specs.declared.fault.GraphFault.{GraphFault}
use Rattle.nj_faults.specs.FaultLines.{fault_line}
use Rattle.nj_graph.specs.Graph.{IsGraphOf}
use Rattle.nj_graph.specs.Loads.{LoadedModel}
use Rattle.nj_graph.specs.Runs.{IsRead}
use Rattle.nj_requests.specs.Actions.{ActionModel, RequestModel}
use Rattle.nj_args.specs.Requests.{request_of}
use Rattle.nj_args.specs.RunMarks.{run_mark_text}
use Rattle.nj_args.specs.declared.usage_fault.UsageFault.{UsageFault}
use Rattle.nj_tools.specs.Lines.{line}
use Rattle.nj_tools.specs.Sinks.{Takes}
use Rattle.nj_cli.specs.Answers.{output_of, Ending, finished, stopped, faulty, EndsWith}
use Rattle.nj_cli.specs.Reported.{Reported}
use Rattle.nj_cli.specs.Inside.RunSteps.{follows_validations, out_of_range, ReturnsFor, ReportsLine}
use Rattle.nj_cli.specs.Inside.RunSteps.{ReportsMark, Concludes}
use Rattle.nj_cli.specs.Runs.{Around, out_of_memory, RunEnds, AreStatements, HaveFault, IsAnswered, RunsAs}
use Rattle.nj_cli.specs.Runs.{RunsWith, RunsWords, RunsAsAndKeeps, RunsAndKeepsWith, RunsAndKeeps}
use Rattle.nj_cli.specs.Runs.RunEnds.{reported, output_fails, memory_fails}
use Rattle.nj_tools.specs.declared.error.Error.{Error}
use Rattle.nj_tools.specs.declared.error.Error.TheVariants as error
use Rattle.nj_cli.specs.declared.status.Status.{Status}
use Rattle.nj_cli.specs.declared.status.Status.TheVariants.{Done, Fault, Usage, Stopped, OutputFailed}
use Rattle.nj_cli.proofs.ReturnLemmas.{NoEdgeNeedsItself-stated}

-- ---- the ends

module _ (entries : List ReadStatement) (action : ActionModel) (old new : Around) where
  -- the line of a fault was reported
  reported-fault : (text : List ℕ) → EndsWith entries action (faulty text)
      → Takes old.output new.output (output_of entries action)
      → Reported old.error new.error (line text) → RunEnds entries action old new Fault
  reported-fault text ends took known = reported (faulty text) ends took (known, refl)

  -- out of memory for the line of a fault
  late : Takes old.output new.output (output_of entries action)
      → Reported old.error new.error (line out_of_memory) → RunEnds entries action old new Fault
  late took known = memory_fails (
    output_of entries action,
    ([], sym (append-nil (output_of entries action))),
    took,
  ) known

  graph-fault : (f : GraphFault) → EndsWith entries action (faulty (fault_line f))
      → Takes old.output new.output (output_of entries action)
      → Reported old.error new.error (line (fault_line f)) ⊎ Reported old.error new.error (line out_of_memory)
      → RunEnds entries action old new Fault
  graph-fault f ends took (inl known) = reported-fault (fault_line f) ends took known
  graph-fault f ends took (inr known) = late took known

  abbrev stop : (mark : List ℕ) → Ending
  stop mark = stopped (run_mark_text (follows_validations action) mark)

  stopped-at : (mark : List ℕ) (status : Status) → EndsWith entries action (stop mark)
      → Takes old.output new.output (output_of entries action)
      → ReportsMark (follows_validations action) old.error new.error mark status
      → RunEnds entries action old new status
  stopped-at mark Stopped ends took known = reported (stop mark) ends took (inl (known, refl))
  stopped-at mark OutputFailed ends took known = reported (stop mark) ends took (inr (known, refl))
  stopped-at mark Fault ends took known = late took known
  stopped-at mark Done ends took known = absurd known
  stopped-at mark Usage ends took known = absurd known

  pub Answers-from : (status : Status) (result : Result (Option (List ℕ)) Error)
      → ReturnsFor entries action old.output new.output result
      → Concludes (follows_validations action) old.error new.error result status
      → RunEnds entries action old new status
  Answers-from status (Ok None) outcomes concludes = reported finished outcomes.0 outcomes.1 concludes
  Answers-from status (Ok (Some mark)) outcomes concludes =
      stopped-at mark status outcomes.0 outcomes.1 concludes
  Answers-from status (Err (error.Graph f)) outcomes concludes =
      subst (RunEnds entries action old new) (sym concludes.1)
      (graph-fault f outcomes.0 outcomes.1 concludes.0)
  Answers-from status (Err error.EmptyPath) outcomes concludes = absurd outcomes
  Answers-from status (Err error.BadMark) outcomes concludes = absurd outcomes
  Answers-from status (Err error.MarkOutOfRange) outcomes concludes =
      subst (RunEnds entries action old new) (sym concludes.1)
      (reported-fault out_of_range outcomes.0 outcomes.1 concludes.0)
  Answers-from status (Err error.Write) outcomes concludes =
      subst (RunEnds entries action old new) (sym concludes.1) (output_fails outcomes concludes.0)
  Answers-from status (Err error.OutOfMemory) outcomes concludes =
      subst (RunEnds entries action old new) (sym concludes.1) (memory_fails outcomes concludes.0)

-- all files were read, and the graph of their statements is kept
pub Keeps-answered : (request : RequestModel) (files : List Reading) (old new : Around) (loaded : LoadedModel)
    (entries : List ReadStatement) (status : Status)
    → IsRead old.source new.source [] files
    → AreStatements request.file request.dyndep old.source new.source files entries
    → IsGraphOf loaded.graph entries → loaded.files ≡ files → RunEnds entries request.action old new status
    → RunsAsAndKeeps request old new status (Some loaded)
Keeps-answered request files old new loaded entries status read statements graph_is files_are ends =
    let answered : IsAnswered request files old new status = record {
      entries = entries;
      statements = statements;
      acyclic = NoEdgeNeedsItself-stated entries loaded.graph graph_is;
      ends = ends;
    } in
    (files, read, inr (answered, (files_are, graph_is)))

-- the files have a fault, which was reported
pub Keeps-refused : (request : RequestModel) (files : List Reading) (old new : Around) (fault : GraphFault)
    (status : Status) (kept : Option LoadedModel)
    → IsRead old.source new.source [] files
    → HaveFault request.file request.dyndep old.source new.source files fault → new.output ≡ old.output
    → ReportsLine old.error new.error (line (fault_line fault)) → status ≡ Fault → kept ≡ None
    → RunsAsAndKeeps request old new status kept
Keeps-refused request files old new fault status kept read reading output error is none = (
  files,
  read,
  inl (
    record {
      fault = fault;
      reading = reading;
      output = output;
      error = error;
      status_is =
          is;
    },
    none,
  ),
)

-- the files and graph kept for a request are kept for its arguments
pub RunsAndKeeps-from : (words : List (List ℕ)) (request : RequestModel) (old new : Around) (status : Status)
    (kept : Option LoadedModel)
    → request_of words ≡ Ok request → RunsAsAndKeeps request old new status kept
    → RunsAndKeeps words old new status kept
RunsAndKeeps-from words request old new status kept meant keeps =
    inl (subst (λ (r : Result RequestModel UsageFault). RunsAndKeepsWith r old new status kept) (sym meant)
    keeps)

-- a run, whatever is kept
pub RunsAs-kept : (request : RequestModel) (old new : Around) (status : Status) (kept : Option LoadedModel)
    → RunsAsAndKeeps request old new status kept → RunsAs request old new status
RunsAs-kept request old new status kept (files, read, inl (refused, none)) = (files, read, inl refused)
RunsAs-kept request old new status kept (files, read, inr (answered, keeps)) = (files, read, inr answered)

RunsWith-kept : (asked : Result RequestModel UsageFault) (old new : Around) (status : Status)
    (kept : Option LoadedModel)
    → RunsAndKeepsWith asked old new status kept → RunsWith asked old new status
RunsWith-kept (Ok request) old new status kept keeps = RunsAs-kept request old new status kept keeps
RunsWith-kept (Err fault) old new status kept (ends, is, none) = (ends, is)

pub RunsWords-kept : (words : List (List ℕ)) (old new : Around) (status : Status) (kept : Option LoadedModel)
    → RunsAndKeeps words old new status kept → RunsWords words old new status
RunsWords-kept words old new status kept (inl keeps) =
    inl (RunsWith-kept (request_of words) old new status kept keeps)
RunsWords-kept words old new status kept (inr (ends, is, none)) = inr (ends, is)
