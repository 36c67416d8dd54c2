-- The answer to `times`: where the time of a build went.
use Rattle.std.specs.Prelude.{◌≡◌, Bool, true, false, ◌&&◌, if◌then◌else◌, Option, Some, None, is_some, Ok, Err, List, [], ℕ, codes, length, map}
use Rattle.std.specs.List.{range_with_len}
use Rattle.std.specs.Option.{option_or}
use Rattle.nj_discovered.specs.Times.{DeclaredTimes}
use Rattle.nj_build_log.specs.Logs.{BuildLogModel, LineModel}
use Rattle.nj_graph.specs.Built.{detail_at}
use Rattle.nj_graph.specs.ReadingList.{ReadStatement}
use Rattle.nj_graph.specs.declared.GraphFault.{GraphFault}
use Rattle.nj_graph.specs.Graph.{GraphModel, edges_of, rule_name}
use Rattle.nj_needs.specs.Growing.{grown_targets}
use Rattle.nj_questions.specs.Questions.{TimesModel}
use Rattle.nj_times.specs.Reports.{IsReport}
use Rattle.nj_times.specs.Rules.{IsRuleReport}
use Rattle.nj_ask.specs.declared.discovered.DiscoveredGraph.{DiscoveredGraph}
use Rattle.nj_ask.specs.declared.status.Status.TheVariants.{Fault}
use Rattle.nj_ask.specs.Answers.{HasDepfileFault, IsClear, asked_targets}
use Rattle.nj_ask.specs.Endings.{Ending, answered, fault_line, program_line, refused}
use Rattle.nj_ask.specs.DeadAnswers.{AnswersDead}
use Rattle.nj_ask.specs.Shape.{caveat_text}

-- the targets and the validations of the edges that they need
abbrev pub timed_files : GraphModel → (targets : List (List ℕ)) → List (List ℕ)
timed_files g targets = grown_targets (edges_of g) targets

-- the line about two options of which each excludes the other, if both are given
abbrev pub excluded : (one other : Bool) → (text : List ℕ) → Option (List ℕ)
excluded one other text = if one && other then Some (program_line text) else None

-- the line about options that exclude each other: each has other lines in place of the critical path
abbrev pub times_misuse : TimesModel → Option (List ℕ)
times_misuse options = option_or (excluded (is_some options.top) options.by_rule (codes "--top excludes --by-rule"))
    (option_or (excluded (is_some options.top) options.dead (codes "--top excludes --dead"))
    (excluded options.by_rule options.dead (codes "--by-rule excludes --dead")))

-- the name of each edge's rule
abbrev pub edge_rules : GraphModel → List (List ℕ)
edge_rules g = map (λ edge. rule_name g.declarations.rules (detail_at g.built.details edge).rule) (range_with_len 0 (length (edges_of g)))

-- the report on the edges that files need, by rules or not
abbrev pub IsReportBy : (by_rule : Bool) → GraphModel → List LineModel → (files : List (List ℕ)) → TimesModel → (text : List ℕ) → Type 0
IsReportBy false g lines files options text = IsReport (edges_of g) lines files options.top options.json text
IsReportBy true g lines files options text = IsRuleReport (edges_of g) (edge_rules g) lines files options.json text

-- `times` without `--dead`: the report on the edges that the targets need, by the graph with its discovered inputs and by the build log. As in `keys`, a
-- needed depfile with a fault is refused.
pub data AnswersTimes (known : DiscoveredGraph) (entries : List ReadStatement) (log : BuildLogModel) (options : TimesModel) :
    (output : List ℕ) → Ending → Type 0 where
  no_target : {fault : GraphFault} → asked_targets known.graph options.targets ≡ Err fault
      → AnswersTimes known entries log options [] (refused (fault_line fault) Fault)
  no_depfile : {targets : List (List ℕ)} {line : List ℕ} → asked_targets known.graph options.targets ≡ Ok targets
      → HasDepfileFault known (timed_files known.graph targets) line
      → AnswersTimes known entries log options [] (refused line Fault)
  reported : {targets : List (List ℕ)} {text : List ℕ} → asked_targets known.graph options.targets ≡ Ok targets
      → IsClear known (timed_files known.graph targets)
      → IsReportBy options.by_rule known.graph log.lines (timed_files known.graph targets) options text
      → AnswersTimes known entries log options text (answered false (caveat_text known entries))

-- `times`
abbrev pub AnswersTimings : (dead : Bool) → DiscoveredGraph → List ReadStatement → BuildLogModel → DeclaredTimes → TimesModel
    → (output : List ℕ) → Ending → Type 0
AnswersTimings false known entries log times options output ending = AnswersTimes known entries log options output ending
AnswersTimings true known entries log times options output ending = AnswersDead known entries log times options.json output ending
