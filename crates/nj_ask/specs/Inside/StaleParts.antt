-- Parts of the answer to `stale`.
use Rattle.std.specs.Prelude.{◌≡◌, ◌≢◌, ℕ, not, Option, Some, None, List, [], ◌++◌, length, map}
use Rattle.nj_text.specs.Calls.{is_empty}
use Rattle.nj_build_log.specs.Logs.{BuildLogModel}
use Rattle.nj_discovered.specs.Times.{DeclaredTimes}
use Rattle.nj_edges.specs.Edges.{EdgePaths, inputs_of, outputs_of}
use Rattle.nj_graph.specs.ReadingList.{ReadStatement}
use Rattle.nj_graph.specs.Graph.{GraphModel, edges_of, files_of}
use Rattle.nj_stale.specs.Missing.{AreStated}
use Rattle.nj_stale.specs.declared.missing.MissingSource.{MissingSource}
use Rattle.nj_state.specs.Facts.{facts_of, hash_version}
use Rattle.nj_state.specs.FileTimesFound.{HaveTimes, IsFirstUnanswered}
use Rattle.nj_state.specs.Judged.{HasCounts, IsJudged}
use Rattle.nj_state.specs.declared.commands.StaleEdge.{StaleEdge}
use Rattle.nj_state.specs.declared.judged.JudgedBuild.{JudgedBuild}
use Rattle.nj_questions.specs.Questions.{StaleModel}
use Rattle.nj_ask.specs.declared.answer.Answer.{Answer}
use Rattle.nj_ask.specs.declared.discovered.DiscoveredGraph.{DiscoveredGraph}
use Rattle.nj_ask.specs.declared.judged.JudgedGraph.{JudgedGraph}
use Rattle.nj_ask.specs.MissingSources.{IsStop, is_stated, missing_line}
use Rattle.nj_ask.specs.Stales.{AreStaleFor, IsCurrent, WritesStale, manifest_asked, manifest_needs, manifest_targets, manifest_text, stale_caveats, unread_time_line}

-- ---- the judged build

-- there are as many times, reasons and flags as files and edges, and the flags are those of the files that the manifest itself names
pub record IsJudgedGraph (known : DiscoveredGraph) (judged : JudgedGraph) : Type 0 where
  pub counts : HasCounts known.graph.built.graph judged.build
  pub stated : AreStated (files_of known.graph) (is_stated known) judged.stated.items

-- the build is judged by the statements of the graph, the build log and the times of files
pub record IsJudgedBuild (known : DiscoveredGraph) (entries : List ReadStatement) (log : BuildLogModel) (times : DeclaredTimes)
    (build : JudgedBuild) : Type 0 where
  pub times_are : HaveTimes times (files_of known.graph) build.times.items
  pub judged : IsJudged known.graph.built.graph
      (facts_of entries (map (λ edge. edge.0) known.unknown.items) (hash_version log) (length (edges_of known.graph))) log.lines build

-- the time of a file cannot be read, and the line says so
pub record LacksTime (times : DeclaredTimes) (g : GraphModel) (line : List ℕ) : Type 0 where
  pub file : ℕ
  pub first : IsFirstUnanswered times (files_of g) file
  pub line_is : line ≡ unread_time_line g file

-- ---- missing sources

-- the files that an edge names, as often as it names them
abbrev pub named_paths : EdgePaths → List (List ℕ)
named_paths e = (outputs_of e ++ inputs_of e) ++ e.validations

-- a missing source stops a build of the targets, and the line says so
pub record StopsAt (known : DiscoveredGraph) (entries : List ReadStatement) (log : BuildLogModel) (times : DeclaredTimes)
    (targets : List (List ℕ)) (line : List ℕ) : Type 0 where
  pub source : MissingSource
  pub stop : IsStop known entries log times targets (Some source)
  pub line_is : line ≡ missing_line known.graph.built.graph source

-- ---- answers

-- an answer that lists stale edges, with further warnings
pub record ListsStale (known : DiscoveredGraph) (entries : List ReadStatement) (log : BuildLogModel) (times : DeclaredTimes)
    (options : StaleModel) (stale : List StaleEdge) (answer : Answer) : Type 0 where
  pub output : WritesStale known entries log times options stale answer.output.items
  pub looks : answer.looks ≡ not (is_empty stale)
  pub warnings : answer.warnings.items ≡ stale_caveats known entries stale

-- the stale edges that the manifest needs, which is stale itself, with a line about it
pub record IsManifestAnswer (known : DiscoveredGraph) (entries : List ReadStatement) (log : BuildLogModel) (times : DeclaredTimes)
    (options : StaleModel) (answer : Answer) : Type 0 where
  pub unstopped : IsStop known entries log times (manifest_targets known.graph options) None
  pub stale : List StaleEdge
  pub are_stale : AreStaleFor known entries log times (manifest_needs known.graph options) stale
  pub remade : manifest_text known.graph stale (manifest_asked known.graph options) ≢ []
  pub output : WritesStale known entries log times options stale answer.output.items
  pub looks : answer.looks ≡ not (is_empty stale)
  pub warnings : answer.warnings.items
      ≡ stale_caveats known entries stale ++ manifest_text known.graph stale (manifest_asked known.graph options)

-- the answer about the manifest, if any: without one, nothing stops its build, and it is not stale
abbrev pub AnswersManifest : DiscoveredGraph → List ReadStatement → BuildLogModel → DeclaredTimes → StaleModel → Option Answer → Type 0
AnswersManifest known entries log times options None = IsCurrent known entries log times options
AnswersManifest known entries log times options (Some answer) = IsManifestAnswer known entries log times options answer
