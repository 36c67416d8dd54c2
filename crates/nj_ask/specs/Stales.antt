-- The answer to `stale`: what Ninja would run now.
use Rattle.std.specs.Prelude.{◌≡◌, ◌≢◌, ℕ, ◌==◌, Bool, true, false, not, ◌&&◌, if◌then◌else◌, Option, Some, None, option_and_then, Ok, Err}
use Rattle.std.specs.Prelude.{List, [], ◌++◌, map, codes, slice_get}
use Rattle.std.specs.List.{cons_option, flat_map, list_any}
use Rattle.nj_text.specs.Calls.{is_empty}
use Rattle.nj_names.specs.Files.{AreFiles}
use Rattle.nj_names.specs.NameTables.{name_at}
use Rattle.nj_build_log.specs.Logs.{BuildLogModel}
use Rattle.nj_discovered.specs.Times.{DeclaredTimes}
use Rattle.nj_graph.specs.ReadingList.{ReadStatement}
use Rattle.nj_graph.specs.declared.FileNo.{FileNo}
use Rattle.nj_graph.specs.declared.GraphFault.{GraphFault}
use Rattle.nj_edges.specs.Edges.{is_named}
use Rattle.nj_graph.specs.Edges.{maker_of}
use Rattle.nj_graph.specs.Graph.{GraphModel, edges_of, files_of}
use Rattle.nj_needs.specs.Growing.{grown_targets}
use Rattle.nj_stale.specs.States.{Evidence, State, IsStateOf}
use Rattle.nj_stale.specs.declared.missing.MissingSource.{MissingSource}
use Rattle.nj_state.specs.FileTimesFound.{IsFirstUnanswered}
use Rattle.nj_state.specs.Stale.{AreStaleEdges, IsEvidence}
use Rattle.nj_state.specs.StaleLines.{stale_line}
use Rattle.nj_state.specs.declared.commands.StaleEdge.{StaleEdge}
use Rattle.nj_questions.specs.Questions.{StaleModel}
use Rattle.nj_ask.specs.declared.discovered.DiscoveredGraph.{DiscoveredGraph}
use Rattle.nj_ask.specs.declared.status.Status.TheVariants.{Fault}
use Rattle.nj_ask.specs.Affected.{line}
use Rattle.nj_ask.specs.Answers.{HasDepfileFault, IsClear, asked_targets}
use Rattle.nj_ask.specs.Endings.{Ending, answered, fault_line, program_line, refused}
use Rattle.nj_ask.specs.Manifest.{opened_paths}
use Rattle.nj_ask.specs.MissingSources.{IsStop, missing_line}
use Rattle.nj_ask.specs.Shape.{dyndep_text}
use Rattle.nj_ask.specs.StaleObjects.{stale_objects}

-- ---- the files that are asked about

-- a path, if an edge names it
abbrev pub if_named : GraphModel → (path : List ℕ) → Option (List ℕ)
if_named g path = if is_named (edges_of g) path then Some path else None

-- the path of the main file, if an edge names it
abbrev pub main_path : GraphModel → Option (List ℕ)
main_path g = option_and_then (if_named g) (slice_get (opened_paths g []) 0)

-- the manifest, unless it is left out
abbrev pub manifest_asked : GraphModel → StaleModel → Option (List ℕ)
manifest_asked g options = if options.no_manifest then None else main_path g

-- the manifest as the only target; none if it is left out, or if no edge names it
abbrev pub manifest_targets : GraphModel → StaleModel → List (List ℕ)
manifest_targets g options = cons_option (manifest_asked g options) []

-- the manifest and the validations of the edges that it needs
abbrev pub manifest_needs : GraphModel → StaleModel → List (List ℕ)
manifest_needs g options = grown_targets (edges_of g) (manifest_targets g options)

-- the same, and then the targets and the validations of the edges that they need
abbrev pub files_asked : GraphModel → StaleModel → (targets : List (List ℕ)) → List (List ℕ)
files_asked g options targets = manifest_needs g options ++ grown_targets (edges_of g) targets

-- ---- what is stale

-- the stale edges among those whose commands the files at the given paths need, in the order of their commands
pub record AreStaleFor (known : DiscoveredGraph) (entries : List ReadStatement) (log : BuildLogModel) (times : DeclaredTimes)
    (paths : List (List ℕ)) (stale : List StaleEdge) : Type 0 where
  pub files : List FileNo
  pub are_files : AreFiles (files_of known.graph) files paths
  pub are_stale : AreStaleEdges known.graph.built.graph entries (map (λ edge. edge.0) known.unknown.items) log times files stale

-- their numbers
abbrev pub numbers_of_stale : List StaleEdge → List ℕ
numbers_of_stale stale = map (λ item. item.edge.0) stale

-- the lines of stale edges, with their reasons if reasons are requested
abbrev pub stale_text : GraphModel → (why : Bool) → List StaleEdge → List ℕ
stale_text g why stale = flat_map (stale_line why (edges_of g)) stale

-- ---- caveats

-- what is not known of the inputs that builds discovered, and a line for each dyndep file that is stale or was not joined
abbrev pub stale_caveats : DiscoveredGraph → List ReadStatement → List StaleEdge → List ℕ
stale_caveats known entries stale =
    known.caveats.items ++ dyndep_text known.graph entries [] (numbers_of_stale stale)

-- the maker is among the stale edges
abbrev pub is_stale_maker : List StaleEdge → (maker : Option ℕ) → Bool
is_stale_maker stale None = false
is_stale_maker stale (Some edge) = list_any (λ item. edge == item.edge.0) stale

-- the line about the manifest, if a stale edge makes it
abbrev pub manifest_text : GraphModel → List StaleEdge → (manifest : Option (List ℕ)) → List ℕ
manifest_text g stale None = []
manifest_text g stale (Some path) =
    if is_stale_maker stale (maker_of (edges_of g) path)
    then line (path ++ codes ": the manifest is stale, so what else is stale is not known") else []

-- the line about a file whose time cannot be read
abbrev pub unread_time_line : GraphModel → (file : ℕ) → List ℕ
unread_time_line g file = program_line (name_at (files_of g) file ++ codes ": its time cannot be read")

-- ---- what is written

-- stale edges, a line each: with `--json` their objects, by what is known before the build and by its state, else their lines
pub data WritesStale (known : DiscoveredGraph) (entries : List ReadStatement) (log : BuildLogModel) (times : DeclaredTimes)
    (options : StaleModel) (stale : List StaleEdge) : (output : List ℕ) → Type 0 where
  lines : options.json ≡ false → WritesStale known entries log times options stale (stale_text known.graph options.why stale)
  objects : {evidence : Evidence} {output : List ℕ} → options.json ≡ true
      → IsEvidence known.graph.built.graph entries (map (λ edge. edge.0) known.unknown.items) log times evidence
      → ((s : State) → IsStateOf evidence s → output ≡ stale_objects evidence s stale)
      → WritesStale known entries log times options stale output

-- ---- `stale`

-- the line about options that exclude each other: reasons are for lines, and objects have them
abbrev pub stale_misuse : StaleModel → Option (List ℕ)
stale_misuse options = if options.json && options.why then Some (program_line (codes "--json excludes --why")) else None

-- nothing stops a build of the manifest, and the manifest is not stale
pub record IsCurrent (known : DiscoveredGraph) (entries : List ReadStatement) (log : BuildLogModel) (times : DeclaredTimes)
    (options : StaleModel) : Type 0 where
  pub unstopped : IsStop known entries log times (manifest_targets known.graph options) None
  pub stale : List StaleEdge
  pub are_stale : AreStaleFor known entries log times (manifest_needs known.graph options) stale
  pub current : manifest_text known.graph stale (manifest_asked known.graph options) ≡ []

-- The manifest is judged first, as Ninja builds it first: a missing source may stop its build, or it is stale, and then only what it needs
-- is listed, since the targets may change. Else a missing source may stop the build of the targets; or the stale edges are listed that the
-- manifest and the targets need.
pub data AnswersBuild (known : DiscoveredGraph) (entries : List ReadStatement) (log : BuildLogModel) (times : DeclaredTimes)
    (options : StaleModel) (targets : List (List ℕ)) : (output : List ℕ) → Ending → Type 0 where
  manifest_stops : {source : MissingSource} → IsStop known entries log times (manifest_targets known.graph options) (Some source)
      → AnswersBuild known entries log times options targets [] (refused (missing_line known.graph.built.graph source) Fault)
  remade : {stale : List StaleEdge} {output : List ℕ} → IsStop known entries log times (manifest_targets known.graph options) None
      → AreStaleFor known entries log times (manifest_needs known.graph options) stale
      → manifest_text known.graph stale (manifest_asked known.graph options) ≢ []
      → WritesStale known entries log times options stale output
      → AnswersBuild known entries log times options targets output
      (answered (not (is_empty stale))
      (stale_caveats known entries stale ++ manifest_text known.graph stale (manifest_asked known.graph options)))
  target_stops : {source : MissingSource} → IsCurrent known entries log times options
      → IsStop known entries log times targets (Some source)
      → AnswersBuild known entries log times options targets [] (refused (missing_line known.graph.built.graph source) Fault)
  listed : {stale : List StaleEdge} {output : List ℕ} → IsCurrent known entries log times options
      → IsStop known entries log times targets None
      → AreStaleFor known entries log times (files_asked known.graph options targets) stale
      → WritesStale known entries log times options stale output
      → AnswersBuild known entries log times options targets output
      (answered (not (is_empty stale)) (stale_caveats known entries stale))

-- `stale`: a word that names no file is refused, then a needed depfile with a fault, as in `keys`, and then the first file whose time cannot
-- be read. Else the build is judged.
pub data AnswersStale (known : DiscoveredGraph) (entries : List ReadStatement) (log : BuildLogModel) (times : DeclaredTimes)
    (options : StaleModel) : (output : List ℕ) → Ending → Type 0 where
  no_target : {fault : GraphFault} → asked_targets known.graph options.targets ≡ Err fault
      → AnswersStale known entries log times options [] (refused (fault_line fault) Fault)
  no_depfile : {targets : List (List ℕ)} {line : List ℕ} → asked_targets known.graph options.targets ≡ Ok targets
      → HasDepfileFault known (files_asked known.graph options targets) line
      → AnswersStale known entries log times options [] (refused line Fault)
  no_time : {targets : List (List ℕ)} {file : ℕ} → asked_targets known.graph options.targets ≡ Ok targets
      → IsClear known (files_asked known.graph options targets) → IsFirstUnanswered times (files_of known.graph) file
      → AnswersStale known entries log times options [] (refused (unread_time_line known.graph file) Fault)
  judged : {targets : List (List ℕ)} {output : List ℕ} {ending : Ending} → asked_targets known.graph options.targets ≡ Ok targets
      → IsClear known (files_asked known.graph options targets)
      → AnswersBuild known entries log times options targets output ending
      → AnswersStale known entries log times options output ending
