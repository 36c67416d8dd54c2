-- The answer to each question, by a graph and its statements: standard output, and how it ends.
use Rattle.std.specs.Prelude.{◌≡◌, ◌≢◌, ◌⊎◌, ℕ, Bool, true, false, ◌&&◌, not, if◌then◌else◌, Option, Some, None, is_some, unwrap_or}
use Rattle.std.specs.Prelude.{Result, Ok, Err, List, [], ◌∷◌, ◌++◌, map, codes, slice_get}
use Rattle.std.specs.List.{flat_map}
use Rattle.std.specs.Option.{option_or}
use Rattle.nj_text.specs.Calls.{is_empty}
use Rattle.nj_text.specs.Paths.{clean_path_of, is_absolute}
use Rattle.nj_graph.specs.ReadingList.{ReadStatement}
use Rattle.nj_discovered.specs.Times.{DeclaredTimes}
use Rattle.nj_graph.specs.declared.ChainKinds.{ChainKinds}
use Rattle.nj_graph.specs.declared.GraphFault.{GraphFault}
use Rattle.nj_graph.specs.Edges.{EdgePaths}
use Rattle.nj_graph.specs.Graph.{GraphModel, edges_of}
use Rattle.nj_graph.specs.Handles.{GraphFiles}
use Rattle.nj_graph.specs.Targets.{picked, targets_or}
use Rattle.nj_graph.specs.Built.{defaults_in_force}
use Rattle.nj_needs.specs.Growing.{grown_targets}
use Rattle.nj_needs.specs.MarkTexts.{given_mark}
use Rattle.nj_needs.specs.PageWalks.{written, StopsAt}
use Rattle.nj_needs.specs.Walks.{WalkState}
use Rattle.nj_keys.specs.Keys.{HaveKeys, all_commands, edges_stated, line}
use Rattle.nj_keys.specs.Pages.{leads, left_at, BeginsAfter}
use Rattle.nj_keys.specs.declared.pages.EdgeKey.{EdgeKey}
use Rattle.nj_tools.specs.Compdb.{text_fault}
use Rattle.nj_tools.specs.EdgeObjects.{edge_lines, unwritable_edge}
use Rattle.nj_questions.specs.Questions.{AffectedModel, DrawModel, KeysModel, WhyModel}
use Rattle.nj_ask.specs.declared.discovered.DiscoveredGraph.{DiscoveredGraph}
use Rattle.nj_ask.specs.declared.doubts.EdgeFault.{EdgeFault}
use Rattle.nj_ask.specs.declared.status.Status.TheVariants.{Fault}
use Rattle.nj_ask.specs.Affected.{Asked, unknown_rule}
use Rattle.nj_ask.specs.Chains.{HasChain, LacksChain}
use Rattle.nj_ask.specs.Drawings.{IsDrawing}
use Rattle.nj_ask.specs.Endings.{Ending, answered, fault_line, program_line, refused}
use Rattle.nj_ask.specs.Given.{base_misuse, given_paths, LeavesPaths}
use Rattle.nj_ask.specs.KeyObjects.{key_objects}
use Rattle.nj_ask.specs.NeededFaults.{IsFirstFault}
use Rattle.nj_ask.specs.Pages.{mark_line}
use Rattle.nj_ask.specs.Reports.{ChangeModel, IsReport, no_path_line}
use Rattle.nj_ask.specs.Shape.{caveat_text}
use Rattle.nj_ask.specs.Since.{IsNewSince, LacksKeys, NewModel}

-- ---- depfiles with faults, at which Ninja stops

-- no edge that the files need has one
abbrev pub IsClear : DiscoveredGraph → (files : List (List ℕ)) → Type 0
IsClear known files = (known.faults.items ≡ []) ⊎ IsFirstFault known files None

-- an edge that the files need has one: of several the edge with the lowest number
pub record HasDepfileFault (known : DiscoveredGraph) (files : List (List ℕ)) (line : List ℕ) : Type 0 where
  pub fault : EdgeFault
  pub first : IsFirstFault known files (Some fault)
  pub line_is : line ≡ program_line fault.text.items

-- ---- the manifest alone

-- the edges of the manifest alone: a key is the same whatever builds discovered
abbrev pub manifest_edges : DiscoveredGraph → List EdgePaths
manifest_edges known = edges_stated (map (λ discovery. discovery.stated_inputs) known.discoveries.items) (edges_of known.graph)

-- ---- `affected`

-- The change of the files at the given paths, in the given working directory, where tests name the files at the given full paths. It comes
-- with what is new in the manifest.
abbrev pub change_asked : AffectedModel → (working : List ℕ) → (test_files : List (List ℕ)) → (paths : List (List ℕ)) → (new : NewModel)
    → ChangeModel
change_asked options working test_files paths new = record {
  working = working;
  folders = options.source_dirs;
  paths = paths;
  ignores_unknown = options.ignore_unknown;
  test_files = test_files;
  commands = new.commands;
  is_settled = new.is_settled;
}

-- the outputs that are listed
abbrev pub outputs_asked : AffectedModel → Asked
outputs_asked options = record { rules = options.rules; prefix = options.prefix; no_phony = options.no_phony }

-- `affected`: a rule's name that no rule has would list nothing, as if nothing were affected, so it is refused; so it is something to
-- look at that no path is given, unless none need be. The report is about the paths that are not ignored, and about the commands with
-- keys that the text `since` does not have, if there is one. `folder` is the working directory.
pub data AnswersAffected (known : DiscoveredGraph) (entries : List ReadStatement) (times : DeclaredTimes) (folder : List ℕ)
    (options : AffectedModel)
    (since : Option (List ℕ)) (input : List ℕ) : (output : List ℕ) → Ending → Type 0 where
  no_rule : {name : List ℕ} → unknown_rule known.graph options.rules ≡ Some name
      → AnswersAffected known entries times folder options since input []
      (refused (program_line (codes "unknown rule '" ++ name ++ codes "'")) Fault)
  no_path : unknown_rule known.graph options.rules ≡ None → given_paths options input ≡ [] → options.allow_empty ≡ false
      → AnswersAffected known entries times folder options since input [] (answered false no_path_line)
  no_keys : {line : List ℕ} → unknown_rule known.graph options.rules ≡ None
      → (given_paths options input ≢ []) ⊎ (options.allow_empty ≡ true) → LacksKeys options.since since line
      → AnswersAffected known entries times folder options since input [] (refused line Fault)
  reported : {paths : List (List ℕ)} {new : NewModel} {outputs warnings : List ℕ} → unknown_rule known.graph options.rules ≡ None
      → (given_paths options input ≢ []) ⊎ (options.allow_empty ≡ true)
      → IsNewSince known (manifest_edges known) entries times folder options.bases since new
      → LeavesPaths options (given_paths options input) paths
      → IsReport known entries (change_asked options folder [] paths new) (outputs_asked options) outputs warnings
      → AnswersAffected known entries times folder options since input outputs (answered false warnings)

-- ---- `why`

-- the files whose needs a chain from a file may follow: with validations, also those that the edges which it needs validate
abbrev pub needed_from : GraphModel → (validations : Bool) → (start : List ℕ) → List (List ℕ)
needed_from g validations start = if validations then grown_targets (edges_of g) (start ∷ []) else start ∷ []

-- the inputs by which a chain may go
abbrev pub kinds_asked : WhyModel → ChainKinds
kinds_asked options = record { order_only = not options.no_order_only; validations = options.validations }

-- `why`: a chain by which the first file needs the second, or that there is none
pub data AnswersWhy (known : DiscoveredGraph) (entries : List ReadStatement) (options : WhyModel) :
    (output : List ℕ) → Ending → Type 0 where
  no_start : {fault : GraphFault} → picked (edges_of known.graph) options.start ≡ Err fault
      → AnswersWhy known entries options [] (refused (fault_line fault) Fault)
  no_end : {start : List ℕ} {fault : GraphFault} → picked (edges_of known.graph) options.start ≡ Ok start
      → picked (edges_of known.graph) options.end ≡ Err fault
      → AnswersWhy known entries options [] (refused (fault_line fault) Fault)
  no_depfile : {start end line : List ℕ} → picked (edges_of known.graph) options.start ≡ Ok start
      → picked (edges_of known.graph) options.end ≡ Ok end
      → HasDepfileFault known (needed_from known.graph options.validations start) line
      → AnswersWhy known entries options [] (refused line Fault)
  chain : {start end lines : List ℕ} → picked (edges_of known.graph) options.start ≡ Ok start
      → picked (edges_of known.graph) options.end ≡ Ok end
      → IsClear known (needed_from known.graph options.validations start)
      → HasChain known.graph known.discoveries.items (kinds_asked options) start end lines
      → AnswersWhy known entries options lines (answered false (caveat_text known entries))
  no_chain : {start end : List ℕ} → picked (edges_of known.graph) options.start ≡ Ok start
      → picked (edges_of known.graph) options.end ≡ Ok end
      → IsClear known (needed_from known.graph options.validations start)
      → LacksChain known.graph (kinds_asked options) start end
      → AnswersWhy known entries options [] (answered true (caveat_text known entries))

-- ---- `keys`

-- the text of the mark of the run before; without one that of the start
abbrev pub mark_text : KeysModel → List ℕ
mark_text options = unwrap_or options.resume (codes "start")

-- that mark
abbrev pub asked_mark : KeysModel → Option (List ℕ)
asked_mark options = given_mark (mark_text options)

-- the line about a text that is no mark
abbrev pub mark_misuse : (text : List ℕ) → (mark : Option (List ℕ)) → Option (List ℕ)
mark_misuse text None = Some (program_line (codes "bad mark '" ++ text ++ codes "'"))
mark_misuse text (Some mark) = None

-- the line about what `--all` excludes: all that is about targets, and pages
abbrev pub all_misuse : KeysModel → Option (List ℕ)
all_misuse options =
    if options.all && not (is_empty options.targets) then Some (program_line (codes "--all excludes targets"))
    else if options.all && is_some options.take then Some (program_line (codes "--all excludes --take"))
    else if options.all && is_some options.resume then Some (program_line (codes "--all excludes --resume"))
    else None

-- why the options are refused before anything is read
abbrev pub keys_misuse : KeysModel → Option (List ℕ)
keys_misuse options =
    option_or (base_misuse options.bases)
    (option_or (all_misuse options) (mark_misuse (mark_text options) (asked_mark options)))

-- the targets that words mean; the default ones if there are none
abbrev pub asked_targets : GraphModel → (words : List (List ℕ)) → Result (List (List ℕ)) GraphFault
asked_targets g words = targets_or (defaults_in_force g.built.defaults (edges_of g)) (edges_of g) words

-- the files at the given paths
abbrev pub files_at : GraphModel → (paths : List (List ℕ)) → GraphFiles
files_at g paths = record { graph = g; paths = paths }

-- the keys of the given edges, by the options: the additions are the texts of the options, and after them `contents`, those for the contents
-- of files
abbrev pub HaveKeysAsked : DiscoveredGraph → List ReadStatement → KeysModel → (contents : List (List ℕ)) → (numbers : List ℕ)
    → List EdgeKey → Type 0
HaveKeysAsked known entries options contents numbers keys =
    HaveKeys (options.additions ++ contents) (map clean_path_of options.bases) (manifest_edges known) entries numbers keys

-- keys, a line each
abbrev pub key_lines : GraphModel → List EdgeKey → List ℕ
key_lines g keys = flat_map (λ next. line (edges_of g) next.edge.0 next.key) keys

-- the directory of a base by itself; a relative base is refused
abbrev pub single_base : (base : List ℕ) → List (List ℕ)
single_base base = if is_absolute base then clean_path_of base ∷ [] else []

-- keys as text: with `--json` objects, else lines
abbrev pub keys_text : DiscoveredGraph → List ReadStatement → KeysModel → List EdgeKey → List ℕ
keys_text known entries options keys =
    if options.json then key_objects known.graph entries known.discoveries.items (map single_base options.bases) keys
    else key_lines known.graph keys

-- `keys` from a mark on: the commands that the targets need and that are left there, up to the limit, and the mark after them
pub data AnswersTargetKeys (known : DiscoveredGraph) (entries : List ReadStatement) (options : KeysModel) (contents : List (List ℕ))
    (mark : List ℕ) :
    (output : List ℕ) → Ending → Type 0 where
  no_target : {fault : GraphFault} → asked_targets known.graph options.targets ≡ Err fault
      → AnswersTargetKeys known entries options contents mark [] (refused (fault_line fault) Fault)
  no_depfile : {paths : List (List ℕ)} {line : List ℕ} → asked_targets known.graph options.targets ≡ Ok paths
      → HasDepfileFault known paths line → AnswersTargetKeys known entries options contents mark [] (refused line Fault)
  out_of_range : {paths : List (List ℕ)} → asked_targets known.graph options.targets ≡ Ok paths → IsClear known paths
      → leads (files_at known.graph paths) mark ≡ false
      → AnswersTargetKeys known entries options contents mark [] (refused (program_line (codes "mark out of range")) Fault)
  page : {paths : List (List ℕ)} {keys : List EdgeKey} {walk : WalkState} (rest : Option (List ℕ))
      → asked_targets known.graph options.targets ≡ Ok paths → IsClear known paths
      → leads (files_at known.graph paths) mark ≡ true
      → HaveKeysAsked known entries options contents (written options.take (left_at (files_at known.graph paths) mark)) keys
      → BeginsAfter (files_at known.graph paths) mark walk → StopsAt walk options.take rest
      → AnswersTargetKeys known entries options contents mark (keys_text known entries options keys)
      (answered false (mark_line rest ++ caveat_text known entries))

-- `keys --all`: all commands, in the order of the manifest; a depfile with a fault is refused, as where a target needs its edge
pub data AnswersAllKeys (known : DiscoveredGraph) (entries : List ReadStatement) (options : KeysModel) (contents : List (List ℕ)) :
    (output : List ℕ) → Ending → Type 0 where
  bad_depfile : {fault : EdgeFault} → slice_get known.faults.items 0 ≡ Some fault
      → AnswersAllKeys known entries options contents [] (refused (program_line fault.text.items) Fault)
  every : {keys : List EdgeKey} → known.faults.items ≡ []
      → HaveKeysAsked known entries options contents (all_commands known.graph) keys
      → AnswersAllKeys known entries options contents (keys_text known entries options keys) (answered false (caveat_text known entries))

-- `keys`
pub data AnswersKeys (known : DiscoveredGraph) (entries : List ReadStatement) (options : KeysModel) (contents : List (List ℕ))
    (mark : List ℕ) :
    (output : List ℕ) → Ending → Type 0 where
  of_targets : {output : List ℕ} {ending : Ending} → options.all ≡ false
      → AnswersTargetKeys known entries options contents mark output ending → AnswersKeys known entries options contents mark output ending
  of_all : {output : List ℕ} {ending : Ending} → options.all ≡ true
      → AnswersAllKeys known entries options contents output ending → AnswersKeys known entries options contents mark output ending

-- ---- `json`

-- `json`: the objects of all edges, or those before the first that JSON cannot contain, and its fault
pub data AnswersJson (known : DiscoveredGraph) (entries : List ReadStatement) : (output : List ℕ) → Ending → Type 0 where
  all : unwritable_edge entries known.discoveries.items ≡ None
      → AnswersJson known entries (edge_lines entries known.discoveries.items) (answered false (caveat_text known entries))
  not_text : {edge : ℕ} → unwritable_edge entries known.discoveries.items ≡ Some edge
      → AnswersJson known entries (edge_lines entries known.discoveries.items)
      (refused (fault_line (text_fault entries edge)) Fault)

-- ---- `draw`

-- `draw`: the edges that the targets need, where a depfile with a fault is refused as in `why`; or those that a change of them touches
pub data AnswersDraw (known : DiscoveredGraph) (entries : List ReadStatement) (options : DrawModel) :
    (output : List ℕ) → Ending → Type 0 where
  no_target : {fault : GraphFault} → asked_targets known.graph options.targets ≡ Err fault
      → AnswersDraw known entries options [] (refused (fault_line fault) Fault)
  no_depfile : {paths : List (List ℕ)} {line : List ℕ} → asked_targets known.graph options.targets ≡ Ok paths
      → options.affected ≡ false → HasDepfileFault known paths line → AnswersDraw known entries options [] (refused line Fault)
  drawing : {paths : List (List ℕ)} {text : List ℕ} → asked_targets known.graph options.targets ≡ Ok paths
      → (options.affected ≡ true) ⊎ IsClear known paths → IsDrawing known options paths text
      → AnswersDraw known entries options text (answered false (caveat_text known entries))
