-- What status 0 of `affected` and `tests` means, and that a report is determined.
use Rattle.std.specs.Prelude.{◌≡◌, ◌≢◌, ◌⊎◌, ◌↔◌, ℕ, Bool, true, false, Option, Some, List, [], ◌∷◌, Contains, map}
use Rattle.nj_graph.specs.ReadingList.{ReadStatement}
use Rattle.nj_discovered.specs.Times.{DeclaredTimes}
use Rattle.nj_graph.specs.Changes.{has_input_of, IsOrNeeds}
use Rattle.nj_graph.specs.Dirty.{has_counted_input_of, has_output_of}
use Rattle.nj_graph.specs.Edges.{EdgePaths, edge_at, is_among, outputs_of}
use Rattle.nj_graph.specs.Graph.{GraphModel, edges_of}
use Rattle.nj_text.specs.Paths.{clean_path_of}
use Rattle.nj_keys.specs.Keys.{IsKey, all_commands}
use Rattle.nj_tools.specs.Sinks.{SinkState, Takes}
use Rattle.nj_tests.specs.Tests.{TestModel}
use Rattle.nj_questions.specs.Questions.{AffectedModel, TestsModel}
use Rattle.nj_ask.specs.declared.discovered.DiscoveredGraph.{DiscoveredGraph}
use Rattle.nj_ask.specs.declared.status.Status.TheVariants.{Done}
use Rattle.nj_ask.specs.Affected.{Asked, ListsOutputs}
use Rattle.nj_ask.specs.Answers.{AnswersAffected, change_asked, manifest_edges, outputs_asked}
use Rattle.nj_ask.specs.ChosenTests.{AnswersTests, WritesTests, tests_change}
use Rattle.nj_ask.specs.Endings.{Ends, Sinks}
use Rattle.nj_ask.specs.Given.{given_paths, LeavesPaths}
use Rattle.nj_ask.specs.Manifest.{makes_manifest, opened_files}
use Rattle.nj_ask.specs.Reports.{ChangeModel, changed_numbers, files_meant, is_opened, is_test_file}
use Rattle.nj_ask.specs.Reports.{new_paths, remade_files, HasWarnings, IsReport}
use Rattle.nj_ask.specs.Reports.{ChangesManifest, IsTouchedBy, IsUnnamed}
use Rattle.nj_ask.specs.SameFiles.{path_of}
use Rattle.nj_ask.specs.Since.{IsNewSince, NewModel, keys_in, lines_in}
use Rattle.nj_ask.specs.Shape.{shape_text}

-- A changed path denotes files of the graph that are not needed to make the manifest, and no file was opened at it.
pub record KeepsManifest (g : GraphModel) (entries : List ReadStatement) (q : ChangeModel) (path : List ℕ) : Type 0 where
  pub named : files_meant g q path ≢ []
  pub unopened : is_opened g q path ≡ false
  pub unmade : (file maker edge : ℕ) → Contains (files_meant g q path) file → IsOrNeeds (edges_of g) maker edge
      → has_input_of (path_of g file ∷ []) (edge_at (edges_of g) edge) ≡ true
      → makes_manifest g (opened_files g q.working) entries maker ≡ false

-- A changed path that no edge names and at which no file was opened, where such paths are ignored.
pub record IsIgnored (g : GraphModel) (q : ChangeModel) (path : List ℕ) : Type 0 where
  pub unnamed : IsUnnamed g q path
  pub unopened : is_opened g q path ≡ false
  pub ignores : q.ignores_unknown ≡ true

-- A changed path from which a manifest is made that is up to date with the files that it is made from.
pub record IsSettled (g : GraphModel) (entries : List ReadStatement) (q : ChangeModel) (path : List ℕ) : Type
    0 where
  pub changes : ChangesManifest g entries q path
  pub settled : q.is_settled ≡ true

-- Changed paths do not change the manifest, or it is up to date with them; each denotes a file, unless paths
-- without a file are ignored;
-- nothing is unclear about what builds discovered; dyndep files and manifests cannot change; and standard
-- output received exactly the
-- requested outputs of the edges that the change touches.
pub record MissesNothing (known : DiscoveredGraph) (entries : List ReadStatement) (q : ChangeModel)
    (asked : Asked)
    (old new : SinkState) : Type 0 where
  pub keeps : (path : List ℕ) → Contains q.paths path
      → KeepsManifest known.graph entries q path ⊎ IsIgnored known.graph q path
      ⊎ IsSettled known.graph entries q path
  pub clear : known.caveats.items ≡ []
  pub outputs : List ℕ
  pub lists : ListsOutputs known.graph asked (IsTouchedBy known q) outputs
  pub shape : shape_text known entries (remade_files known.graph q) (changed_numbers known.graph q)
      lists.edges ≡ []
  pub took : Takes old new outputs

-- Where `affected` ends with status 0, nothing is missed of the paths that are not ignored.
abbrev pub DoneMissesNothing : Type 0
DoneMissesNothing = (known : DiscoveredGraph) (entries : List ReadStatement) (times : DeclaredTimes) (folder : List ℕ)
    (options : AffectedModel)
    (since : Option (List ℕ)) (input : List ℕ) (old new : Sinks)
    → Ends (AnswersAffected known entries times folder options since input) old new Done
    → (paths : List (List ℕ)) × LeavesPaths options (given_paths options input) paths
    × (more : NewModel) × IsNewSince known (manifest_edges known) entries times folder options.bases since more
    × MissesNothing known entries (change_asked options folder [] paths more) (outputs_asked options) old.output new.output

-- ---- tests

-- A changed path that no edge names and at which no file was opened, where words of tests name the file.
pub record IsOfTest (g : GraphModel) (q : ChangeModel) (path : List ℕ) : Type 0 where
  pub unnamed : IsUnnamed g q path
  pub unopened : is_opened g q path ≡ false
  pub is_named : is_test_file q path ≡ true

-- Changed paths do not change the manifest, or it is up to date with them; each denotes a file that tests or
-- edges name, unless paths
-- without a file are ignored; nothing is unclear about what builds discovered; dyndep files and manifests
-- cannot change; and standard
-- output received the tests that are chosen, without any other.
pub record MissesNoTest (known : DiscoveredGraph) (entries : List ReadStatement) (options : TestsModel)
    (tests : List TestModel)
    (q : ChangeModel) (old new : SinkState) : Type 0 where
  pub keeps : (path : List ℕ) → Contains q.paths path
      → IsOfTest known.graph q path ⊎ KeepsManifest known.graph entries q path ⊎ IsIgnored known.graph q path
      ⊎ IsSettled known.graph entries q path
  pub clear : known.caveats.items ≡ []
  pub edges : List ℕ
  pub touched : (edge : ℕ) → Contains edges edge ↔ IsTouchedBy known q edge
  pub shape : shape_text known entries (remade_files known.graph q) (changed_numbers known.graph q) edges ≡ []
  pub output : List ℕ
  pub writes : WritesTests known entries q edges options tests false output
  pub took : Takes old new output

-- Where `tests` ends with status 0, nothing is missed of the paths that are not ignored.
abbrev pub DoneMissesNoTest : Type 0
DoneMissesNoTest = (known : DiscoveredGraph) (entries : List ReadStatement) (times : DeclaredTimes) (folder : List ℕ)
    (options : TestsModel)
    (tests : List TestModel) (since : Option (List ℕ)) (input : List ℕ) (old new : Sinks)
    → Ends (AnswersTests known entries times folder options tests since input) old new Done
    → (paths : List (List ℕ)) × LeavesPaths options.change (given_paths options.change input) paths
    × (more : NewModel) × IsNewSince known (manifest_edges known) entries times folder options.change.bases since more
    × MissesNoTest known entries options tests (tests_change known.has_discovered options tests folder paths more) old.output new.output

-- ---- older keys

-- A command that is not new since an older manifest has a key, with the given bases, that is among the keys of that manifest.
abbrev pub OtherCommandsAreOld : Type 0
OtherCommandsAreOld = (known : DiscoveredGraph) (edges : List EdgePaths) (entries : List ReadStatement) (times : DeclaredTimes)
    (folder : List ℕ) (bases : List (List ℕ)) (text : List ℕ) (new : NewModel)
    → IsNewSince known edges entries times folder bases (Some text) new → (edge : ℕ) → Contains (all_commands known.graph) edge
    → ¬ Contains new.commands edge
    → (key : List ℕ) × IsKey (map clean_path_of bases) edges entries edge key × (is_among (keys_in (lines_in text)) key ≡ true)

-- ---- one text

-- A list of paths has only one text of warnings.
abbrev pub WarningsAreUnique : Type 0
WarningsAreUnique = (g : GraphModel) (entries : List ReadStatement) (q : ChangeModel) (paths : List (List ℕ))
    (text other : List ℕ) → HasWarnings g entries q paths text → HasWarnings g entries q paths other → text ≡ other

-- ---- what is listed is closed

-- Why an edge is listed beside others: one of its inputs is new, or is an output of a listed edge. With
-- discovered inputs, order-only
-- inputs are ignored, and it is also a reason that the discovered inputs of the edge are not known, or that
-- one of its outputs is new.
abbrev pub HasReason : (has_discovered : Bool) → List EdgePaths → (changed : List (List ℕ))
    → (unknown listed : List ℕ) → (edge : ℕ)
    → Type 0
HasReason false edges changed unknown listed edge =
    (has_input_of changed (edge_at edges edge) ≡ true)
    ⊎ ((other : ℕ) × Contains listed other
    × (has_input_of (outputs_of (edge_at edges other)) (edge_at edges edge) ≡ true))
HasReason true edges changed unknown listed edge =
    Contains unknown edge
    ⊎ (has_output_of changed (edge_at edges edge) ≡ true)
    ⊎ (has_counted_input_of changed (edge_at edges edge) ≡ true)
    ⊎ ((other : ℕ) × Contains listed other
    × (has_counted_input_of (outputs_of (edge_at edges other)) (edge_at edges edge) ≡ true))

-- The edges whose outputs a report lists are exactly those with a new command or another reason.
abbrev pub ListedHaveReasons : Type 0
ListedHaveReasons = (known : DiscoveredGraph) (entries : List ReadStatement) (q : ChangeModel) (asked : Asked)
    (outputs warnings : List ℕ) (report : IsReport known entries q asked outputs warnings) (edge : ℕ)
    → Contains report.lists.edges edge
    ↔ (Contains q.commands edge ⊎ HasReason known.has_discovered (edges_of known.graph)
    (new_paths known.graph q)
    (map (λ edge. edge.0) known.unknown.items) report.lists.edges edge)
