-- Reports about a change of files.
use Rattle.std.specs.Prelude.{◌≡◌, ◌≢◌, ◌⊎◌, ℕ, Bool, true, false, List, [], ◌∷◌, ◌++◌, codes, if◌then◌else◌}
use Rattle.std.specs.Prelude.{map, Contains}
use Rattle.nj_changes.specs.FullPaths.{all_sought, has_one, sought}
use Rattle.nj_graph.specs.ReadingList.{ReadStatement}
use Rattle.nj_graph.specs.Graph.{GraphModel, edges_of}
use Rattle.nj_reached.specs.GraphChanges.{outputs_at}
use Rattle.nj_ask.specs.declared.discovered.DiscoveredGraph.{DiscoveredGraph}
use Rattle.nj_ask.specs.Affected.{Asked, line, ListsOutputs}
use Rattle.nj_ask.specs.DiscoveredGraphs.{IsTouched}
use Rattle.nj_ask.specs.Manifest.{opened_files, opened_paths, FeedsManifest}
use Rattle.nj_ask.specs.SameFiles.{numbers_at, path_of}
use Rattle.nj_ask.specs.Shape.{shape_text}

-- A change of files, as a reader of the graph describes it: paths, the directories that they may be in, and
-- the working directory.
-- `test_files`: the full paths of files that tests name. `commands`: the edges with new commands, compared
-- with an older manifest;
-- `is_settled`: this manifest is up to date with the files that it is made from.
pub record ChangeModel : Type 0 where
  pub working : List ℕ
  pub folders : List (List ℕ)
  pub paths : List (List ℕ)
  pub ignores_unknown : Bool
  pub test_files : List (List ℕ)
  pub commands : List ℕ
  pub is_settled : Bool

-- the numbers of the changed files: those at the full paths of changed paths
abbrev pub changed_numbers : GraphModel → ChangeModel → List ℕ
changed_numbers g q = numbers_at g q.working (all_sought q.working q.folders q.paths)

-- the paths of the changed files
abbrev pub changed_paths : GraphModel → ChangeModel → List (List ℕ)
changed_paths g q = map (path_of g) (changed_numbers g q)

-- the paths of the files that are new for the edges: the changed ones, and the outputs of new commands
abbrev pub new_paths : GraphModel → ChangeModel → List (List ℕ)
new_paths g q = changed_paths g q ++ outputs_at (edges_of g) q.commands

-- ---- one changed path

-- the numbers of the files that it denotes
abbrev pub files_meant : GraphModel → ChangeModel → (path : List ℕ) → List ℕ
files_meant g q path = numbers_at g q.working (sought q.working q.folders path)

-- no edge names it
abbrev pub IsUnnamed : GraphModel → ChangeModel → (path : List ℕ) → Type 0
IsUnnamed g q path = files_meant g q path ≡ []

-- a file was opened at it
abbrev pub is_opened : GraphModel → ChangeModel → (path : List ℕ) → Bool
is_opened g q path = has_one (opened_paths g q.working) (sought q.working q.folders path)

-- a file that it denotes feeds the manifest
abbrev pub HasFeeding : GraphModel → List ReadStatement → ChangeModel → (path : List ℕ) → Type 0
HasFeeding g entries q path =
    (file : ℕ) × Contains (files_meant g q path) file × FeedsManifest g (opened_files g q.working) entries file

-- the manifest is made from it
abbrev pub ChangesManifest : GraphModel → List ReadStatement → ChangeModel → (path : List ℕ) → Type 0
ChangesManifest g entries q path = (is_opened g q path ≡ true) ⊎ HasFeeding g entries q path

-- a test names it
abbrev pub is_test_file : ChangeModel → (path : List ℕ) → Bool
is_test_file q path = has_one q.test_files (sought q.working q.folders path)

-- as a line that says so
abbrev pub made_from_line : (path : List ℕ) → List ℕ
made_from_line path = line (path ++ codes ": the manifest is made from it")

-- The warning about it; empty without a warning. A manifest that is up to date with the files that it is made
-- from has seen the change.
pub data IsWarning (g : GraphModel) (entries : List ReadStatement) (q : ChangeModel) (path : List ℕ) :
    (text : List ℕ) → Type 0 where
  made_from : ChangesManifest g entries q path → q.is_settled ≡ false
      → IsWarning g entries q path (made_from_line path)
  settled : ChangesManifest g entries q path → q.is_settled ≡ true → IsWarning g entries q path []
  unknown : ¬ ChangesManifest g entries q path → IsUnnamed g q path → is_test_file q path ≡ false
      → q.ignores_unknown ≡ false
      → IsWarning g entries q path (line path)
  of_test : ¬ ChangesManifest g entries q path → IsUnnamed g q path → is_test_file q path ≡ true
      → IsWarning g entries q path []
  ignored : ¬ ChangesManifest g entries q path → IsUnnamed g q path → q.ignores_unknown ≡ true
      → IsWarning g entries q path []
  nothing : ¬ ChangesManifest g entries q path → files_meant g q path ≢ [] → IsWarning g entries q path []

-- ---- all of them

-- The text has the warnings about the given paths, in their order.
pub data HasWarnings (g : GraphModel) (entries : List ReadStatement) (q : ChangeModel) :
    (paths : List (List ℕ)) → (text : List ℕ) → Type 0 where
  none : HasWarnings g entries q [] []
  next : {path warning : List ℕ} {paths : List (List ℕ)} {text : List ℕ} → IsWarning g entries q path warning
      → HasWarnings g entries q paths text → HasWarnings g entries q (path ∷ paths) (warning ++ text)

-- the edges that a change touches: those with new commands, and those that the new files touch
abbrev pub IsTouchedBy : DiscoveredGraph → ChangeModel → (edge : ℕ) → Type 0
IsTouchedBy known q edge = Contains q.commands edge ⊎ IsTouched known (new_paths known.graph q) edge

-- the opened files that a touched edge may make again; none if the manifest is up to date
abbrev pub remade_files : GraphModel → ChangeModel → List ℕ
remade_files g q = if q.is_settled then [] else opened_files g q.working

-- The text says why edges that a change touches may be missing from the given ones: what was not read of
-- builds, the warnings about the
-- paths, and the dyndep files and manifests that may change.
pub record HasCaveats (known : DiscoveredGraph) (entries : List ReadStatement) (q : ChangeModel)
    (edges : List ℕ) (text : List ℕ)
    : Type 0 where
  pub about : List ℕ
  pub warns : HasWarnings known.graph entries q q.paths about
  pub all : text
      ≡ known.caveats.items ++ about
      ++ shape_text known entries (remade_files known.graph q) (changed_numbers known.graph q) edges

-- The two texts are the report of a change: the outputs of the edges that it touches, and why outputs may be missing.
pub record IsReport (known : DiscoveredGraph) (entries : List ReadStatement) (q : ChangeModel) (asked : Asked) (outputs warnings : List ℕ)
    : Type 0 where
  pub lists : ListsOutputs known.graph asked (IsTouchedBy known q) outputs
  pub caveats : HasCaveats known entries q lists.edges warnings

-- the line that says that no changed path was given
abbrev pub no_path_line : List ℕ
no_path_line = line (codes "ninja-graph: no changed path was given")
