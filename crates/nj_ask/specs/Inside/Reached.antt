-- What the code keeps of how the manifest is made, and its answers about changed files.
use Rattle.std.specs.Prelude.{◌≡◌, ◌↔◌, ◌⊎◌, ◌<◌, ◌||◌, ℕ, true, false, if◌then◌else◌, List, [], ◌∷◌, All}
use Rattle.std.specs.Prelude.{map, length, slice_index_or, Contains}
use Rattle.std.specs.List.{filter}
use Rattle.std.specs.List.Sorted.{IsStrictlyIncreasing}
use Rattle.nj_changes.specs.FullPaths.{all_sought, has_one, sought}
use Rattle.nj_changes.specs.Tables.{SameNames}
use Rattle.nj_graph.specs.declared.EdgeNo.{EdgeNo}
use Rattle.nj_graph.specs.declared.FileNo.{FileNo}
use Rattle.nj_graph.specs.ReadingList.{ReadStatement}
use Rattle.nj_graph.specs.Changes.{has_input_of, IsAffected, IsOrNeeds}
use Rattle.nj_graph.specs.Edges.{edge_at}
use Rattle.nj_graph.specs.Graph.{GraphModel, edges_of, files_of}
use Rattle.nj_ask.specs.declared.changes.FilesAt.{FilesAt}
use Rattle.nj_ask.specs.declared.manifest.Manifest.{Manifest}
use Rattle.nj_ask.specs.declared.discovered.DiscoveredGraph.{DiscoveredGraph}
use Rattle.nj_ask.specs.declared.report.Reach.{Reach}
use Rattle.nj_ask.specs.declared.report.Tables.{Tables}
use Rattle.nj_ask.specs.Affected.{line}
use Rattle.nj_ask.specs.DiscoveredGraphs.{IsTouched}
use Rattle.nj_ask.specs.Inside.Flags.{AreFeeds, AreFlags}
use Rattle.nj_ask.specs.Manifest.{is_one_of, makes_manifest, opened_files, opened_paths, FeedsManifest}
use Rattle.nj_ask.specs.Reports.{changed_numbers, changed_paths, is_test_file, made_from_line, ChangeModel}
use Rattle.nj_ask.specs.Reports.{IsTouchedBy}
use Rattle.nj_ask.specs.SameFiles.{full_path_of, numbers_at, path_of}

-- numbers of files of a graph
abbrev pub numbers_of : List FileNo → List ℕ
numbers_of files = map (λ file. file.0) files

-- numbers of edges
abbrev pub edge_numbers : List EdgeNo → List ℕ
edge_numbers edges = map (λ edge. edge.0) edges

-- the full paths at which the paths of a change may be
abbrev pub sought_by : ChangeModel → List (List ℕ)
sought_by q = all_sought q.working q.folders q.paths

-- they are files of the graph
abbrev pub AreFilesOf : GraphModel → List FileNo → Type 0
AreFilesOf g files = All (λ file. file.0 < length (files_of g)) files

-- they are edges of the graph
abbrev pub AreEdgesOf : GraphModel → List EdgeNo → Type 0
AreEdgesOf g edges = All (λ edge. edge.0 < length (edges_of g)) edges

-- the files of a graph at the given full paths
pub record AreAt (g : GraphModel) (working : List ℕ) (paths : List (List ℕ)) (files : List FileNo) : Type 0 where
  pub numbers : numbers_of files ≡ numbers_at g working paths
  pub known : AreFilesOf g files

-- the files that changed, and those that were opened
pub record AreFilesAt (g : GraphModel) (q : ChangeModel) (files : FilesAt) : Type 0 where
  pub changed : AreAt g q.working (all_sought q.working q.folders q.paths) files.changed.items
  pub opened : AreAt g q.working (opened_paths g q.working) files.opened.items

-- the manifest, by the opened files and the affected edges
pub record IsReached (g : GraphModel) (files : List ℕ) (entries : List ReadStatement) (edges : List ℕ) (m : Manifest) : Type 0 where
  pub opened : AreFlags (length (files_of g)) files m.opened.items
  pub feeds : AreFeeds (edges_of g) (filter (makes_manifest g files entries) edges) m.feeds.items

-- the manifest shows whether a file feeds it
pub record CanTell (g : GraphModel) (files : List ℕ) (entries : List ReadStatement) (file : ℕ) (m : Manifest) : Type 0 where
  pub opened : slice_index_or m.opened.items file false ≡ is_one_of files file
  pub feeds : (edge : ℕ) → has_input_of (path_of g file ∷ []) (edge_at (edges_of g) edge) ≡ true
      → (slice_index_or m.feeds.items edge false ≡ true)
      ↔ ((maker : ℕ) × (makes_manifest g files entries maker ≡ true) × IsOrNeeds (edges_of g) maker edge)

-- the same for each of the given files
abbrev pub CanTellAll : GraphModel → (opened : List ℕ) → List ReadStatement → (files : List ℕ) → Manifest → Type 0
CanTellAll g opened entries files m = (file : ℕ) → Contains files file → CanTell g opened entries file m

-- the given files that feed the manifest
abbrev pub AreFeeding : GraphModel → (opened : List ℕ) → List ReadStatement → (files feeding : List ℕ) → Type 0
AreFeeding g opened entries files feeding =
    (file : ℕ) → Contains feeding file ↔ (Contains files file × FeedsManifest g opened entries file)

-- the edges that have, through any chain, one of the changed files as an input, and maybe more
abbrev pub HaveAffected : GraphModel → ChangeModel → (edges : List ℕ) → Type 0
HaveAffected g q edges = (edge : ℕ) → IsAffected (edges_of g) (changed_paths g q) edge → Contains edges edge

-- a table of the full paths of the given files
abbrev pub AreFullPaths : GraphModel → (working : List ℕ) → (files : List ℕ) → (names : List (List ℕ)) → Type 0
AreFullPaths g working files names = SameNames names (map (full_path_of g working) files)

-- tables of the full paths of the changed files, and of those that feed the manifest
pub record AreTables (g : GraphModel) (entries : List ReadStatement) (q : ChangeModel) (tables : Tables) : Type 0 where
  pub changed : AreFullPaths g q.working (changed_numbers g q) tables.changed
  pub fed : List ℕ
  pub are_fed : AreFeeding g (opened_files g q.working) entries (changed_numbers g q) fed
  pub feeding : AreFullPaths g q.working fed tables.feeding

-- the warning about a changed path, by tables of full paths
abbrev pub warning_by : (opened : List (List ℕ)) → Tables → ChangeModel → (path : List ℕ) → List ℕ
warning_by opened tables q path =
    if has_one opened (sought q.working q.folders path)
    || has_one tables.feeding (sought q.working q.folders path)
    then (if q.is_settled then [] else made_from_line path)
    else (if has_one tables.changed (sought q.working q.folders path) || is_test_file q path
    || q.ignores_unknown then [] else line path)

-- exactly the edges with a property, by number
pub record AreTouched (known : DiscoveredGraph) (IsTouched : (edge : ℕ) → Type 0) (edges : List EdgeNo) : Type 0 where
  pub touched : (edge : ℕ) → Contains (map (λ e. e.0) edges) edge ↔ IsTouched edge
  pub rises : IsStrictlyIncreasing (map (λ e. e.0) edges)
  pub below : All (λ e. e.0 < length (edges_of known.graph)) edges

-- exactly the edges with new commands, and those that the files at the given paths touch
abbrev pub AreAllTouched : DiscoveredGraph → (paths : List (List ℕ)) → (commands : List EdgeNo) → List EdgeNo
    → Type 0
AreAllTouched known paths commands edges =
    AreTouched known (λ edge. Contains (edge_numbers commands) edge ⊎ IsTouched known paths edge) edges

-- what a change reaches, but for its caveats
pub record IsReach (known : DiscoveredGraph) (q : ChangeModel) (reach : Reach) : Type 0 where
  pub sought : SameNames reach.sought (sought_by q)
  pub files : AreAt known.graph q.working (sought_by q) reach.files.items
  pub touched : AreTouched known (IsTouchedBy known q) reach.touched.items
