-- The files that shape the graph, where they may change: dyndep files ("Dynamic Dependencies" in the manual) and manifests.
use Rattle.std.specs.Prelude.{ℕ, Bool, false, ◌&&◌, ◌||◌, if◌then◌else◌, Option, Some, None, option_and_then, List, [], ◌++◌, codes, bytes_eq, length, position}
use Rattle.std.specs.List.{filter_map, flat_map, range_with_len}
use Rattle.nj_graph.specs.EdgeList.{assigned_at, assigned_read, pending_read}
use Rattle.nj_graph.specs.Edges.{maker_of}
use Rattle.nj_graph.specs.Graph.{GraphModel, edges_of, files_of}
use Rattle.nj_graph.specs.ReadingList.{ReadStatement}
use Rattle.nj_ask.specs.Affected.{line}
use Rattle.nj_ask.specs.declared.discovered.DiscoveredGraph.{DiscoveredGraph}
use Rattle.nj_ask.specs.Manifest.{is_one_of}
use Rattle.nj_ask.specs.SameFiles.{path_of}

-- the number of the dyndep file of an edge
abbrev pub dyndep_of : GraphModel → List ReadStatement → (edge : ℕ) → Option ℕ
dyndep_of g entries edge =
    option_and_then (λ path. position (bytes_eq path) (files_of g)) (assigned_at (assigned_read entries) edge).dyndep

-- the dyndep files of all edges
abbrev pub dyndep_files : GraphModel → List ReadStatement → List ℕ
dyndep_files g entries = filter_map (dyndep_of g entries) (range_with_len 0 (length (edges_of g)))

-- the dyndep files that were not joined: edges are still pending on them
abbrev pub unjoined_files : GraphModel → List ReadStatement → List ℕ
unjoined_files g entries = filter_map (λ p. dyndep_of g entries p.edge) (pending_read entries)

-- one of the given edges is the maker
abbrev pub is_made_by : (edges : List ℕ) → (maker : Option ℕ) → Bool
is_made_by edges None = false
is_made_by edges (Some maker) = is_one_of edges maker

-- A file may get other contents: it changed, or one of the given edges makes it.
abbrev pub may_change : GraphModel → (changed : List ℕ) → (edges : List ℕ) → (file : ℕ) → Bool
may_change g changed edges file = is_one_of changed file || is_made_by edges (maker_of (edges_of g) (path_of g file))

-- the line of a file that is among the given ones and may change, with what it is
abbrev pub line_if_changes : GraphModel → (what : List ℕ) → (files : List ℕ) → (changed : List ℕ) → (edges : List ℕ) → (file : ℕ) → List ℕ
line_if_changes g what files changed edges file =
    if is_one_of files file && may_change g changed edges file then line (path_of g file ++ what) else []

-- the lines of all files, by number
abbrev pub lines_of_changing : GraphModel → (what : List ℕ) → (files : List ℕ) → (changed : List ℕ) → (edges : List ℕ) → List ℕ
lines_of_changing g what files changed edges =
    flat_map (line_if_changes g what files changed edges) (range_with_len 0 (length (files_of g)))

-- A line for each dyndep file that may change. A file that was not joined is treated as changed, since its contents are not known.
abbrev pub dyndep_text : GraphModel → List ReadStatement → (changed : List ℕ) → (edges : List ℕ) → List ℕ
dyndep_text g entries changed edges =
    lines_of_changing g (codes ": a dyndep file, may change") (dyndep_files g entries) (unjoined_files g entries ++ changed) edges

-- with discovered inputs, a line for each opened file that one of the given edges makes
abbrev pub remade_text : GraphModel → (opened : List ℕ) → (has_discovered : Bool) → (edges : List ℕ) → List ℕ
remade_text g opened has_discovered edges =
    if has_discovered then lines_of_changing g (codes ": a manifest, may change") opened [] edges else []

-- Why the graph may have another shape, by the opened files, the changed files, and the edges that their change touches.
abbrev pub shape_text : DiscoveredGraph → List ReadStatement → (opened changed : List ℕ) → (edges : List ℕ) → List ℕ
shape_text known entries opened changed edges =
    dyndep_text known.graph entries changed edges ++ remade_text known.graph opened known.has_discovered edges

-- Why an answer about a graph may lack discovered inputs: what is not known of them, and a line for each dyndep file that was not joined.
-- It is empty where discovered inputs were not requested.
abbrev pub caveat_text : DiscoveredGraph → List ReadStatement → List ℕ
caveat_text known entries =
    known.caveats.items ++ (if known.has_discovered then dyndep_text known.graph entries [] [] else [])
