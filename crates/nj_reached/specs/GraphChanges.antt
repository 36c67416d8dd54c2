-- A change of files in the graph of a build, by full paths.
use Rattle.std.specs.Prelude.{◌≡◌, ◌↔◌, ℕ, Bool, ◌&&◌, not, if◌then◌else◌, List, [], ◌++◌, Contains, map, codes}
use Rattle.std.specs.List.{filter, flat_map, list_any}
use Rattle.nj_text.specs.Calls.{is_empty}
use Rattle.nj_changes.specs.FullPaths.{full_path}
use Rattle.nj_changes.specs.Tables.{SameNames}
use Rattle.nj_chosen.specs.Reasons.{BuildChange, without}
use Rattle.nj_graph.specs.Changes.{IsAffected}
use Rattle.nj_graph.specs.Edges.{EdgePaths, edge_at, outputs_of, users_of}
use Rattle.nj_graph.specs.Graph.{GraphModel, edges_of, late_text_of}
use Rattle.nj_graph.specs.ReadingList.{ReadStatement}

-- the full paths of some paths
abbrev pub full_paths : (folder : List ℕ) → (paths : List (List ℕ)) → List (List ℕ)
full_paths folder paths = map (full_path folder) paths

-- ---- outputs

-- the outputs that the command of an edge makes; a phony edge has no command
abbrev pub outputs_made : EdgePaths → List (List ℕ)
outputs_made e = if e.is_phony then [] else outputs_of e

-- the outputs of the edges with the given numbers
abbrev pub outputs_at : List EdgePaths → (numbers : List ℕ) → List (List ℕ)
outputs_at edges numbers = flat_map (λ edge. outputs_of (edge_at edges edge)) numbers

-- ---- what counts in a directory, unless it is a program of a test

-- an edge has a value of `deps`: a compiler discovers its inputs
abbrev pub has_deps : List ReadStatement → (edge : ℕ) → Bool
has_deps entries edge = not (is_empty (late_text_of entries edge (codes "deps")))

-- an output of an edge is an object: a compiler makes it, and an edge has it as an input
abbrev pub is_object : List ReadStatement → List EdgePaths → (edge : ℕ) → (output : List ℕ) → Bool
is_object entries edges edge output = has_deps entries edge && not (is_empty (users_of edges output))

-- the outputs of an edge that count in a directory: outputs that its command makes and that are not objects
abbrev pub noticed_outputs : List ReadStatement → List EdgePaths → (edge : ℕ) → List (List ℕ)
noticed_outputs entries edges edge =
    filter (λ output. not (is_object entries edges edge output)) (outputs_made (edge_at edges edge))

-- a file is compiled: an edge with a value of `deps` has it as an input
abbrev pub is_compiled : List ReadStatement → List EdgePaths → (file : List ℕ) → Bool
is_compiled entries edges file = list_any (has_deps entries) (users_of edges file)

-- ---- a change

-- A change of files, as a graph has it. `folder`: the build directory; `roots`: it and the source directories; `changed`: the full
-- paths of the changed files; `files`: the paths of the changed files that edges name; `touched`: the edges that the change touches.
pub record GraphChange : Type 0 where
  pub folder : List ℕ
  pub roots : List (List ℕ)
  pub changed : List (List ℕ)
  pub files : List (List ℕ)
  pub touched : List ℕ

-- the affected outputs that count in a directory
abbrev pub noticed_affected : List ReadStatement → List EdgePaths → GraphChange → List (List ℕ)
noticed_affected entries edges q = full_paths q.folder (flat_map (noticed_outputs entries edges) q.touched)

-- the changed files that count in a directory: files that are not compiled
abbrev pub noticed_changed : List ReadStatement → List EdgePaths → GraphChange → List (List ℕ)
noticed_changed entries edges q = without (full_paths q.folder (filter (is_compiled entries edges) q.files)) q.changed

-- The same change by full paths. The affected outputs are the outputs of the edges that the change touches; an edge needs an affected
-- output or a changed file by inputs of any kind.
pub record IsChangeOf (g : GraphModel) (entries : List ReadStatement) (q : GraphChange) (c : BuildChange) : Type 0 where
  pub build : c.build ≡ q.folder
  pub roots : c.roots ≡ q.roots
  pub outputs : SameNames c.outputs (full_paths q.folder (flat_map outputs_of (edges_of g)))
  pub made : SameNames c.made (full_paths q.folder (flat_map outputs_made (edges_of g)))
  pub affected : SameNames c.affected (full_paths q.folder (outputs_at (edges_of g) q.touched))
  pub needers : List ℕ
  pub need : (edge : ℕ) → Contains needers edge ↔ IsAffected (edges_of g) (q.files ++ outputs_at (edges_of g) q.touched) edge
  pub needing : SameNames c.needing (full_paths q.folder (outputs_at (edges_of g) needers))
  pub changed : c.changed ≡ q.changed
  pub noticed : SameNames c.noticed (noticed_affected entries (edges_of g) q ++ noticed_changed entries (edges_of g) q)
