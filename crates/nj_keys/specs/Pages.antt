-- The commands that files need and that are left after a mark.
use Rattle.std.specs.Prelude.{◌≡◌, ℕ, Bool, true, Option, Some, None, IfSome, List, [], ◌∷◌, ◌++◌, map}
use Rattle.std.specs.List.{concat}
use Rattle.nj_needs.specs.Graphs.{count_of, is_phony, makers_of, row_of_paths}
use Rattle.nj_needs.specs.Marks.{is_valid, rest}
use Rattle.nj_needs.specs.PageWalks.{written, StopsAt}
use Rattle.nj_needs.specs.Walks.{BeginsAt, WalkState}
use Rattle.nj_graph.specs.ReadingList.{ReadStatement}
use Rattle.nj_graph.specs.declared.FileNo.{FileNo}
use Rattle.nj_graph.specs.Edges.{EdgePaths}
use Rattle.nj_graph.specs.Files.{path_at}
use Rattle.nj_graph.specs.Graph.{edges_of, files_of, IsGraphOf}
use Rattle.nj_graph.specs.Handles.{commands_needed, edges_in, GraphFiles}
use Rattle.nj_keys.specs.Keys.{ListsKeys}

-- the edges that make the files, one for each file; `None` for a source
abbrev pub makers_of_files : GraphFiles → List (Option ℕ)
makers_of_files files = row_of_paths (edges_of files.graph) files.paths

-- each step of a mark leads to an edge
abbrev pub leads : GraphFiles → (mark : List ℕ) → Bool
leads files mark = is_valid (makers_of files.graph.built.graph) (makers_of_files files) mark

-- the edges whose commands the files need and that are left after a mark
abbrev pub left_at : GraphFiles → (mark : List ℕ) → List ℕ
left_at files mark =
    let g = files.graph.built.graph in
    rest (makers_of g) (count_of g) (is_phony g) (makers_of_files files) mark

-- a walk to the files that begins after a mark
pub record BeginsAfter (files : GraphFiles) (mark : List ℕ) (walk : WalkState) : Type 0 where
  pub numbers : List FileNo
  pub are_files : map (path_at (files_of files.graph)) numbers ≡ files.paths
  pub begins : BeginsAt files.graph.built.graph numbers mark walk

-- ---- laws

-- what is left at the mark at which a page stopped; nothing is left if it stopped without a mark
abbrev pub left_from : GraphFiles → (mark : Option (List ℕ)) → List ℕ
left_from files None = []
left_from files (Some mark) = left_at files mark

-- a page from a mark on, and the mark at which it stopped, if any
pub record StopsFrom (files : GraphFiles) (mark : List ℕ) (limit : Option ℕ) (next : Option (List ℕ)) : Type 0 where
  pub valid : leads files mark ≡ true
  pub walk : WalkState
  pub begins : BeginsAfter files mark walk
  pub stops : StopsAt walk limit next

-- the edges of a page, and then the edges left where it stopped, are all edges that were left before it; and a page can begin
-- there
abbrev pub PagesLeaveTheRest : Type 0
PagesLeaveTheRest = (files : GraphFiles) (entries : List ReadStatement) → IsGraphOf files.graph entries
    → (mark : List ℕ) (limit : Option ℕ) (next : Option (List ℕ)) → StopsFrom files mark limit next
    → IfSome next (λ m. leads files m ≡ true) × (left_at files mark ≡ written limit (left_at files mark) ++ left_from files next)

-- The texts of pages with any limits: each page begins at the mark where the page before stopped, and the last page stops
-- without a mark. The keys are those of the given edges.
pub data ArePages (additions folders : List (List ℕ)) (edges : List EdgePaths) (files : GraphFiles) (entries : List ReadStatement) :
    (mark : Option (List ℕ)) → (texts : List (List ℕ)) → Type 0 where
  none : ArePages additions folders edges files entries None []
  page : {mark text : List ℕ} {next : Option (List ℕ)} {texts : List (List ℕ)} (limit : Option ℕ) → StopsFrom files mark limit next
      → ListsKeys additions folders edges entries (written limit (left_at files mark)) text
      → ArePages additions folders edges files entries next texts → ArePages additions folders edges files entries (Some mark) (text ∷ texts)

-- so the texts of pages, one after another, are the text of all edges that were left at the first mark
abbrev pub PagesAreAll : Type 0
PagesAreAll = (additions folders : List (List ℕ)) (edges : List EdgePaths) (files : GraphFiles) (entries : List ReadStatement)
    → IsGraphOf files.graph entries
    → (mark : List ℕ) (texts : List (List ℕ)) → ArePages additions folders edges files entries (Some mark) texts
    → ListsKeys additions folders edges entries (left_at files mark) (concat texts)

-- and at the empty mark, before the first page, every command that the files need is left
abbrev pub StartLeavesAll : Type 0
StartLeavesAll = (files : GraphFiles) → edges_in files.graph (left_at files []) ≡ commands_needed files
