-- Lists of edges: those that a change affects, those that files need, and pages of the commands that targets need.
use Rattle.std.specs.Prelude.{◌≡◌, ◌<◌, ◌⊎◌, ◌↔◌, ℕ, true, false, List, [], ◌∷◌, map, length, nat_eq, All, Contains, Option, Some, None, MatchOption, ⊤}
use Rattle.std.specs.Str.{is_utf8}
use Rattle.std.specs.List.{IsDistinct}
use Rattle.std.specs.List.Sorted.{IsStrictlyIncreasing}
use Rattle.nj_names.specs.declared.files.FileNo.{FileNo}
use Rattle.nj_edges.specs.Changes.{IsAffected}
use Rattle.nj_edges.specs.Edges.{EdgePaths}
use Rattle.nj_edges.specs.Distances.{AreNearestFirst, IsNeeded}
use Rattle.nj_edges.specs.EdgeGraphs.{EdgeGraph}
use Rattle.nj_names.specs.Files.{path_at}
use Rattle.nj_needs.specs.MarkTexts.{given_mark, mark_text}
use Rattle.nj_needs.specs.Graphs.{makers_of, row_of}
use Rattle.nj_needs.specs.Marks.{is_valid}
use Rattle.nj_needs.specs.Walks.{WalkState, BeginsAt}
use Rattle.nj_graph.specs.Graph.{GraphModel, edges_of, files_of}
use Rattle.nj_needs.specs.PageWalks.{StopsAt, written}
use Rattle.nj_c.specs.declared.session_state.Kept.{Kept}
use Rattle.nj_c.specs.declared.status.Status.{Status}
use Rattle.nj_c.specs.declared.status.Status.TheVariants.{Done, NotLoaded, BadNumber, BadMark, OutOfMemory}

-- the numbers of edges and of files
abbrev pub edge_numbers : Kept → List ℕ
edge_numbers kept = map (λ e. e.0) kept.found.items

-- each number is below the count
abbrev pub AreBelow : (count : ℕ) → List ℕ → Type 0
AreBelow count numbers = All (λ n. n < count) numbers

-- each number is that of a file
abbrev pub AreKnown : GraphModel → List ℕ → Type 0
AreKnown g numbers = AreBelow (length (files_of g)) numbers

-- numbers as files
abbrev pub numbered : List ℕ → List FileNo
numbered numbers = map (λ n. record { 0 = n }) numbers

-- the paths of files
abbrev pub paths_of_files : GraphModel → List ℕ → List (List ℕ)
paths_of_files g numbers = map (path_at (files_of g)) (numbered numbers)

-- why files are refused: no graph is loaded, or one of the numbers is not that of a file, or an allocation failed
abbrev pub AreRefused : Option GraphModel → (files : List ℕ) → Status → Type 0
AreRefused graph files NotLoaded = graph ≡ None
AreRefused graph files BadNumber = MatchOption graph ⊥ (λ g. AreKnown g files → ⊥)
AreRefused graph files OutOfMemory = ⊤
AreRefused graph files other = ⊥

-- Edges of the graph with the given property are listed for files, with the mark after them; or a status says why not, and nothing changes.
abbrev pub ListsEdges : (before after : Kept) → (files : List ℕ) → (are : GraphModel → (edges mark : List ℕ) → Type 0)
    → (refused : Status → Type 0) → Status → Type 0
ListsEdges before after files are refused status =
    ((g : GraphModel) × (before.graph ≡ Some g) × (status ≡ Done) × AreKnown g files × are g (edge_numbers after) after.mark.items
    × (after ≡ record before { found = after.found; mark = after.mark }))
    ⊎ (refused status × (after ≡ before))

-- ---- affected edges

-- exactly the affected edges, by number, and no mark
abbrev pub AreReached : (files : List ℕ) → GraphModel → (edges mark : List ℕ) → Type 0
AreReached files g edges mark = IsStrictlyIncreasing edges
    × ((edge : ℕ) → Contains edges edge ↔ IsAffected (edges_of g) (paths_of_files g files) edge) × (mark ≡ [])

-- the edges that a change of the given files affects are listed, or a status says why not
abbrev pub ListsReached : (before after : Kept) → (files : List ℕ) → Status → Type 0
ListsReached before after files = ListsEdges before after files (AreReached files) (AreRefused before.graph files)

-- ---- needed edges

-- the edges that files need through any chain of inputs, without duplicates, nearest first
pub record IsNeededList (edges : List EdgePaths) (files : List (List ℕ)) (numbers : List ℕ) : Type 0 where
  pub are : (edge : ℕ) → Contains numbers edge ↔ IsNeeded edges files edge
  pub each_once : IsDistinct nat_eq numbers
  pub nearest_first : AreNearestFirst edges files numbers

-- the edges that the given files need, and no mark
abbrev pub AreNeeded : (files : List ℕ) → GraphModel → (edges mark : List ℕ) → Type 0
AreNeeded files g edges mark = IsNeededList (edges_of g) (paths_of_files g files) edges × (mark ≡ [])

-- they are listed, or a status says why not
abbrev pub ListsNeeded : (before after : Kept) → (files : List ℕ) → Status → Type 0
ListsNeeded before after files = ListsEdges before after files (AreNeeded files) (AreRefused before.graph files)

-- ---- pages

-- the mark that a text denotes: the empty text denotes the start
abbrev pub mark_of : (text : List ℕ) → Option (List ℕ)
mark_of [] = Some []
mark_of (b ∷ bs) = given_mark (b ∷ bs)

-- the text of the mark at which a page ends; empty if no edge is left after it
abbrev pub end_text : Option (List ℕ) → List ℕ
end_text None = []
end_text (Some mark) = mark_text mark

-- at most `limit` of the edges that are left to a walk, and the text of the mark at which they end
abbrev pub IsPageOf : WalkState → (limit : ℕ) → (edges : List ℕ) → (end : List ℕ) → Type 0
IsPageOf walk limit edges end =
    (edges ≡ written (Some limit) walk.left) × ((after : Option (List ℕ)) × (end ≡ end_text after) × StopsAt walk (Some limit) after)

-- the same of the edges that the targets need and that are left after a mark
abbrev pub IsPage : EdgeGraph → (targets : List FileNo) → (mark : List ℕ) → (limit : ℕ) → (edges : List ℕ) → (end : List ℕ) → Type 0
IsPage g targets mark limit edges end =
    (is_valid (makers_of g) (row_of g targets) mark ≡ true)
    × ((walk : WalkState) × BeginsAt g targets mark walk × IsPageOf walk limit edges end)

-- the text is not a mark
abbrev pub IsNoMark : (text : List ℕ) → Type 0
IsNoMark text = (is_utf8 text ≡ false) ⊎ (mark_of text ≡ None)

-- the text is not a mark, or is a mark that does not lead to an edge
abbrev pub IsBadMark : EdgeGraph → (targets : List FileNo) → (text : List ℕ) → Type 0
IsBadMark g targets text = IsNoMark text
    ⊎ ((mark : List ℕ) × (mark_of text ≡ Some mark) × (is_valid (makers_of g) (row_of g targets) mark ≡ false))

-- a page after the mark of a text
abbrev pub IsPageAfter : (targets text : List ℕ) → (limit : ℕ) → GraphModel → (edges end : List ℕ) → Type 0
IsPageAfter targets text limit g edges end =
    (mark : List ℕ) × (mark_of text ≡ Some mark) × IsPage g.built.graph (numbered targets) mark limit edges end

-- why no page is listed: the targets are refused, or the mark is
abbrev pub PageRefused : Option GraphModel → (targets text : List ℕ) → Status → Type 0
PageRefused graph targets text status = AreRefused graph targets status
    ⊎ ((g : GraphModel) × (graph ≡ Some g) × AreKnown g targets × (status ≡ BadMark) × IsBadMark g.built.graph (numbered targets) text)

-- a page of the edges that the targets need is listed, or a status says why not
abbrev pub ListsPage : (before after : Kept) → (targets text : List ℕ) → (limit : ℕ) → Status → Type 0
ListsPage before after targets text limit =
    ListsEdges before after targets (IsPageAfter targets text limit) (PageRefused before.graph targets text)
