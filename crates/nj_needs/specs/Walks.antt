-- A walk over the commands that targets need, as its caller sees it.
use Rattle.std.specs.Prelude.{◌≡◌, ◌<◌, ◌≤◌, ℕ, ◌+◌, Option, Some, None, IfSome, List, [], ◌∷◌, length, option_map}
use Rattle.nj_names.specs.declared.files.FileNo.{FileNo}
use Rattle.nj_edges.specs.declared.edges.EdgeNo.{EdgeNo}
use Rattle.nj_edges.specs.EdgeGraphs.{EdgeGraph}
use Rattle.nj_needs.specs.Graphs.{row_of, makers_of, count_of, is_phony}
use Rattle.nj_needs.specs.Order.{needed_commands}
use Rattle.nj_needs.specs.Marks.{rest, IsFirstPlace}
use Rattle.nj_needs.specs.Turns.{turn_bound}

-- the commands that the targets need, and the rest of them at a mark
abbrev pub commands_of : EdgeGraph → (targets : List FileNo) → List ℕ
commands_of g targets = needed_commands (makers_of g) (count_of g) (is_phony g) (row_of g targets)

-- the edges that a walk to the given targets has still to return after a mark
abbrev pub rest_of : EdgeGraph → (targets : List FileNo) → (mark : List ℕ) → List ℕ
rest_of g targets mark = rest (makers_of g) (count_of g) (is_phony g) (row_of g targets) mark

-- the turns of a whole walk from the start
abbrev pub bound_of : EdgeGraph → (targets : List FileNo) → ℕ
bound_of g targets = turn_bound (makers_of g) (count_of g) (row_of g targets)

-- the mark is the address of the first place of edge e
abbrev pub IsFirstPlaceOf : EdgeGraph → (targets : List FileNo) → (mark : List ℕ) → (e : ℕ) → Type 0
IsFirstPlaceOf g targets mark e = IsFirstPlace (makers_of g) (count_of g) (row_of g targets) mark e

-- a walk over the edges that targets need
pub record WalkState : Type 0 where
  pub graph : EdgeGraph
  pub targets : List FileNo
  -- how many numbers the mark has with which the walk began
  pub begun : ℕ
  -- that mark, or the address of the edge that was returned last
  pub mark : List ℕ
  -- the edges that are left
  pub left : List ℕ
  -- the turns that were taken, including those of resuming
  pub turns : ℕ

-- the edges left are always those after the mark, and the turns stay within their bound
pub record IsSound (w : WalkState) : Type 0 where
  pub left : w.left ≡ rest_of w.graph w.targets w.mark
  pub turns : w.turns ≤ bound_of w.graph w.targets + w.begun

-- the walk before any edge was returned
pub record BeginsAt (g : EdgeGraph) (files : List FileNo) (numbers : List ℕ) (w : WalkState) : Type 0 where
  pub graph : w.graph ≡ g
  pub targets : w.targets ≡ files
  pub mark : w.mark ≡ numbers
  pub begun : w.begun ≡ length numbers
  pub sound : IsSound w

-- the graph, the targets and the beginning stay the same, and the turns never fall
pub record IsSameWalk (old new : WalkState) : Type 0 where
  pub graph : new.graph ≡ old.graph
  pub targets : new.targets ≡ old.targets
  pub begun : new.begun ≡ old.begun
  pub turns : old.turns ≤ new.turns
  pub sound : IsSound new

-- the first edge left was returned, and its address is the mark
pub record HasReturned (old new : WalkState) (e : ℕ) : Type 0 where
  pub first : old.left ≡ e ∷ new.left
  pub mark : IsFirstPlaceOf new.graph new.targets new.mark e

-- no edge is left, and all turns were taken
pub record HasNone (old new : WalkState) : Type 0 where
  pub none : old.left ≡ []
  pub none_after : new.left ≡ []
  pub mark : new.mark ≡ old.mark
  pub turns : new.turns ≡ bound_of new.graph new.targets + new.begun

-- the result of `next`
abbrev pub NextIs : (old : WalkState) → Option ℕ → (new : WalkState) → Type 0
NextIs old None new = HasNone old new
NextIs old (Some e) new = HasReturned old new e

-- the numbers of edges
abbrev pub number_of : Option EdgeNo → Option ℕ
number_of edge = option_map (λ e. e.0) edge

-- a call of `next`: it returns an edge of the graph, or reports that no edge is left
pub record ReturnsNext (old : WalkState) (edge : Option EdgeNo) (new : WalkState) : Type 0 where
  pub next : NextIs old (number_of edge) new
  pub same : IsSameWalk old new
  pub known : IfSome edge (λ e. e.0 < length old.graph.edges)
