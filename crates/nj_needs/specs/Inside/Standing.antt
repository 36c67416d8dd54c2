-- The state inside a walk, and one turn.
use Rattle.std.specs.Prelude.{◌≡◌, ◌<◌, ◌≤◌, ◌⊎◌, ℕ, ◌+◌, Bool, true, if◌then◌else◌, Option, Some, None, List, [], ◌∷◌, ◌++◌, length}
use Rattle.std.specs.Prelude.{nat_eq, slice_get}
use Rattle.std.specs.List.{list_any}
use Rattle.nj_cycles.specs.Cycles.{IsAcyclic}
use Rattle.nj_names.specs.declared.files.FileNo.{FileNo}
use Rattle.nj_edges.specs.EdgeGraphs.{EdgeGraph}
use Rattle.nj_needs.specs.Counts.{saturated}
use Rattle.nj_needs.specs.Graphs.{row_of, makers_of, count_of, is_phony}
use Rattle.nj_needs.specs.Needs.{AreWithin}
use Rattle.nj_needs.specs.Inside.Paths.{top_row, done_at, places, left_at, turns_left, IsStanding}
use Rattle.nj_needs.specs.Inside.Reserved.{Reserved}
use Rattle.nj_needs.specs.Walks.{rest_of, bound_of, IsFirstPlaceOf}
use Rattle.nj_needs.specs.declared.frame.Frame.{Frame}
use Rattle.nj_needs.specs.declared.walk.Walk.{Walk}
use Rattle.nj_needs.specs.declared.walk.Turn.{Turn}
use Rattle.nj_needs.specs.declared.walk.Turn.TheVariants.{Looked, Closed, Ended}

-- where a walk is: the path of open edges and the next place
abbrev pub left_of : EdgeGraph → List FileNo → List Frame → ℕ → List ℕ
left_of g targets path place = left_at (makers_of g) (count_of g) (is_phony g) (row_of g targets) path place

abbrev pub turns_left_of : EdgeGraph → List FileNo → List Frame → ℕ → ℕ
turns_left_of g targets path place = turns_left (makers_of g) (count_of g) (row_of g targets) path place

abbrev pub done_of : EdgeGraph → List FileNo → List Frame → ℕ → List ℕ
done_of g targets path place = done_at (makers_of g) (count_of g) (row_of g targets) path place

abbrev pub top_of : EdgeGraph → List FileNo → List Frame → List (Option ℕ)
top_of g targets path = top_row (makers_of g) (row_of g targets) path

pub record IsWalkAt (g : EdgeGraph) (targets : List FileNo) (turns : ℕ)
    (path : Reserved Frame) (place : ℕ) (flags : List Bool) (begun : ℕ) : Type 0 where
  pub acyclic : IsAcyclic (makers_of g) (count_of g)
  pub inside : AreWithin (row_of g targets) (count_of g)
  pub standing : IsStanding (makers_of g) (count_of g) (row_of g targets) path.items place flags
  -- there is capacity for every path
  pub capacity : count_of g ≤ path.capacity
  -- the turns that were taken and those that are left are all turns
  pub counted : (total : ℕ) × (turns ≡ saturated total) × (total + turns_left_of g targets path.items place ≡ bound_of g targets + begun)

abbrev pub IsWalk : Walk → Type 0
IsWalk w = IsWalkAt w.turns.graph.now w.turns.targets.now w.turns.taken w.path w.place w.flags.items w.begun

-- a look: a place whose edge is done, or which is a source, is passed; or an edge is opened
pub record HasLooked (g : EdgeGraph) (targets : List FileNo) (path : List Frame) (place : ℕ) (after : List Frame) (next : ℕ) : Type 0 where
  pub left : left_of g targets after next ≡ left_of g targets path place
  pub turn : turns_left_of g targets path place ≡ turns_left_of g targets after next + 1
  pub moved : ((after ≡ path) × (next ≡ place + 1)
      × ((m : ℕ) → slice_get (top_of g targets path) place ≡ Some (Some m) → list_any (nat_eq m) (done_of g targets path place) ≡ true))
      ⊎ ((f : Frame) × (after ≡ path ++ f ∷ []) × (f.at ≡ place) × (next ≡ 0))

-- an edge is closed
pub record HasClosed (g : EdgeGraph) (targets : List FileNo) (path : List Frame) (place : ℕ)
    (after : List Frame) (next : ℕ) (e : ℕ) (phony : Bool) : Type 0 where
  pub popped : (f : Frame) × (path ≡ after ++ f ∷ []) × (f.edge.0 ≡ e) × (next ≡ f.at + 1)
  pub left : left_of g targets path place ≡ (if phony then left_of g targets after next else e ∷ left_of g targets after next)
  pub turn : turns_left_of g targets path place ≡ turns_left_of g targets after next + 1
  pub rest : rest_of g targets (places path) ≡ left_of g targets after next
  pub first : IsFirstPlaceOf g targets (places path) e
  pub past : slice_get (top_of g targets path) place ≡ None
  pub short : length after < count_of g

-- nothing is left
pub record HasEnded (g : EdgeGraph) (targets : List FileNo) (path : List Frame) (place : ℕ) (after : List Frame) (next : ℕ) : Type 0 where
  pub path_stays : after ≡ path
  pub place_stays : next ≡ place
  pub closed : path ≡ []
  pub left : left_of g targets path place ≡ []
  pub turns : turns_left_of g targets path place ≡ 0
  pub past : slice_get (top_of g targets path) place ≡ None

abbrev pub TurnIs : Walk → Turn → Walk → Type 0
TurnIs old Looked new = HasLooked old.turns.graph.now old.turns.targets.now old.path.items old.place new.path.items new.place
TurnIs old (Closed e phony) new =
    HasClosed old.turns.graph.now old.turns.targets.now old.path.items old.place new.path.items new.place e.0 phony
TurnIs old Ended new = HasEnded old.turns.graph.now old.turns.targets.now old.path.items old.place new.path.items new.place
