-- The depth-first walk over the edges, inside the check: its state between two turns. Readers of the public contracts
-- do not need this file.
use Rattle.std.specs.Prelude.{◌≡◌, ◌≢◌, ◌⊎◌, ℕ, ◌+◌, ◌*◌, ◌<◌, ◌≤◌, Bool, false, List, [], ◌∷◌, ◌++◌, Option, None, Some, length, take, slice_get, slice_index, slice_index_or, sum_by, Contains}
use Rattle.nj_cycles.specs.declared.finishing_order.Stage.{Stage}
use Rattle.nj_cycles.specs.declared.finishing_order.Stage.TheVariants.{Unseen, Open, Done}
use Rattle.nj_cycles.specs.declared.finishing_order.Walk.{Walk}
use Rattle.nj_cycles.specs.Cycles.{AreEdges, Needs, NeedsByChain}

-- f is e, or e needs f by a chain
abbrev pub Reaches : (makers : ℕ → List (Option ℕ)) → ℕ → ℕ → Type 0
Reaches makers e f = (e ≡ f) ⊎ NeedsByChain makers e f

abbrev pub stage_of : List Stage → ℕ → Stage
stage_of stages e = slice_index_or stages e Unseen

abbrev pub IsSeen : List Stage → ℕ → Type 0
IsSeen stages e = stage_of stages e ≢ Unseen

abbrev pub IsDone : List Stage → ℕ → Type 0
IsDone stages e = stage_of stages e ≡ Done

-- the stage of an input's maker; there is nothing to do for a source
abbrev pub stage_of_maker : List Stage → Option ℕ → Stage
stage_of_maker stages None = Done
stage_of_maker stages (Some e) = stage_of stages e

-- the makers of the inputs of edge e before an index have P
abbrev pub MakersBefore : (makers : ℕ → List (Option ℕ)) → (e end : ℕ) → (P : ℕ → Type 0) → Type 0
MakersBefore makers e end P = (i f : ℕ) → i < end → slice_get (makers e) i ≡ Some (Some f) → P f

-- how many turns an edge still takes
abbrev pub turns_of : Stage → ℕ
turns_of Unseen = 2
turns_of Open = 1
turns_of Done = 0

-- The order in which edges are finished. At each place b, each edge that the edges up to there need is finished before
-- b, or reaches the edge at b, since it is open then.
abbrev pub IsSettled : (makers : ℕ → List (Option ℕ)) → List ℕ → Type 0
IsSettled makers order = (a b f : ℕ) → a ≤ b → b < length order → Needs makers (slice_index order a) f
    → Contains (take b order) f ⊎ Reaches makers f (slice_index order b)

-- each edge of the order comes after all that it needs
abbrev pub IsFalling : (makers : ℕ → List (Option ℕ)) → List ℕ → Type 0
IsFalling makers order = (a f : ℕ) → a < length order → Needs makers (slice_index order a) f → Contains (take a order) f

abbrev pub HasNoRepeat : List ℕ → Type 0
HasNoRepeat order = (i j : ℕ) → i < j → j < length order → slice_index order i ≢ slice_index order j

-- between two turns: for each edge its stage and the index of its next input, the path of open edges, the first
-- opened one first, and the edges that are finished, in that order
pub record Sound (makers : ℕ → List (Option ℕ)) (count : ℕ) (stages : List Stage) (next path order : List ℕ)
    (meets_open : Bool) : Type 0 where
  pub stages_len : length stages ≡ count
  pub next_len : length next ≡ count
  -- the open edges are the path, and each needs those after it
  pub path_in : (i : ℕ) → i < length path → slice_index path i < count
  pub path_open : (i : ℕ) → i < length path → stage_of stages (slice_index path i) ≡ Open
  pub open_in_path : (e : ℕ) → stage_of stages e ≡ Open → Contains path e
  pub path_linked : (i j : ℕ) → i < j → j < length path → NeedsByChain makers (slice_index path i) (slice_index path j)
  pub path_once : HasNoRepeat path
  -- the edges that are done are the order
  pub order_in : (i : ℕ) → i < length order → slice_index order i < count
  pub order_done : (i : ℕ) → i < length order → IsDone stages (slice_index order i)
  pub done_in_order : (e : ℕ) → IsDone stages e → Contains order e
  pub done_passed : (e : ℕ) → IsDone stages e → length (makers e) ≤ slice_index next e
  pub order_once : HasNoRepeat order
  -- the makers that an edge has passed are seen, and done if no open edge was met
  pub passed_seen : (e : ℕ) → e < count → MakersBefore makers e (slice_index next e) (IsSeen stages)
  pub passed_done : meets_open ≡ false → (e : ℕ) → e < count → MakersBefore makers e (slice_index next e) (IsDone stages)
  pub settled : IsSettled makers order
  pub falling : meets_open ≡ false → IsFalling makers order
  pub turns : sum_by turns_of stages + 2 * length order + length path ≡ 2 * count

abbrev pub WalkIsSound : (makers : ℕ → List (Option ℕ)) → (count : ℕ) → Walk → Type 0
WalkIsSound makers count w = Sound makers count w.stages.items w.next.items w.path.items w.order.items w.meets_open

-- the same, where the last edge of the path was taken from it
abbrev pub IsSoundAt : (makers : ℕ → List (Option ℕ)) → (count : ℕ) → Walk → (edge : ℕ) → Type 0
IsSoundAt makers count w edge =
    Sound makers count w.stages.items w.next.items (w.path.items ++ edge ∷ []) w.order.items w.meets_open

-- where an edge has passed inputs: after the last one, or up to the first whose maker is unseen
abbrev pub EndsAt : (makers : ℕ → List (Option ℕ)) → (edge : ℕ) → Walk → Option ℕ → Type 0
EndsAt makers edge w None = length (makers edge) ≤ slice_index w.next.items edge
EndsAt makers edge w (Some maker) =
    (slice_get (makers edge) (slice_index w.next.items edge) ≡ Some (Some maker)) × (stage_of w.stages.items maker ≡ Unseen)

-- the walk after a turn
pub record TakesTurn (makers : ℕ → List (Option ℕ)) (count : ℕ) (old new : Walk) : Type 0 where
  pub sound : WalkIsSound makers count new
  pub fewer : sum_by turns_of new.stages.items < sum_by turns_of old.stages.items
  pub kept : (e : ℕ) → IsSeen old.stages.items e → IsSeen new.stages.items e

-- the end of the whole walk: every edge once, in a settled order
pub record Walked (makers : ℕ → List (Option ℕ)) (count : ℕ) (order : List ℕ) : Type 0 where
  pub known : AreEdges makers count
  pub all : (e : ℕ) → e < count → Contains order e
  pub within : (i : ℕ) → i < length order → slice_index order i < count
  pub once : HasNoRepeat order
  pub settled : IsSettled makers order
  pub len : length order ≤ count
