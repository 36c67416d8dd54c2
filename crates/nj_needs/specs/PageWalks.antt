-- A page of a walk: a limited number of the edges that are left to it, and the mark after them.
use Rattle.std.specs.Prelude.{◌≡◌, ◌≢◌, ℕ, Option, Some, None, List, [], ◌∷◌, ◌++◌, take, drop}
use Rattle.std.specs.Option.{option_map_or}
use Rattle.nj_needs.specs.Graphs.{row_of, makers_of, count_of}
use Rattle.nj_needs.specs.MarkTexts.{ReadsBack}
use Rattle.nj_needs.specs.Pages.{IsMarkAfter}
use Rattle.nj_needs.specs.Walks.{WalkState}

-- of the edges that are left, those that are written, and those that are left after that, with at most `limit` edges
-- taken
abbrev pub written : (limit : Option ℕ) → (left : List ℕ) → List ℕ
written limit left = option_map_or (λ most. take most left) limit left

-- what is left after a page; a page without a limit leaves nothing
abbrev pub left_after : (limit : Option ℕ) → (left : List ℕ) → List ℕ
left_after limit left = option_map_or (λ most. drop most left) limit []

-- the mark after the given edges of a walk
abbrev pub IsMarkOf : WalkState → (edges : List ℕ) → (mark : List ℕ) → Type 0
IsMarkOf walk edges mark = IsMarkAfter (makers_of walk.graph) (count_of walk.graph) (row_of walk.graph walk.targets) walk.mark edges mark

-- The mark at which the writing stops: `None` if no edge is left; else the mark of the last edge written, or, if no edge
-- was, the mark at which the walk was before. Its text denotes that mark.
abbrev pub StopsAt : WalkState → (limit : Option ℕ) → (mark : Option (List ℕ)) → Type 0
StopsAt walk limit None = left_after limit walk.left ≡ []
StopsAt walk limit (Some mark) =
    (left_after limit walk.left ≢ []) × IsMarkOf walk (written limit walk.left) mark × ReadsBack mark

-- the edges that a page has so far; how many it may still have, and the walk up to there
pub record HasSoFar (begun : WalkState) (limit : Option ℕ) (edges : List ℕ) (walk : WalkState) (room : Option ℕ) : Type 0 where
  pub written : written limit begun.left ≡ edges ++ written room walk.left
  pub left : left_after limit begun.left ≡ left_after room walk.left
  pub mark : IsMarkOf begun edges walk.mark
  pub graph : walk.graph ≡ begun.graph
  pub targets : walk.targets ≡ begun.targets

-- the page has one more edge, or it has all its edges
abbrev pub GoesOn : (begun : WalkState) (limit : Option ℕ) (edges : List ℕ) → Option ℕ → (walk : WalkState) (room : Option ℕ) → Type 0
GoesOn begun limit edges (Some e) walk room = HasSoFar begun limit (edges ++ e ∷ []) walk room
GoesOn begun limit edges None walk room = HasSoFar begun limit edges walk room × (written limit begun.left ≡ edges)
