-- Where a walk is: the path of open edges, the first opened first, and the next place in the inputs of the last open
-- edge, or in the target list if no edge is open. The edges done then, and the number of turns left, follow from it.
use Rattle.std.specs.Prelude.{◌≡◌, ℕ, ◌+◌, ◌-◌, ◌<◌, ◌≤◌, Bool, true, false, if◌then◌else◌, Option, Some, List, [], ◌∷◌, ◌++◌, length, map}
use Rattle.std.specs.Prelude.{take, nat_eq, slice_get, slice_index_or}
use Rattle.std.specs.List.{list_any}
use Rattle.nj_needs.specs.Order.{unfolded_row, order, needed_commands}
use Rattle.nj_needs.specs.Marks.{without}
use Rattle.nj_needs.specs.declared.frame.Frame.{Frame}

-- the row in which the walk is, where `row` is the row below the path
abbrev pub top_row : (makers : ℕ → List (Option ℕ)) → (row : List (Option ℕ)) → List Frame → List (Option ℕ)
top_row makers row [] = row
top_row makers row (f ∷ path) = top_row makers (makers f.edge.0) path

-- each open edge is at its index in the row below
abbrev pub IsLinked : (makers : ℕ → List (Option ℕ)) → (row : List (Option ℕ)) → List Frame → Type 0
IsLinked makers row [] = Unit {0}
IsLinked makers row (f ∷ path) = (slice_get row f.at ≡ Some (Some f.edge.0)) × IsLinked makers (makers f.edge.0) path

-- the edges done: in each row the unfolded order of the places before the place where the walk is
abbrev pub done_at : (makers : ℕ → List (Option ℕ)) → (count : ℕ) → (row : List (Option ℕ)) → List Frame → (place : ℕ) → List ℕ
done_at makers count row [] place = unfolded_row makers count (take place row)
done_at makers count row (f ∷ path) place = unfolded_row makers count (take f.at row) ++ done_at makers count (makers f.edge.0) path place

-- the open edges
abbrev pub opened : List Frame → List ℕ
opened path = map (λ f. f.edge.0) path

-- their indexes: the address of the last of them
abbrev pub places : List Frame → List ℕ
places path = map (λ f. f.at) path

-- the turns that are left in the rows of the path, including the closing of its edges
abbrev pub turns_open : (makers : ℕ → List (Option ℕ)) → (row : List (Option ℕ)) → List Frame → (place : ℕ) → ℕ
turns_open makers row [] place = length row - place
turns_open makers row (f ∷ path) place = (length row - (f.at + 1)) + 1 + turns_open makers (makers f.edge.0) path place

-- the turns for the edges of a list that were not seen
abbrev pub turns_unseen : (makers : ℕ → List (Option ℕ)) → (seen : List ℕ) → List ℕ → ℕ
turns_unseen makers seen [] = 0
turns_unseen makers seen (e ∷ es) = (if list_any (nat_eq e) seen then 0 else 1 + length (makers e)) + turns_unseen makers seen es

-- the turns that are left
abbrev pub turns_left : (makers : ℕ → List (Option ℕ)) → (count : ℕ) → (row : List (Option ℕ)) → List Frame → (place : ℕ) → ℕ
turns_left makers count row path place =
    turns_open makers row path place + turns_unseen makers (done_at makers count row path place ++ opened path) (order makers count row)

-- the commands that are left
abbrev pub left_at : (makers : ℕ → List (Option ℕ)) → (count : ℕ) → (phony : ℕ → Bool) → (row : List (Option ℕ))
    → List Frame → (place : ℕ) → List ℕ
left_at makers count phony row path place = without (done_at makers count row path place) (needed_commands makers count phony row)

-- the state where a walk is: no open edge is done, and the flags show which edges are
pub record IsStanding (makers : ℕ → List (Option ℕ)) (count : ℕ) (row : List (Option ℕ))
    (path : List Frame) (place : ℕ) (flags : List Bool) : Type 0 where
  pub linked : IsLinked makers row path
  pub place_in : place ≤ length (top_row makers row path)
  pub undone : (e : ℕ) → list_any (nat_eq e) (opened path) ≡ true → list_any (nat_eq e) (done_at makers count row path place) ≡ false
  pub flags_len : length flags ≡ count
  pub flagged : (e : ℕ) → e < count → slice_index_or flags e false ≡ list_any (nat_eq e) (done_at makers count row path place)
