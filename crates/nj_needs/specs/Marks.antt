-- Marks. A mark is `start`, the empty list, or an address: the number of a target, and then indexes in lists of inputs, all from 0. It
-- leads to the target's maker, to the maker of that edge's input at the first index, and so on.
use Rattle.std.specs.Prelude.{◌≡◌, ℕ, ◌+◌, Bool, true, false, ◌&&◌, not, Option, Some, None, is_some, List, [], ◌∷◌, ◌++◌, take, nat_eq}
use Rattle.std.specs.Prelude.{filter, slice_index_or}
use Rattle.std.specs.List.{list_any}
use Rattle.nj_needs.specs.Order.{made_by, unfolded_row, needed_commands}

-- each step leads to an edge
abbrev pub is_valid : (makers : ℕ → List (Option ℕ)) → (row : List (Option ℕ)) → (mark : List ℕ) → Bool
is_valid makers row [] = true
is_valid makers row (p ∷ mark) = is_some (slice_index_or row p None) && is_valid makers (made_by makers (slice_index_or row p None)) mark

-- the edge that an address leads to
abbrev pub edge_at : (makers : ℕ → List (Option ℕ)) → (row : List (Option ℕ)) → (mark : List ℕ) → Option ℕ
edge_at makers row [] = None
edge_at makers row (p ∷ []) = slice_index_or row p None
edge_at makers row (p ∷ q ∷ mark) = edge_at makers (made_by makers (slice_index_or row p None)) (q ∷ mark)

-- the unfolded order up to and including the place that an address leads to
abbrev pub done : (makers : ℕ → List (Option ℕ)) → (count : ℕ) → (row : List (Option ℕ)) → (mark : List ℕ) → List ℕ
done makers count row [] = []
done makers count row (p ∷ []) = unfolded_row makers count (take (p + 1) row)
done makers count row (p ∷ q ∷ mark) =
    unfolded_row makers count (take p row) ++ done makers count (made_by makers (slice_index_or row p None)) (q ∷ mark)

-- the edges that are not in `seen`
abbrev pub without : (seen es : List ℕ) → List ℕ
without seen es = filter (λ e. not (list_any (nat_eq e) seen)) es

-- the commands that are left at a mark
abbrev pub rest : (makers : ℕ → List (Option ℕ)) → (count : ℕ) → (phony : ℕ → Bool) → (targets : List (Option ℕ)) → (mark : List ℕ) → List ℕ
rest makers count phony targets mark = without (done makers count targets mark) (needed_commands makers count phony targets)

-- the mark is the address of the first place of edge e in the unfolded order
abbrev pub IsFirstPlace : (makers : ℕ → List (Option ℕ)) → (count : ℕ) → (targets : List (Option ℕ)) → (mark : List ℕ) → (e : ℕ) → Type 0
IsFirstPlace makers count targets mark e =
    (edge_at makers targets mark ≡ Some e)
    × ((before : List ℕ) × (done makers count targets mark ≡ before ++ e ∷ []) × (list_any (nat_eq e) before ≡ false))
