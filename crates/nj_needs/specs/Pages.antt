-- Pages: the edges of consecutive runs, each from the mark of the one before.
use Rattle.std.specs.Prelude.{◌≡◌, ◌≤◌, ℕ, Bool, true, Option, None, MatchOption, List, [], ◌∷◌, ◌++◌, length}
use Rattle.std.specs.List.{concat, last_or}
use Rattle.nj_cycles.specs.Cycles.{IsAcyclic}
use Rattle.nj_needs.specs.Needs.{AreWithin}
use Rattle.nj_needs.specs.Order.{needed_commands}
use Rattle.nj_needs.specs.Marks.{is_valid, rest, IsFirstPlace}

-- the mark after the given edges of a walk that began at a mark: the address of the last edge, or that mark without edges
abbrev pub IsMarkAfter : (makers : ℕ → List (Option ℕ)) → (count : ℕ) → (targets : List (Option ℕ))
    → (begun : List ℕ) → (edges : List ℕ) → (mark : List ℕ) → Type 0
IsMarkAfter makers count targets begun edges mark =
    MatchOption (last_or None edges) (mark ≡ begun) (λ e. IsFirstPlace makers count targets mark e)

-- the rest after the given edges is the rest at the mark after them
abbrev pub MarkKeepsTheRest : Type 0
MarkKeepsTheRest = (makers : ℕ → List (Option ℕ)) (count : ℕ) (phony : ℕ → Bool) (targets : List (Option ℕ))
    → IsAcyclic makers count → AreWithin targets count
    → (begun edges left mark : List ℕ) → is_valid makers targets begun ≡ true
    → rest makers count phony targets begun ≡ edges ++ left → IsMarkAfter makers count targets begun edges mark
    → (is_valid makers targets mark ≡ true) × (rest makers count phony targets mark ≡ left)

-- Runs from a mark: each takes at most the number of edges in `takes`; the edges that each returns; and the rest after the
-- last run.
pub data ArePages (makers : ℕ → List (Option ℕ)) (count : ℕ) (phony : ℕ → Bool) (targets : List (Option ℕ))
    : (mark : List ℕ) → (takes : List ℕ) → (pages : List (List ℕ)) → (left : List ℕ) → Type 0 where
  -- no further run
  no_runs : {mark left : List ℕ} → rest makers count phony targets mark ≡ left
      → ArePages makers count phony targets mark [] [] left
  -- a run that ends: all that was left is its page, and nothing is left
  ends : {mark page : List ℕ} {take : ℕ} → rest makers count phony targets mark ≡ page → length page ≤ take
      → ArePages makers count phony targets mark (take ∷ []) (page ∷ []) []
  -- a run that stops before the next edge; the other runs continue at the mark after its page
  stops : {mark page takes left : List ℕ} {take : ℕ} {pages : List (List ℕ)} (e : ℕ) (others next : List ℕ)
      → rest makers count phony targets mark ≡ page ++ e ∷ others → length page ≡ take
      → IsMarkAfter makers count targets mark page next → ArePages makers count phony targets next takes pages left
      → ArePages makers count phony targets mark (take ∷ takes) (page ∷ pages) left

-- the pages, one after another, and then the rest after them, are the rest at the first mark
abbrev pub PagesJoin : Type 0
PagesJoin = (makers : ℕ → List (Option ℕ)) (count : ℕ) (phony : ℕ → Bool) (targets : List (Option ℕ))
    → IsAcyclic makers count → AreWithin targets count
    → (mark takes : List ℕ) (pages : List (List ℕ)) (left : List ℕ) → is_valid makers targets mark ≡ true
    → ArePages makers count phony targets mark takes pages left
    → rest makers count phony targets mark ≡ concat pages ++ left

-- the rest at a mark is a suffix of the needed commands
abbrev pub RestIsSuffix : Type 0
RestIsSuffix = (makers : ℕ → List (Option ℕ)) (count : ℕ) (phony : ℕ → Bool) (targets : List (Option ℕ))
    → IsAcyclic makers count → AreWithin targets count
    → (mark : List ℕ) → is_valid makers targets mark ≡ true
    → (taken : List ℕ) × (needed_commands makers count phony targets ≡ taken ++ rest makers count phony targets mark)
