-- Lists by index.
use Rattle.std.proofs.lemmas.Grind.{common_steps}
use Rattle.std.proofs.Common.{rules, ◌≡◌, ◌≢◌, ℕ, ◌<◌, ◌≤◌, Option, Some, List, [], ◌∷◌, ◌++◌, length, get_or}
use Rattle.std.proofs.Common.{set}
use Rattle.std.proofs.Common.{take, ap, ◌∙◌, ◌⊎◌, arith}
use Rattle.std.specs.Prelude.{Contains, slice_get, slice_index}
use Rattle.std.proofs.lemmas.List.{get_or_append_left, get_or_push, get_or_default}
use Rattle.std.proofs.lemmas.List.{length-take-le, get_or-take}
use Rattle.std.proofs.lemmas.Option.{slice_get_within, slice_get-get_or, get_or_from_slice_get}
use Rattle.nj_cycles.specs.Cycles.{Needs}

-- an element of a list with one more at its end
pub at_push : (xs : List ℕ) (y i : ℕ) → i < length (xs ++ y ∷ [])
    → ((i < length xs) × (slice_index (xs ++ y ∷ []) i ≡ slice_index xs i))
    ⊎ ((length xs ≡ i) × (slice_index (xs ++ y ∷ []) i ≡ y))
at_push xs y i lt = grind (arith, common_steps)

pub at_left : (xs : List ℕ) (y i : ℕ) → i < length xs → slice_index (xs ++ y ∷ []) i ≡ slice_index xs i
at_left xs y i h = get_or_append_left xs (y ∷ []) 0 i h

pub at_end : (xs : List ℕ) (y : ℕ) → slice_index (xs ++ y ∷ []) (length xs) ≡ y
at_end xs y = get_or_push xs y 0 (length xs) (omega arith)

-- an element of a list after a write
pub at_set : {X : Type 0} (xs : List X) (m : ℕ) (x d : X) (i : ℕ) → m < length xs
    → ((i ≡ m) × (get_or (set xs m x) i d ≡ x)) ⊎ ((i ≢ m) × (get_or (set xs m x) i d ≡ get_or xs i d))
at_set xs m x d i lt = search rules

-- membership by an index
pub index_of : (xs : List ℕ) (x : ℕ) → Contains xs x → (i : ℕ) × (i < length xs) × (slice_index xs i ≡ x)
index_of xs x h = (h.0, h.1, get_or_default xs h.0 0 x h.1 ∙ h.2)

pub contains_at : (xs : List ℕ) (i x : ℕ) → i < length xs → slice_index xs i ≡ x → Contains xs x
contains_at xs i x lt is = (i, lt, get_or_default xs i x 0 lt ∙ is)

-- membership in a front
pub index_before : (xs : List ℕ) (n x : ℕ) → n ≤ length xs → Contains (take n xs) x
    → (i : ℕ) × (i < n) × (slice_index xs i ≡ x)
index_before xs n x le h = grind (arith, common_steps)

pub contains_before : (xs : List ℕ) (n i x : ℕ) → n ≤ length xs → i < n → slice_index xs i ≡ x
    → Contains (take n xs) x
contains_before xs n i x le lt is = contains_at (take n xs) i x (omega (arith, length-take-le n xs le))
    (get_or-take n xs i 0 lt ∙ is)

-- the edge that an edge needs, by the index of an input
pub maker_got : (makers : ℕ → List (Option ℕ)) (e f : ℕ) (needs : Needs makers e f)
    → slice_get (makers e) needs.0 ≡ Some (Some f)
maker_got makers e f needs = slice_get-get_or (makers e) needs.0 (Some f) needs.1 ∙ ap Some needs.2

pub needs_got : (makers : ℕ → List (Option ℕ)) (e i f : ℕ) → slice_get (makers e) i ≡ Some (Some f)
    → Needs makers e f
needs_got makers e i f made = grind (
  arith,
  slice_get_within (makers e) i (Some f) made,
  get_or_from_slice_get (makers e) i (Some f) (Some f) made,
)
