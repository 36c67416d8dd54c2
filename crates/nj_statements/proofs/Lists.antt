-- Lemmas on lists.
use Rattle.std.proofs.Common.{◌≡◌, ℕ, ◌+◌, ◌<◌, Bool, true, false, List, [], ◌∷◌, ◌++◌, length, drop, get_or}
use Rattle.std.proofs.Common.{slice_get, find, cond, Some, None, refl, sym, ap, ◌∙◌, arith}
use Rattle.std.specs.Option.{option_or}
use Rattle.std.proofs.lemmas.List.{at_drop_more, length-append}
use Rattle.std.proofs.lemmas.Option.{slice_get_within, slice_get-get_or, get_or_from_slice_get}
use Rattle.std.proofs.Math.ListN.{get_or-append}
use Rattle.nj_text.specs.Calls.{is_empty}
use Rattle.nj_text.specs.Paths.{clean_path_of}

-- a function of the rest of a list, where this element is next
pub at-next : {X : Type 0} {Y : Type 0} (F : List X → Y) (xs : List X) (i : ℕ) (x : X) → i < length xs
    → x ≡ get_or xs i x → F (drop i xs) ≡ F (x ∷ drop (i + 1) xs)
at-next F xs i x below is = at_drop_more F xs i x below ∙ ap (λ y. F (y ∷ drop (i + 1) xs)) (sym is)

pub find-last : {X : Type 0} (p : X → Bool) (xs : List X) (x : X)
    → find p (xs ++ x ∷ []) ≡ option_or (find p xs) (cond (p x) (Some x) None)
find-last p [] x = refl
find-last p (y ∷ ys) x = by (p y) (find-last p ys x)
  where
    by : (b : Bool) → find p (ys ++ x ∷ []) ≡ option_or (find p ys) (cond (p x) (Some x) None)
        → cond b (Some y) (find p (ys ++ x ∷ []))
        ≡ option_or (cond b (Some y) (find p ys)) (cond (p x) (Some x) None)
    by true h = refl
    by false h = h

pub not-empty : (xs : List ℕ) → (xs ≡ [] → ⊥) → is_empty xs ≡ false
not-empty [] none = absurd (none refl)
not-empty (x ∷ xs) none = refl

pub clean-not-empty : (xs : List ℕ) → clean_path_of xs ≡ xs → is_empty xs ≡ false
unfolding clean_path_of
clean-not-empty [] is = absurd (omega (arith, ap length is))
clean-not-empty (x ∷ xs) is = refl

-- an element at a position of a list is at the same position of a longer list
pub get-longer : {X : Type 0} (xs ys : List X) (i : ℕ) (x : X) → slice_get xs i ≡ Some x
    → slice_get (xs ++ ys) i ≡ Some x
get-longer xs ys i x h =
    let below = slice_get_within xs i x h in
    let count = length-append xs ys in
    slice_get-get_or (xs ++ ys) i x (omega (arith, below, count))
    ∙ ap Some (get_or-append xs ys x i below ∙ get_or_from_slice_get xs i x x h)
