-- Lists without their repeats.
use Rattle.std.proofs.Common.{◌≡◌, ℕ, Bool, true, false, not, ◌&&◌, ◌||◌, cond, List, [], ◌∷◌, ◌++◌, bytes_eq}
use Rattle.std.proofs.Common.{refl, sym, ap, ◌∙◌, append-nil}
use Rattle.std.specs.Prelude.{filter}
use Rattle.std.proofs.lemmas.List.Elements.{filter-append, filter_agree}
use Rattle.nj_scope.specs.Readings.{IsPrefix}
use Rattle.nj_edges.specs.Edges.{is_among}
use Rattle.nj_edges.specs.Repeats.{each_once}

filter-filter : {X : Type 0} (p q : X → Bool) (xs : List X)
    → filter p (filter q xs) ≡ filter (λ x. q x && p x) xs
filter-filter p q [] = refl
filter-filter {X} p q (x ∷ xs) = by_test (q x) (filter-filter p q xs)
  where
    by_test : (b : Bool) → filter p (filter q xs) ≡ filter (λ y. q y && p y) xs
        → filter p (cond b (x ∷ filter q xs) (filter q xs))
        ≡ cond (b && p x) (x ∷ filter (λ y. q y && p y) xs) (filter (λ y. q y && p y) xs)
    by_test true h = ap (λ (ys : List X). cond (p x) (x ∷ ys) ys) h
    by_test false h = h

not_or : (a b : Bool) → not (a || b) ≡ (not b && not a)
not_or true true = refl
not_or true false = refl
not_or false true = refl
not_or false false = refl

-- paths that are not among the earlier paths
abbrev fresh : (earlier paths : List (List ℕ)) → List (List ℕ)
fresh earlier paths = filter (λ p. not (is_among earlier p)) paths

fresh-none : (paths : List (List ℕ)) → fresh [] paths ≡ paths
fresh-none [] = refl
fresh-none (p ∷ paths) = ap (λ ps. p ∷ ps) (fresh-none paths)

fresh-cons : (x : List ℕ) (xs ps : List (List ℕ))
    → filter (λ y. not (bytes_eq y x)) (fresh xs ps) ≡ fresh (x ∷ xs) ps
fresh-cons x xs ps =
    filter-filter (λ y. not (bytes_eq y x)) (λ y. not (is_among xs y)) ps
    ∙ sym (filter_agree (λ y. not (bytes_eq y x || is_among xs y))
    (λ y. not (is_among xs y) && not (bytes_eq y x)) (λ y. not_or (bytes_eq y x) (is_among xs y)) ps)

-- of two lists after each other, the first without its repeats, and then the new elements of the
-- second
once-append : (xs ys : List (List ℕ)) → each_once bytes_eq (xs ++ ys)
    ≡ each_once bytes_eq xs ++ fresh xs (each_once bytes_eq ys)
once-append [] ys = sym (fresh-none (each_once bytes_eq ys))
once-append (x ∷ xs) ys =
    let p : List ℕ → Bool = λ y. not (bytes_eq y x) in
    ap (λ ps. x ∷ filter p ps) (once-append xs ys)
    ∙ ap (λ ps. x ∷ ps) (filter-append p (each_once bytes_eq xs) (fresh xs (each_once bytes_eq ys))
    ∙ ap (λ ps. filter p (each_once bytes_eq xs) ++ ps) (fresh-cons x xs (each_once bytes_eq ys)))

-- with more after it, a list without its repeats continues
pub once-front : (xs ys : List (List ℕ)) → IsPrefix (each_once bytes_eq xs) (each_once bytes_eq (xs ++ ys))
once-front xs ys = (fresh xs (each_once bytes_eq ys), once-append xs ys)

pub once-known : (xs : List (List ℕ)) (x : List ℕ) → is_among xs x ≡ true
    → each_once bytes_eq (xs ++ x ∷ []) ≡ each_once bytes_eq xs
once-known xs x h = once-append xs (x ∷ []) ∙ ap (λ b. each_once bytes_eq xs ++ cond (not b) (x ∷ []) []) h
    ∙ append-nil (each_once bytes_eq xs)

pub once-new : (xs : List (List ℕ)) (x : List ℕ) → is_among xs x ≡ false
    → each_once bytes_eq (xs ++ x ∷ []) ≡ each_once bytes_eq xs ++ x ∷ []
once-new xs x h = once-append xs (x ∷ []) ∙ ap (λ b. each_once bytes_eq xs ++ cond (not b) (x ∷ []) []) h
