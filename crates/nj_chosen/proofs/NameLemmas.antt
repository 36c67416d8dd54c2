-- Tables of names, one name after another.
use Rattle.std.proofs.Common.{◌≡◌, ℕ, ◌||◌, Bool, true, false, not, cond, List, [], ◌∷◌, ◌++◌, map}
use Rattle.std.proofs.Common.{refl, sym, ap, ◌∙◌, append_assoc}
use Rattle.std.specs.Prelude.{bytes_eq}
use Rattle.std.specs.List.{filter, list_any}
use Rattle.std.proofs.lemmas.List.Folds.{list_any-append}
use Rattle.std.proofs.lemmas.Slice.Eq.{bytes_eq-Decides}
use Rattle.nj_names.specs.NameTables.{is_among, with_name}
use Rattle.std.proofs.Math.Path.{fun_ext}
use Rattle.nj_changes.specs.Tables.{HasMore, SameNames}
use Rattle.nj_chosen.specs.Reasons.{without}

or-none : (b : Bool) → (b || false) ≡ b
or-none true = refl
or-none false = refl

-- a name is in the table after another is added, if it was before or is the same
pub among-named : (names : List (List ℕ)) (name path : List ℕ)
    → is_among (with_name names name) path ≡ is_among (names ++ name ∷ []) path
among-named names name path = by (is_among names name) refl
  where
    by : (b : Bool) → is_among names name ≡ b
        → is_among (cond b names (names ++ name ∷ [])) path ≡ is_among (names ++ name ∷ []) path
    by false is = refl
    by true is = there (bytes_eq path name) refl
      where
        there : (b : Bool) → bytes_eq path name ≡ b → is_among names path ≡ is_among (names ++ name ∷ []) path
        there true same =
            let known : is_among names path ≡ true =
            ap (is_among names) ((bytes_eq-Decides path name).0 same) ∙ is in
            known ∙ sym (list_any-append (bytes_eq path) names (name ∷ [])
            ∙ ap (λ b. b || (bytes_eq path name || false)) known)
        there false other =
            sym (list_any-append (bytes_eq path) names (name ∷ [])
            ∙ ap (λ b. is_among names path || (b || false)) other ∙ or-none (is_among names path))

-- one more name
pub more-named : (old new : List (List ℕ)) (name : List ℕ) → new ≡ with_name old name
    → HasMore old (name ∷ []) new
more-named old new name is path = ap (λ ns. is_among ns path) is ∙ among-named old name path

-- nothing more
pub more-none : (names : List (List ℕ)) → HasMore names [] names
more-none names path = sym (list_any-append (bytes_eq path) names [] ∙ or-none (is_among names path))

-- more, and then more
pub more-then : (old mid new xs ys zs : List (List ℕ)) → zs ≡ xs ++ ys → HasMore old xs mid
    → HasMore mid ys new
    → HasMore old zs new
more-then old mid new xs ys zs is a b path =
    b path ∙ list_any-append (bytes_eq path) mid ys
    ∙ ap (λ t. t || is_among ys path) (a path)
    ∙ sym (list_any-append (bytes_eq path) (old ++ xs) ys)
    ∙ ap (λ ns. is_among ns path) (append_assoc old xs ys ∙ ap (λ ns. old ++ ns) (sym is))

-- ---- names that are not among others

pub without-none : (paths : List (List ℕ)) → without [] paths ≡ paths
without-none [] = refl
without-none (p ∷ ps) = ap (λ qs. p ∷ qs) (without-none ps)

pub without-same : (others same paths : List (List ℕ)) → SameNames others same
    → without others paths ≡ without same paths
without-same others same paths are =
    ap (λ (among : List ℕ → Bool). filter (λ path. not (among path)) paths) (fun_ext are)

pub without-one : (others : List (List ℕ)) (path : List ℕ) (is : Bool) → is_among others path ≡ is
    → without others (path ∷ []) ≡ cond is [] (path ∷ [])
without-one others path true among = ap (λ b. cond (not b) (path ∷ []) []) among
without-one others path false among = ap (λ b. cond (not b) (path ∷ []) []) among

pub any-map : {X Y : Type 0} (p : Y → Bool) (f : X → Y) (xs : List X)
    → list_any (λ x. p (f x)) xs ≡ list_any p (map f xs)
any-map p f [] = refl
any-map p f (x ∷ xs) = ap (λ b. p (f x) || b) (any-map p f xs)
