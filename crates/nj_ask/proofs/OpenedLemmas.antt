-- The paths of the files that were opened.
use Rattle.std.proofs.Common.{◌≡◌, ℕ, ◌||◌, Bool, true, false, cond, List, [], ◌∷◌, ◌++◌, refl, sym}
use Rattle.std.proofs.Common.{ap, ◌∙◌}
use Rattle.std.specs.Prelude.{bytes_eq}
use Rattle.std.proofs.lemmas.List.Folds.{list_any-append}
use Rattle.std.proofs.lemmas.Slice.Eq.{bytes_eq-Decides}
use Rattle.nj_graph.specs.Edges.{is_among}
use Rattle.nj_names.specs.NameTables.{with_name}

or-none : (b : Bool) → (b || false) ≡ b
or-none true = refl
or-none false = refl

same-bytes : (xs ys : List ℕ) → bytes_eq xs ys ≡ true → xs ≡ ys
same-bytes xs ys is = (bytes_eq-Decides xs ys).0 is

-- a path is one of some names after one more, if it was or is the same
pub among-named : (names : List (List ℕ)) (name path : List ℕ)
    → is_among (with_name names name) path ≡ is_among (names ++ name ∷ []) path
among-named names name path = by (is_among names name) refl
  where
    by : (b : Bool) → is_among names name ≡ b
        → is_among (cond b names (names ++ name ∷ [])) path ≡ is_among (names ++ name ∷ []) path
    by false is = refl
    by true is = there (bytes_eq path name) refl
      where
        there : (b : Bool) → bytes_eq path name ≡ b → is_among names path ≡ is_among (names ++ name ∷ []) path
        there true same =
            let known : is_among names path ≡ true = ap (is_among names) (same-bytes path name same) ∙ is in
            known ∙ sym (list_any-append (bytes_eq path) names (name ∷ [])
            ∙ ap (λ b. b || (bytes_eq path name || false)) known)
        there false other =
            sym (list_any-append (bytes_eq path) names (name ∷ [])
            ∙ ap (λ b. is_among names path || (b || false)) other ∙ or-none (is_among names path))

-- one more name, where some names are those before it
pub among-more : (names before : List (List ℕ)) (name path : List ℕ)
    → ((path : List ℕ) → is_among names path ≡ is_among before path)
    → is_among (with_name names name) path ≡ is_among (before ++ name ∷ []) path
among-more names before name path same =
    among-named names name path ∙ list_any-append (bytes_eq path) names (name ∷ [])
    ∙ ap (λ b. b || (bytes_eq path name || false)) (same path)
    ∙ sym (list_any-append (bytes_eq path) before (name ∷ []))
