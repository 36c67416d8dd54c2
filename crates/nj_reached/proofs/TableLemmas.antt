-- Tables of names, one name after another.
use Rattle.std.proofs.Common.{◌≡◌, ℕ, ◌||◌, Bool, true, false, cond, List, [], ◌∷◌, ◌++◌}
use Rattle.std.proofs.Common.{refl, sym, ap, ◌∙◌, append_assoc}
use Rattle.std.specs.Prelude.{bytes_eq}
use Rattle.std.proofs.lemmas.List.Folds.{list_any-append}
use Rattle.std.proofs.lemmas.Slice.Eq.{bytes_eq-Decides}
use Rattle.nj_names.specs.NameTables.{is_among, with_name}
use Rattle.nj_changes.specs.Tables.{HasMore, SameNames}

or-none : (b : Bool) → (b || false) ≡ b
or-none true = refl
or-none false = refl

same-bytes : (xs ys : List ℕ) → bytes_eq xs ys ≡ true → xs ≡ ys
same-bytes xs ys is = (bytes_eq-Decides xs ys).0 is

among-named : (names : List (List ℕ)) (name path : List ℕ)
    → is_among (with_name names name) path ≡ is_among (names ++ name ∷ []) path
among-named names name path = by (is_among names name) refl
  where
    by : (b : Bool) → is_among names name ≡ b
        → is_among (cond b names (names ++ name ∷ [])) path ≡ is_among (names ++ name ∷ []) path
    by false is = refl
    by true is = there (bytes_eq path name) refl
      where
        there : (b : Bool) → bytes_eq path name ≡ b → is_among names path ≡ is_among (names ++ name ∷ []) path
        there true same =
            let known : is_among names path ≡ true = ap (is_among names) (same-bytes path name same) ∙ is in
            known ∙ sym (list_any-append (bytes_eq path) names (name ∷ [])
            ∙ ap (λ b. b || (bytes_eq path name || false)) known)
        there false other =
            sym (list_any-append (bytes_eq path) names (name ∷ [])
            ∙ ap (λ b. is_among names path || (b || false)) other ∙ or-none (is_among names path))

-- one more name
pub has-named : (names new : List (List ℕ)) (name : List ℕ) → new ≡ with_name names name
    → HasMore names (name ∷ []) new
has-named names new name is path = ap (λ ns. is_among ns path) is ∙ among-named names name path

-- the same names, with the same names after them
same-more : (names others more : List (List ℕ)) → SameNames names others
    → SameNames (names ++ more) (others ++ more)
same-more names others more same name =
    list_any-append (bytes_eq name) names more ∙ ap (λ b. b || is_among more name) (same name)
    ∙ sym (list_any-append (bytes_eq name) others more)

-- more names, and then more
pub has-both : (old between new more others : List (List ℕ)) → HasMore old more between
    → HasMore between others new → HasMore old (more ++ others) new
has-both old between new more others one other name =
    other name ∙ same-more between (old ++ more) others one name
    ∙ ap (λ ns. is_among ns name) (append_assoc old more others)

-- no more names
pub has-none : (old : List (List ℕ)) → HasMore old [] old
has-none old name =
    sym (list_any-append (bytes_eq name) old [] ∙ or-none (is_among old name))

-- the names that are left, where some of them were added
pub step : (names new more left others all : List (List ℕ)) → left ≡ more ++ others → HasMore names more new
    → SameNames (names ++ left) all → SameNames (new ++ others) all
step names new more left others all is has same name =
    same-more new (names ++ more) others has name
    ∙ ap (λ ns. is_among ns name) (append_assoc names more others ∙ ap (λ ns. names ++ ns) (sym is))
    ∙ same name

-- no names are left
pub all-added : (old new more left : List (List ℕ)) → left ≡ [] → SameNames (new ++ left) (old ++ more)
    → HasMore old more new
all-added old new more left none same name =
    has-none new name ∙ ap (λ ns. is_among (new ++ ns) name) (sym none) ∙ same name
