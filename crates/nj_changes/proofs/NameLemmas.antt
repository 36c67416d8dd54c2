-- Tables of names, one name after another.
use Rattle.std.proofs.Common.{◌≡◌, ◌<◌, ◌+◌, ℕ, ◌||◌, Bool, true, false, cond, List, [], ◌∷◌, ◌++◌, map, take}
use Rattle.std.proofs.Common.{get_or, length, refl, sym, ap, ◌∙◌, append_assoc}
use Rattle.std.specs.Prelude.{bytes_eq}
use Rattle.std.specs.List.{flat_map, list_any}
use Rattle.std.proofs.lemmas.List.{flat_map_more, map_more, take_more}
use Rattle.std.proofs.lemmas.List.Folds.{list_any-append}
use Rattle.std.proofs.lemmas.Slice.Eq.{bytes_eq-Decides}
use Rattle.nj_names.specs.NameTables.{is_among, with_name}
use Rattle.nj_changes.specs.Tables.{HasMore, SameNames}

or-none : (b : Bool) → (b || false) ≡ b
or-none true = refl
or-none false = refl

same-bytes : (xs ys : List ℕ) → bytes_eq xs ys ≡ true → xs ≡ ys
same-bytes xs ys is = (bytes_eq-Decides xs ys).0 is

-- a name is in the list after one more, if it was or is the same
among-named : (names : List (List ℕ)) (name path : List ℕ)
    → is_among (with_name names name) path ≡ is_among (names ++ name ∷ []) path
among-named names name path = by (is_among names name) refl
  where
    by : (b : Bool) → is_among names name ≡ b
        → is_among (cond b names (names ++ name ∷ [])) path ≡ is_among (names ++ name ∷ []) path
    by false is = refl
    by true is = there (bytes_eq path name) refl
      where
        there : (b : Bool) → bytes_eq path name ≡ b → is_among names path ≡ is_among (names ++ name ∷ []) path
        there true same =
            let known : is_among names path ≡ true = ap (is_among names) (same-bytes path name same) ∙ is in
            known ∙ sym (list_any-append (bytes_eq path) names (name ∷ [])
            ∙ ap (λ b. b || (bytes_eq path name || false)) known)
        there false other =
            sym (list_any-append (bytes_eq path) names (name ∷ [])
            ∙ ap (λ b. is_among names path || (b || false)) other ∙ or-none (is_among names path))

-- the same names, with the same names after them
same-more : (names others more : List (List ℕ)) → SameNames names others
    → SameNames (names ++ more) (others ++ more)
same-more names others more same name =
    list_any-append (bytes_eq name) names more ∙ ap (λ b. b || is_among more name) (same name)
    ∙ sym (list_any-append (bytes_eq name) others more)

-- the names of one more thing
pub same-named : {X : Type 0} (bytes : X → List ℕ) (things : List X) (i : ℕ) (d : X) → i < length things
    → (old names new : List (List ℕ)) → SameNames names (old ++ map bytes (take i things))
    → new ≡ with_name names (bytes (get_or things i d))
    → SameNames new (old ++ map bytes (take (i + 1) things))
same-named bytes things i d below old names new same is name =
    let next = bytes (get_or things i d) in
    let before = map bytes (take i things) in
    ap (λ ns. is_among ns name) is ∙ among-named names next name
    ∙ same-more names (old ++ before) (next ∷ []) same name
    ∙ ap (λ ns. is_among ns name) (append_assoc old before (next ∷ [])
    ∙ ap (λ ns. old ++ ns) (sym (map_more bytes things i d below)))

-- many more of one more thing
pub same-added : {X : Type 0} (many : X → List (List ℕ)) (things : List X) (i : ℕ) (d : X) → i < length things
    → (names new : List (List ℕ)) → SameNames names (flat_map many (take i things))
    → HasMore names (many (get_or things i d)) new → SameNames new (flat_map many (take (i + 1) things))
same-added many things i d below names new same more name =
    let next = get_or things i d in
    more name ∙ same-more names (flat_map many (take i things)) (many next) same name
    ∙ ap (λ ns. is_among ns name) (flat_map_more many [] (take i things) next
    ∙ ap (flat_map many) (sym (take_more things i d below)))

pub any-map : {X Y : Type 0} (p : Y → Bool) (f : X → Y) (xs : List X)
    → list_any (λ x. p (f x)) xs ≡ list_any p (map f xs)
any-map p f [] = refl
any-map p f (x ∷ xs) = ap (λ b. p (f x) || b) (any-map p f xs)
