-- The parts of a word that joins them.
use Rattle.std.proofs.Common.{◌≡◌, ◌⊎◌, inl, inr, ℕ, Bool, true, false, cond, List, [], ◌∷◌, ◌++◌, arith}
use Rattle.std.proofs.Common.{refl, sym, ap, subst, ◌∙◌, append-nil}
use Rattle.std.specs.Prelude.{Contains}
use Rattle.std.specs.List.{All, AllByRecursion, cons_option, flat_map, join_with_byte, list_any, slice_split}
use Rattle.std.proofs.lemmas.List.Concat.{flat_map-cons}
use Rattle.std.proofs.lemmas.List.Elements.{All-cons, All-nil, Contains-append_cases, Contains-append_left}
use Rattle.std.proofs.lemmas.List.Elements.{Contains-append_right, Contains-push, Contains-push_cases}
use Rattle.std.proofs.lemmas.List.Splits.{slice_split_at, slice_split_none}
use Rattle.nj_text.proofs.SlashComponents.{or_false}
use Rattle.nj_audit.specs.Laws.{ListedTextsAreNames}
use Rattle.nj_audit.specs.WordNames.{after_sign, attached_to, is_sign, names_in_parts, names_in_text}
use Rattle.nj_audit.specs.WordNames.{word_names}

-- ---- members of lists

head-in : {X : Type 0} (x : X) (xs : List X) → Contains (x ∷ xs) x
head-in x xs = Contains-append_left (x ∷ []) xs x (Contains-push [] x)

in-cons : {X : Type 0} (x : X) (xs : List X) (y : X) → Contains (x ∷ xs) y → (x ≡ y) ⊎ Contains xs y
in-cons x xs y has = by (Contains-append_cases (x ∷ []) xs y has) where
  one : Contains [] y ⊎ (x ≡ y) → (x ≡ y) ⊎ Contains xs y
  one (inl none) = absurd (omega (arith, none.1))
  one (inr same) = inl same

  by : Contains (x ∷ []) y ⊎ Contains xs y → (x ≡ y) ⊎ Contains xs y
  by (inl first) = one (Contains-push_cases [] x y first)
  by (inr rest) = inr rest

in-flat : {X Y : Type 0} (f : X → List Y) (xs : List X) (x : X) (y : Y) → Contains xs x → Contains (f x) y
    → Contains (flat_map f xs) y
in-flat f [] x y has there = absurd (omega (arith, has.1))
in-flat f (z ∷ xs) x y has there =
    subst (λ ys. Contains ys y) (sym (flat_map-cons f z xs))
    (by (in-cons z xs x has) (λ rest. in-flat f xs x y rest there)) where
      by : (z ≡ x) ⊎ Contains xs x → (Contains xs x → Contains (flat_map f xs) y)
          → Contains (f z ++ flat_map f xs) y
      by (inl same) rest = Contains-append_left (f z) (flat_map f xs) y
          (subst (λ w. Contains (f w) y) (sym same) there)
      by (inr has) rest = Contains-append_right (f z) (flat_map f xs) y (rest has)

-- ---- parts

none-pass : (text : List ℕ) → list_any is_sign text ≡ false → All (λ b. is_sign b ≡ false) text
none-pass [] none = All-nil (λ b. is_sign b ≡ false)
none-pass (b ∷ text) none =
    let neither = or_false (is_sign b) (list_any is_sign text) none in
    All-cons (λ b. is_sign b ≡ false) b text neither.0 (none-pass text neither.1)

-- a word without a sign is its only part
one-part : (word : List ℕ) → list_any is_sign word ≡ false → names_in_parts word ≡ names_in_text word
one-part word none =
    ap (flat_map names_in_text) (slice_split_none is_sign word (none-pass word none))
    ∙ append-nil (names_in_text word)

-- the names in the parts of a word are names in the word
part-named : (word name : List ℕ) → Contains (names_in_parts word) name → Contains (word_names word) name
part-named word name has = by (list_any is_sign word) refl where
  others : List (List ℕ)
  others = cons_option (after_sign word) []

  by : (some : Bool) → list_any is_sign word ≡ some
      → Contains (names_in_text word ++ cond some (others ++ names_in_parts word) []) name
  by true is = Contains-append_right (names_in_text word) (others ++ names_in_parts word) name
      (Contains-append_right others (names_in_parts word) name has)
  by false is = Contains-append_left (names_in_text word) [] name
      (subst (λ names. Contains names name) (one-part word is) has)

-- a word that joins texts without signs has them as its parts
parts-are : (sign : ℕ) → is_sign sign ≡ true → (item : List ℕ) (items : List (List ℕ))
    → AllByRecursion (λ item. list_any is_sign item ≡ false) (item ∷ items)
    → slice_split is_sign (join_with_byte sign (item ∷ items)) ≡ item ∷ items
parts-are sign is item [] all = slice_split_none is_sign item (none-pass item all.0)
parts-are sign is item (next ∷ items) all =
    slice_split_at is_sign item sign (join_with_byte sign (next ∷ items)) (none-pass item all.0) is
    ∙ ap (λ parts. item ∷ parts) (parts-are sign is next items all.1)

pub listed-texts-are-names : ListedTextsAreNames
listed-texts-are-names sign [] is all item has = absurd (omega (arith, has.1))
listed-texts-are-names sign (first ∷ items) is all item has =
    let word = join_with_byte sign (first ∷ items) in
    part-named word item
    (subst (λ parts. Contains (flat_map names_in_text parts) item) (sym (parts-are sign is first items all))
    (in-flat names_in_text (first ∷ items) item item has (head-in item (cons_option (attached_to item) []))))
