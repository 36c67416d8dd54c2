-- The pieces of a word.
use Rattle.std.proofs.Common.{◌≡◌, ◌≢◌, ◌⊎◌, inl, inr, ℕ, ◌||◌, Bool, true, false, List, [], ◌∷◌, ◌++◌}
use Rattle.std.proofs.Common.{refl, sym, ap, ◌∙◌, subst, arith, append-nil, append_assoc, map, length, take}
use Rattle.std.proofs.Common.{◌≤◌, Bor}
use Rattle.std.specs.Prelude.{Contains}
use Rattle.std.specs.List.{All, flat_map, list_any, slice_split}
use Rattle.std.proofs.lemmas.List.{take_all}
use Rattle.std.proofs.lemmas.List.Concat.{flat_map-cons}
use Rattle.std.proofs.lemmas.List.Folds.{flat_map-map}
use Rattle.std.proofs.lemmas.List.Elements.{All-cons, All-nil, Contains-append_cases, Contains-append_left}
use Rattle.std.proofs.lemmas.List.Elements.{Contains-append_right, Contains-push, Contains-push_cases}
use Rattle.std.proofs.lemmas.List.Splits.{slice_split_none, slice_split_at}
use Rattle.nj_text.specs.Bytes.{begins_with}
use Rattle.nj_text.proofs.SlashComponents.{or_false, or_of}
use Rattle.nj_tests.specs.Words.{is_sign, is_blank_or_quote, is_cut, pieces_in, pieces_of, rests_of}
use Rattle.nj_tests.specs.Words.{stretches_of}
use Rattle.nj_tests.specs.WordLaws.{IsBetween, RestsArePieces, PiecesBetweenSigns, PiecesBetweenCuts}
use Rattle.nj_tests.proofs.PathLemmas.{split-append}

-- ---- members of lists

pub head-in : {X : Type 0} (x : X) (xs : List X) → Contains (x ∷ xs) x
head-in x xs = Contains-append_left (x ∷ []) xs x (Contains-push [] x)

pub tail-in : {X : Type 0} (x : X) (xs : List X) (y : X) → Contains xs y → Contains (x ∷ xs) y
tail-in x xs y has = Contains-append_right (x ∷ []) xs y has

pub in-cons : {X : Type 0} (x : X) (xs : List X) (y : X) → Contains (x ∷ xs) y → (x ≡ y) ⊎ Contains xs y
in-cons x xs y has = by (Contains-append_cases (x ∷ []) xs y has)
  where
    one : Contains [] y ⊎ (x ≡ y) → (x ≡ y) ⊎ Contains xs y
    one (inl none) = absurd (omega (arith, none.1))
    one (inr same) = inl same

    by : Contains (x ∷ []) y ⊎ Contains xs y → (x ≡ y) ⊎ Contains xs y
    by (inl first) = one (Contains-push_cases [] x y first)
    by (inr rest) = inr rest

in-flat : {X Y : Type 0} (f : X → List Y) (xs : List X) (x : X) (y : Y) → Contains xs x → Contains (f x) y
    → Contains (flat_map f xs) y
in-flat f [] x y has there = absurd (omega (arith, has.1))
in-flat f (z ∷ xs) x y has there =
    subst (λ ys. Contains ys y) (sym (flat_map-cons f z xs)) (by (in-cons z xs x has)
    (λ rest. in-flat f xs x y rest there))
  where
    by : (z ≡ x) ⊎ Contains xs x → (Contains xs x → Contains (flat_map f xs) y)
        → Contains (f z ++ flat_map f xs) y
    by (inl same) rest = Contains-append_left (f z) (flat_map f xs) y
        (subst (λ w. Contains (f w) y) (sym same) there)
    by (inr has) rest = Contains-append_right (f z) (flat_map f xs) y (rest has)

-- ---- stretches

or-right : (b c : Bool) → c ≡ true → (b || c) ≡ true
or-right true c is = refl
or-right false c is = is

any-from : (p : ℕ → Bool) (before : List ℕ) (b : ℕ) (after : List ℕ) → p b ≡ true
    → list_any p (before ++ b ∷ after) ≡ true
any-from p [] b after is = ap (λ t. t || list_any p after) is
any-from p (x ∷ before) b after is = or-right (p x) (list_any p (before ++ b ∷ after))
    (any-from p before b after is)

none-pass : (p : ℕ → Bool) (xs : List ℕ) → list_any p xs ≡ false → All (λ x. p x ≡ false) xs
none-pass p [] none = All-nil (λ x. p x ≡ false)
none-pass p (x ∷ xs) none =
    let neither = or_false (p x) (list_any p xs) none in
    All-cons (λ x. p x ≡ false) x xs neither.0 (none-pass p xs neither.1)

sign-cuts : (b : ℕ) → is_sign b ≡ true → is_cut b ≡ true
sign-cuts b is = ap (λ t. t || is_blank_or_quote b) is

-- a word without a cut has no sign
no-signs : (word : List ℕ) → list_any is_cut word ≡ false → list_any is_sign word ≡ false
no-signs [] none = refl
no-signs (b ∷ word) none =
    let neither = or_false (is_cut b) (list_any is_cut word) none in
    or_of (is_sign b) (list_any is_sign word) (or_false (is_sign b) (is_blank_or_quote b) neither.0).0
    (no-signs word neither.1)

piece-in : (stretch : List ℕ) → stretch ≢ [] → Contains (pieces_in stretch) stretch
piece-in [] some = absurd (some refl)
piece-in (b ∷ stretch) some = head-in (b ∷ stretch) _

-- a stretch that is not empty is a piece
stretch-piece : (word stretch : List ℕ) → Contains (stretches_of word) stretch → stretch ≢ []
    → Contains (pieces_of word) stretch
stretch-piece word stretch has some =
    in-flat pieces_in (stretches_of word) stretch stretch has (piece-in stretch some)

abbrev cut-stretches : (word : List ℕ) → List (List ℕ)
cut-stretches word = word ∷ rests_of word ++ slice_split is_sign word ++ slice_split is_cut word

if-cut : (word : List ℕ) → list_any is_cut word ≡ true → stretches_of word ≡ cut-stretches word
if-cut word is = rw is refl

if-whole : (word : List ℕ) → list_any is_cut word ≡ false → stretches_of word ≡ word ∷ []
if-whole word is = rw is refl

module _ (word stretch : List ℕ) where
  abbrev rests : List (List ℕ)
  rests = rests_of word

  abbrev signed : List (List ℕ)
  signed = slice_split is_sign word

  abbrev cut : List (List ℕ)
  cut = slice_split is_cut word

  rest-in : list_any is_cut word ≡ true → Contains rests stretch → Contains (stretches_of word) stretch
  rest-in is has = subst (λ ss. Contains ss stretch) (sym (if-cut word is))
      (Contains-append_left ((word ∷ rests) ++ signed) cut stretch
      (Contains-append_left (word ∷ rests) signed stretch (tail-in word rests stretch has)))

  signed-in : Contains signed stretch → Contains (stretches_of word) stretch
  signed-in has = by (list_any is_cut word) refl
    where
      by : (t : Bool) → list_any is_cut word ≡ t → Contains (stretches_of word) stretch
      by true is = subst (λ ss. Contains ss stretch) (sym (if-cut word is))
          (Contains-append_left ((word ∷ rests) ++ signed) cut stretch
          (Contains-append_right (word ∷ rests) signed stretch has))
      by false is = subst (λ ss. Contains ss stretch)
          (slice_split_none is_sign word (none-pass is_sign word (no-signs word is)) ∙ sym (if-whole word is))
          has

  cut-in : Contains cut stretch → Contains (stretches_of word) stretch
  cut-in has = by (list_any is_cut word) refl
    where
      by : (t : Bool) → list_any is_cut word ≡ t → Contains (stretches_of word) stretch
      by true is = subst (λ ss. Contains ss stretch) (sym (if-cut word is))
          (Contains-append_right ((word ∷ rests) ++ signed) cut stretch has)
      by false is = subst (λ ss. Contains ss stretch)
          (slice_split_none is_cut word (none-pass is_cut word is) ∙ sym (if-whole word is)) has

-- ---- the rest after a sign

if-sign : (b : ℕ) (word : List ℕ) → is_sign b ≡ true → rests_of (b ∷ word) ≡ word ∷ rests_of word
if-sign b word is = rw is refl

rest-at : (before piece : List ℕ) (sign : ℕ) → is_sign sign ≡ true
    → Contains (rests_of (before ++ sign ∷ piece)) piece
rest-at [] piece sign is = subst (λ rs. Contains rs piece) (sym (if-sign sign piece is))
    (head-in piece (rests_of piece))
rest-at (b ∷ before) piece sign is =
    Contains-append_right _ (rests_of (before ++ sign ∷ piece)) piece (rest-at before piece sign is)

pub rests-are : RestsArePieces
rests-are before piece sign is some =
    let word = before ++ sign ∷ piece in
    stretch-piece word piece
    (rest-in word piece (any-from is_cut before sign piece (sign-cuts sign is))
    (rest-at before piece sign is))
    some

-- ---- the text between two bytes of a kind

module _ (p : ℕ → Bool) (piece : List ℕ) (none : list_any p piece ≡ false) where
  -- at the front
  ends-there : (after : List ℕ) → (after ≡ []) ⊎ (begins_with p after ≡ true)
      → Contains (slice_split p (piece ++ after)) piece
  ends-there [] is = subst (λ ss. Contains ss piece)
      (sym (slice_split_none p piece (none-pass p piece none))
      ∙ ap (slice_split p) (sym (append-nil piece)))
      (head-in piece [])
  ends-there (b ∷ after) (inl none) = absurd (cc)
  ends-there (b ∷ after) (inr is) = subst (λ ss. Contains ss piece)
      (sym (slice_split_at p piece b after (none-pass p piece none) is))
      (head-in piece (slice_split p after))

  between : (word : List ℕ) → IsBetween p piece word → Contains (slice_split p word) piece
  between word is = subst (λ w. Contains (slice_split p w) piece) (sym is.is_there) (by is.begins)
    where
      rest : Contains (slice_split p (piece ++ is.after)) piece
      rest = ends-there is.after is.ends

      by : (is.before ≡ []) ⊎ ((front : List ℕ) × (b : ℕ) × (p b ≡ true) × (is.before ≡ front ++ b ∷ []))
          → Contains (slice_split p (is.before ++ piece ++ is.after)) piece
      by (inl front) = subst (λ bs. Contains (slice_split p (bs ++ piece ++ is.after)) piece) (sym front) rest
      by (inr (front, b, cuts, same)) =
          subst (λ w. Contains (slice_split p w) piece)
          (sym (ap (λ bs. bs ++ piece ++ is.after) same
          ∙ ap (λ bs. bs ++ is.after) (append_assoc front (b ∷ []) piece)
          ∙ append_assoc front (b ∷ piece) is.after))
          (subst (λ ss. Contains ss piece) (sym (split-append p front b (piece ++ is.after) cuts))
          (Contains-append_right (slice_split p front) (slice_split p (piece ++ is.after)) piece rest))

pub between-signs : PiecesBetweenSigns
between-signs piece word some is =
    stretch-piece word piece (signed-in word piece (between is_sign piece is.has_none word is)) some

pub between-cuts : PiecesBetweenCuts
between-cuts piece word some is =
    stretch-piece word piece (cut-in word piece (between is_cut piece is.has_none word is)) some

-- ---- all stretches

pub all-pieces : (held stretches : List (Bor (List ℕ))) (index : ℕ) (word : List ℕ) → stretches ≡ held
    → length stretches ≤ index → map (λ stretch. stretch.now) held ≡ stretches_of word
    → flat_map (λ stretch. pieces_in stretch.now) (take index stretches) ≡ pieces_of word
all-pieces held stretches index word same all are =
    ap (flat_map (λ stretch. pieces_in stretch.now)) (take_all index stretches all ∙ same)
    ∙ sym (flat_map-map pieces_in (λ stretch. stretch.now) held) ∙ ap (flat_map pieces_in) are
