-- Rows of numbers beside names.
use Rattle.std.proofs.Common.{◌≡◌, ◌<◌, zero, suc, ℕ, Bool, true, false, cond, List, [], ◌∷◌, ◌++◌, length}
use Rattle.std.proofs.Common.{get_or, set}
use Rattle.std.proofs.Common.{◌||◌, refl, sym, ap, ◌∙◌, arith, Some}
use Rattle.std.proofs.Common.{Vec, Global, map}
use Rattle.std.specs.Prelude.{bytes_eq, position}
use Rattle.std.proofs.lemmas.List.{get_or-map, length-map, map-set}
use Rattle.std.specs.List.{AllByRecursion, IsDistinct, list_any}
use Rattle.std.proofs.lemmas.List.Quantifiers.{position-Some}
use Rattle.std.proofs.lemmas.Slice.Eq.{bytes_eq-Decides}
use Rattle.nj_chosen.specs.Inside.Numbers.{row_beside}

same-bytes : (xs ys : List ℕ) → bytes_eq xs ys ≡ true → xs ≡ ys
same-bytes xs ys is = (bytes_eq-Decides xs ys).0 is

or_false : (b c : Bool) → (b || c) ≡ false → (b ≡ false) × (c ≡ false)
or_false true c none = absurd (cc)
or_false false c none = (refl, none)

-- a name differs from those after it
apart : (n : List ℕ) (names : List (List ℕ)) (place : ℕ) → place < length names
    → AllByRecursion (λ y. bytes_eq n y ≡ false) names → bytes_eq n (get_or names place []) ≡ false
apart n [] place below all = absurd (omega (arith, below))
apart n (m ∷ names) zero below all = all.0
apart n (m ∷ names) (suc place) below all = apart n names place (omega (arith, below)) all.1

-- the row at the place of a name is beside it
pub row-at : (names : List (List ℕ)) (rows : List (List ℕ)) (place : ℕ) → length names ≡ length rows
    → place < length names → IsDistinct bytes_eq names
    → row_beside names rows (get_or names place []) ≡ get_or rows place []
unfolding IsDistinct
row-at [] rows place same below distinct = absurd (omega (arith, below))
row-at (n ∷ names) [] place same below distinct = absurd (omega (arith, same))
row-at (n ∷ names) (row ∷ rows) zero same below distinct =
    ap (λ b. cond b row (row_beside names rows n)) ((bytes_eq-Decides n n).1 refl)
row-at (n ∷ names) (row ∷ rows) (suc place) same below distinct =
    let within : place < length names = omega (arith, below) in
    ap (λ b. cond b row (row_beside names rows (get_or names place [])))
    (flipped (get_or names place []) n (apart n names place within distinct.0))
    ∙ row-at names rows place (omega (arith, same)) within distinct.1
  where
    flipped : (xs ys : List ℕ) → bytes_eq ys xs ≡ false → bytes_eq xs ys ≡ false
    flipped xs ys differs = by (bytes_eq xs ys) refl
      where
        by : (b : Bool) → bytes_eq xs ys ≡ b → b ≡ false
        by false is = refl
        by true is =
            let equal : bytes_eq ys xs ≡ true = (bytes_eq-Decides ys xs).1 (sym (same-bytes xs ys is)) in
            absurd (cc)

-- another row at the place of a name
pub row-set : (names : List (List ℕ)) (rows : List (List ℕ)) (place : ℕ) (row other : List ℕ)
    → length names ≡ length rows → place < length names → IsDistinct bytes_eq names
    → row_beside names (set rows place row) other
    ≡ cond (bytes_eq other (get_or names place [])) row (row_beside names rows other)
unfolding IsDistinct
row-set [] rows place row other same below distinct = absurd (omega (arith, below))
row-set (n ∷ names) [] place row other same below distinct = absurd (omega (arith, same))
row-set (n ∷ names) (q ∷ rows) zero row other same below distinct = by (bytes_eq other n)
  where
    by : (b : Bool) → cond b row (row_beside names rows other)
        ≡ cond b row (cond b q (row_beside names rows other))
    by true = refl
    by false = refl
row-set (n ∷ names) (q ∷ rows) (suc place) row other same below distinct =
    let within : place < length names = omega (arith, below) in
    ap (cond (bytes_eq other n) q) (row-set names rows place row other (omega (arith, same)) within
    distinct.1)
    ∙ by (bytes_eq other n) (bytes_eq other (get_or names place [])) refl refl
  where
    by : (b c : Bool) → bytes_eq other n ≡ b → bytes_eq other (get_or names place []) ≡ c
        → cond b q (cond c row (row_beside names rows other))
        ≡ cond c row (cond b q (row_beside names rows other))
    by false c is also = refl
    by true false is also = refl
    by true true is also =
        let differs = apart n names place (omega (arith, below)) distinct.0 in
        let one : other ≡ n = same-bytes other n is in
        let two : other ≡ get_or names place [] = same-bytes other (get_or names place []) also in
        let equal : bytes_eq n (get_or names place []) ≡ true =
        (bytes_eq-Decides n (get_or names place [])).1 (sym one ∙ two) in
        absurd (cc)

-- a missing name has nothing beside it
pub row-none : (names : List (List ℕ)) (rows : List (List ℕ)) (name : List ℕ)
    → list_any (bytes_eq name) names ≡ false → row_beside names rows name ≡ []
row-none [] rows name none = refl
row-none (n ∷ names) [] name none = refl
row-none (n ∷ names) (row ∷ rows) name none = by (bytes_eq name n) refl none (row-none names rows name)
  where
    by : (b : Bool) → bytes_eq name n ≡ b → (b || list_any (bytes_eq name) names) ≡ false
        → (list_any (bytes_eq name) names ≡ false → row_beside names rows name ≡ [])
        → cond b row (row_beside names rows name) ≡ []
    by true is others go = absurd (cc)
    by false is others go = go others

-- a new name with a row
pub row-push : (names : List (List ℕ)) (rows : List (List ℕ)) (name row other : List ℕ)
    → length names ≡ length rows → list_any (bytes_eq name) names ≡ false
    → row_beside (names ++ name ∷ []) (rows ++ row ∷ []) other
    ≡ cond (bytes_eq other name) row (row_beside names rows other)
row-push [] [] name row other same new = refl
row-push [] (q ∷ rows) name row other same new = absurd (omega (arith, same))
row-push (n ∷ names) [] name row other same new = absurd (omega (arith, same))
row-push (n ∷ names) (q ∷ rows) name row other same new =
    let both = or_false (bytes_eq name n) (list_any (bytes_eq name) names) new in
    ap (cond (bytes_eq other n) q) (row-push names rows name row other (omega (arith, same)) both.1)
    ∙ by (bytes_eq other n) (bytes_eq other name) refl refl both.0
  where
    by : (b c : Bool) → bytes_eq other n ≡ b → bytes_eq other name ≡ c → bytes_eq name n ≡ false
        → cond b q (cond c row (row_beside names rows other))
        ≡ cond c row (cond b q (row_beside names rows other))
    by false c is also differs = refl
    by true false is also differs = refl
    by true true is also differs =
        let equal : bytes_eq name n ≡ true =
        (bytes_eq-Decides name n).1 (sym (same-bytes other name also) ∙ same-bytes other n is) in
        absurd (cc)

-- ---- the numbers under names

-- where a name is
found-name : (names : List (List ℕ)) (name : List ℕ) (place : ℕ) → position (bytes_eq name) names ≡ Some place
    → (place < length names) × (get_or names place [] ≡ name)
found-name names name place is =
    let found = position-Some (bytes_eq name) names place [] is in
    (found.0, sym (same-bytes name (get_or names place []) found.1))

module _ (names rows new : List (List ℕ)) (name : List ℕ) (place : ℕ) (same : length names ≡ length rows)
    (distinct : IsDistinct bytes_eq names) (is : position (bytes_eq name) names ≡ Some place) where
  -- the row at its place
  pub known_taken : get_or rows place [] ≡ row_beside names rows name
  known_taken =
      let found = found-name names name place is in
      sym (row-at names rows place same found.0 distinct) ∙ ap (row_beside names rows) found.1

  pub known_left : (row : List ℕ) → new ≡ set rows place row → (other : List ℕ)
      → row_beside names new other ≡ cond (bytes_eq other name) row (row_beside names rows other)
  known_left row is_new other =
      let found = found-name names name place is in
      ap (λ rs. row_beside names rs other) is_new ∙ row-set names rows place row other same found.0 distinct
      ∙ ap (λ n. cond (bytes_eq other n) row (row_beside names rows other)) found.1

  pub known_added : (number : ℕ) → new ≡ set rows place (get_or rows place [] ++ number ∷ [])
      → (other : List ℕ)
      → row_beside names new other
      ≡ cond (bytes_eq other name) (row_beside names rows other ++ number ∷ []) (row_beside names rows other)
  known_added number is_new other =
      known_left (get_or rows place [] ++ number ∷ []) is_new other
      ∙ by (bytes_eq other name) refl
    where
      by : (b : Bool) → bytes_eq other name ≡ b
          → cond b (get_or rows place [] ++ number ∷ []) (row_beside names rows other)
          ≡ cond b (row_beside names rows other ++ number ∷ []) (row_beside names rows other)
      by false apart = refl
      by true equal = ap (λ row. row ++ number ∷ [])
          (known_taken ∙ ap (row_beside names rows) (sym (same-bytes other name equal)))

module _ (names rows : List (List ℕ)) (name : List ℕ) (none : list_any (bytes_eq name) names ≡ false) where
  pub none_taken : [] ≡ row_beside names rows name
  none_taken = sym (row-none names rows name none)

  pub none_left : (other : List ℕ)
      → row_beside names rows other ≡ cond (bytes_eq other name) [] (row_beside names rows other)
  none_left other = by (bytes_eq other name) refl
    where
      by : (b : Bool) → bytes_eq other name ≡ b
          → row_beside names rows other ≡ cond b [] (row_beside names rows other)
      by false apart = refl
      by true equal = ap (row_beside names rows) (same-bytes other name equal) ∙ row-none names rows name none

  pub new_added : (number : ℕ) (added new : List (List ℕ)) → length names ≡ length rows
      → added ≡ names ++ name ∷ [] → new ≡ rows ++ (number ∷ []) ∷ [] → (other : List ℕ)
      → row_beside added new other
      ≡ cond (bytes_eq other name) (row_beside names rows other ++ number ∷ []) (row_beside names rows other)
  new_added number added new same is_added is_new other =
      ap (λ ns. row_beside ns new other) is_added ∙ ap (λ rs. row_beside (names ++ name ∷ []) rs other) is_new
      ∙ row-push names rows name (number ∷ []) other same none ∙ by (bytes_eq other name) refl
    where
      by : (b : Bool) → bytes_eq other name ≡ b
          → cond b (number ∷ []) (row_beside names rows other)
          ≡ cond b (row_beside names rows other ++ number ∷ []) (row_beside names rows other)
      by false apart = refl
      by true equal = ap (λ row. row ++ number ∷ [])
          (none_taken ∙ ap (row_beside names rows) (sym (same-bytes other name equal)))

-- ---- rows of the code

pub row-pushed : (rows : List (Vec ℕ Global)) (place number : ℕ) (old new : Vec ℕ Global)
    → place < length rows
    → old ≡ get_or rows place old → new.items ≡ old.items ++ number ∷ []
    → map (λ (row : Vec ℕ Global). row.items) (set rows place new)
    ≡ set (map (λ (row : Vec ℕ Global). row.items) rows) place
    (get_or (map (λ (row : Vec ℕ Global). row.items) rows) place [] ++ number ∷ [])
row-pushed rows place number old new below at is =
    map-set (λ (row : Vec ℕ Global). row.items) rows place new
    ∙ ap (set (map (λ (row : Vec ℕ Global). row.items) rows) place) (is ∙ ap (λ row. row ++ number ∷ [])
    (ap (λ (row : Vec ℕ Global). row.items) at
    ∙ sym (get_or-map (λ (row : Vec ℕ Global). row.items) rows place old [] below)))

pub row-emptied : (rows : List (Vec ℕ Global)) (place : ℕ) (new : Vec ℕ Global) → new.items ≡ []
    → map (λ (row : Vec ℕ Global). row.items) (set rows place new)
    ≡ set (map (λ (row : Vec ℕ Global). row.items) rows) place []
row-emptied rows place new is =
    map-set (λ (row : Vec ℕ Global). row.items) rows place new
    ∙ ap (set (map (λ (row : Vec ℕ Global). row.items) rows) place) is

pub same-count : (names : List (List ℕ)) (rows : List (Vec ℕ Global)) → length names ≡ length rows
    → length names ≡ length (map (λ (row : Vec ℕ Global). row.items) rows)
same-count names rows same = same ∙ sym (length-map rows (λ (row : Vec ℕ Global). row.items))
