-- Tests by the names to which they answer.
use Rattle.std.proofs.Common.{◌≡◌, ◌<◌, ◌≤◌, ◌+◌, ◌||◌, ◌⊎◌, inl, inr, ℕ, Bool, true, false, cond}
use Rattle.std.proofs.Common.{List, []}
use Rattle.std.proofs.Common.{◌∷◌, ◌++◌, map, length, take, get_or, refl, sym, ap, subst, ◌∙◌, arith}
use Rattle.std.proofs.Common.{String, Global, string_bytes}
use Rattle.std.specs.Prelude.{Contains, bytes_eq}
use Rattle.std.specs.List.{list_any}
use Rattle.std.proofs.lemmas.Bool.{cases_lt, or_cases}
use Rattle.std.proofs.lemmas.List.{get_or_append_left, get_or_past, get_or_push, length_push, length-map}
use Rattle.std.proofs.lemmas.List.{length-take-le, map_more, map_push, take_all}
use Rattle.std.proofs.lemmas.List.Elements.{Contains-append_left, Contains-push, Contains-push_cases}
use Rattle.std.proofs.lemmas.List.Folds.{list_any-append}
use Rattle.std.proofs.lemmas.Slice.Eq.{bytes_eq-Decides}
use Rattle.nj_names.specs.NameTables.{is_among}
use Rattle.nj_names.specs.NumberSets.{NumberSetModel}
use Rattle.nj_tests.specs.Tests.{TestModel, test_model}
use Rattle.nj_tests.specs.declared.test.Test.{Test}
use Rattle.nj_chosen.specs.Inside.Numbers.{NumbersModel, numbers_at, HasNumber, AreBelow, AddsNumber}
use Rattle.nj_chosen.specs.Inside.Bringing.{AreAnswers, AnswersOne, FindsMore, HasAll, answers}
use Rattle.nj_chosen.proofs.FindLemmas.{finds-same, finds-then, found-stays}

-- ---- tests

or-left : (b c : Bool) → b ≡ true → (b || c) ≡ true
or-left b c is = ap (λ x. x || c) is

or-right : (b c : Bool) → c ≡ true → (b || c) ≡ true
or-right true c is = refl
or-right false c is = is

or-none : (b : Bool) → (b || false) ≡ b
or-none true = refl
or-none false = refl

pub same-bytes : (xs ys : List ℕ) → bytes_eq xs ys ≡ true → xs ≡ ys
same-bytes xs ys is = (bytes_eq-Decides xs ys).0 is

none-in : (n : ℕ) → Contains [] n → ⊥
none-in n has = absurd (omega (arith, has.1))

-- a test that answers is one of the tests
pub answers-below : (rows : List (List (List ℕ))) (name : List ℕ) (n : ℕ) → answers rows name n ≡ true
    → n < length rows
answers-below rows name n is = elim (cases_lt n (length rows)) [
  | inl below ↦ below
  | inr past ↦
      let none : get_or rows n [] ≡ [] = get_or_past rows n [] past in
      let not_so : answers rows name n ≡ false = ap (λ row. is_among row name) none in
      absurd (cc)
]

-- ---- numbers under names

-- after the numbers under a name were taken
module _ (old new : NumbersModel) (name : List ℕ)
    (left : (other : List ℕ) → numbers_at new other ≡ cond (bytes_eq other name) [] (numbers_at old other))
  where
    pub taken-was : (other : List ℕ) (n : ℕ) → HasNumber new other n → HasNumber old other n
    taken-was other n has = by (bytes_eq other name) refl (subst (λ ns. Contains ns n) (left other) has)
      where
        by : (b : Bool) → bytes_eq other name ≡ b → Contains (cond b [] (numbers_at old other)) n
            → HasNumber old other n
        by true same none = absurd (none-in n none)
        by false apart was = was

    taken-cases : (other : List ℕ) (n : ℕ) → HasNumber old other n
        → HasNumber new other n ⊎ (HasNumber old name n)
    taken-cases other n has = by (bytes_eq other name) refl
      where
        by : (b : Bool) → bytes_eq other name ≡ b → HasNumber new other n ⊎ (HasNumber old name n)
        by true same = inr (subst (λ m. HasNumber old m n) (same-bytes other name same) has)
        by false apart = inl (subst (λ ns. Contains ns n)
            (sym (left other ∙ ap (λ b. cond b [] (numbers_at old other)) apart)) has)

    pub below-taken : (limit : ℕ) → AreBelow limit old → AreBelow limit new
    below-taken limit below other n has = below other n (taken-was other n has)

    module _ (rows : List (List (List ℕ))) (found after : NumberSetModel)
        (are : AreAnswers rows old found.numbers) (finds : FindsMore (HasNumber old name) found after) where
      pub answers-taken : AreAnswers rows new after.numbers
      answers-taken = record {
        answer = λ other n has. are.answer other n (taken-was other n has);
        left = λ other n is. elim (are.left other n is) [
          | inl has ↦ elim (taken-cases other n has)
              [ inl stays ↦ inl stays | inr took ↦ inr (finds.all n took) ]
          | inr was ↦ inr (found-stays (HasNumber old name) found after finds n was)
        ];
      }

      pub finds-taken : FindsMore (λ n. answers rows name n ≡ true) found after
      finds-taken = finds-same (HasNumber old name) (λ n. answers rows name n ≡ true) found after
          (λ n has. are.answer name n has) (λ n is. are.left name n is) finds

-- more is found
pub answers-kept : (rows : List (List (List ℕ))) (numbers : NumbersModel) (P : ℕ → Type 0)
    (found after : NumberSetModel) → FindsMore P found after → AreAnswers rows numbers found.numbers
    → AreAnswers rows numbers after.numbers
answers-kept rows numbers P found after finds are = record {
  answer = are.answer;
  left = λ name n is. elim (are.left name n is)
      [ inl has ↦ inl has | inr was ↦ inr (found-stays P found after finds n was) ];
}

-- one more name
pub finds-name : (rows : List (List (List ℕ))) (names more : List (List ℕ)) (name : List ℕ)
    (first old new : NumberSetModel) → more ≡ names ++ name ∷ [] → FindsMore (AnswersOne rows names) first old
    → FindsMore (λ n. answers rows name n ≡ true) old new → FindsMore (AnswersOne rows more) first new
finds-name rows names more name first old new is a b =
    finds-then (AnswersOne rows names) (λ n. answers rows name n ≡ true) (AnswersOne rows more) first old new
    (λ n one. split n ∙ or-left (one-of names n) (answers rows name n) one)
    (λ n one. split n ∙ or-right (one-of names n) (answers rows name n) one)
    (λ n one. or_cases (one-of names n) (answers rows name n) (sym (split n) ∙ one))
    a b
  where
    one-of : List (List ℕ) → ℕ → Bool
    one-of ns n = list_any (λ name. answers rows name n) ns

    split : (n : ℕ) → list_any (λ name. answers rows name n) more
        ≡ (list_any (λ name. answers rows name n) names || answers rows name n)
    split n = ap (list_any (λ name. answers rows name n)) is
        ∙ list_any-append (λ name. answers rows name n) names (name ∷ [])
        ∙ ap (λ b. list_any (λ name. answers rows name n) names || b) (or-none (answers rows name n))

-- ---- numbers come under names

among-split : (names : List (List ℕ)) (name other : List ℕ)
    → is_among (names ++ name ∷ []) other ≡ (is_among names other || bytes_eq other name)
among-split names name other = list_any-append (bytes_eq other) names (name ∷ [])
    ∙ ap (λ b. is_among names other || b) (or-none (bytes_eq other name))

-- a number came under one more name
pub adds-next : (names more : List (List ℕ)) (name : List ℕ) (number : ℕ) (first old new : NumbersModel)
    → more ≡ names ++ name ∷ [] → AddsNumber names number first old
    → ((other : List ℕ) → numbers_at new other
    ≡ cond (bytes_eq other name) (numbers_at old other ++ number ∷ []) (numbers_at old other))
    → AddsNumber more number first new
adds-next names more name number first old new is adds at = record {
  kept = λ other n has. stays other n (adds.kept other n has);
  added = λ other among. elim (or_cases (is_among names other) (bytes_eq other name)
      (sym (split other) ∙ among)) [
        | inl before ↦ stays other number (adds.added other before)
        | inr same ↦ subst (λ ns. Contains ns number)
            (sym (at other ∙ ap (λ b. cond b (numbers_at old other ++ number ∷ []) (numbers_at old other))
            same))
            (Contains-push (numbers_at old other) number)
      ];
  fresh = λ other n has. by other n (bytes_eq other name) refl (subst (λ ns. Contains ns n) (at other) has);
}
  where
    split : (other : List ℕ) → is_among more other ≡ (is_among names other || bytes_eq other name)
    split other = ap (λ ns. is_among ns other) is ∙ among-split names name other

    stays : (other : List ℕ) (n : ℕ) → HasNumber old other n → HasNumber new other n
    stays other n has = there (bytes_eq other name) refl
      where
        there : (b : Bool) → bytes_eq other name ≡ b → HasNumber new other n
        there true same = subst (λ ns. Contains ns n)
            (sym (at other ∙ ap (λ b. cond b (numbers_at old other ++ number ∷ []) (numbers_at old other))
            same))
            (Contains-append_left (numbers_at old other) (number ∷ []) n has)
        there false apart = subst (λ ns. Contains ns n)
            (sym (at other ∙ ap (λ b. cond b (numbers_at old other ++ number ∷ []) (numbers_at old other))
            apart))
            has

    before : (other : List ℕ) (n : ℕ) → HasNumber old other n
        → HasNumber first other n ⊎ ((n ≡ number) × (is_among more other ≡ true))
    before other n has = elim (adds.fresh other n has) [
      | inl was ↦ inl was
      | inr both ↦ inr (both.0, split other ∙ or-left (is_among names other) (bytes_eq other name) both.1)
    ]

    by : (other : List ℕ) (n : ℕ) (b : Bool) → bytes_eq other name ≡ b
        → Contains (cond b (numbers_at old other ++ number ∷ []) (numbers_at old other)) n
        → HasNumber first other n ⊎ ((n ≡ number) × (is_among more other ≡ true))
    by other n true same has = elim (Contains-push_cases (numbers_at old other) number n has) [
      | inl was ↦ before other n was
      | inr now ↦ inr (sym now, split other ∙ or-right (is_among names other) (bytes_eq other name) same)
    ]
    by other n false apart has = before other n has

-- without names nothing is added
pub adds-none : (number : ℕ) (numbers : NumbersModel) → AddsNumber [] number numbers numbers
adds-none number numbers = record {
  kept = λ name n has. has;
  added = λ name among. absurd (cc);
  fresh = λ name n has. inl has;
}

-- a number came under some names and then under others
pub adds-both : (names others : List (List ℕ)) (number : ℕ) (old mid new : NumbersModel)
    → AddsNumber names number old mid → AddsNumber others number mid new
    → AddsNumber (names ++ others) number old new
adds-both names others number old mid new a b = record {
  kept = λ name n has. b.kept name n (a.kept name n has);
  added = λ name among. elim (or_cases (is_among names name) (is_among others name)
      (sym (list_any-append (bytes_eq name) names others) ∙ among)) [
        | inl first ↦ b.kept name number (a.added name first)
        | inr second ↦ b.added name second
      ];
  fresh = λ name n has. elim (b.fresh name n has) [
    | inl before ↦ elim (a.fresh name n before) [
      | inl was ↦ inl was
      | inr both ↦ inr (
        both.0,
        list_any-append (bytes_eq name) names others
            ∙ or-left (is_among names name) (is_among others name) both.1,
      )
    ]
    | inr both ↦ inr (
      both.0,
      list_any-append (bytes_eq name) names others
          ∙ or-right (is_among names name) (is_among others name) both.1,
    )
  ];
}

-- ---- all tests

pub all-none : (numbers : NumbersModel) → ((name : List ℕ) → numbers_at numbers name ≡ []) → HasAll [] numbers
all-none numbers none name n = (
  λ has. absurd (none-in n (subst (λ ns. Contains ns n) (none name) has)),
  λ is. absurd (cc),
)

-- one more test
pub all-next : (rows : List (List (List ℕ))) (names : List (List ℕ)) (number : ℕ) (old new : NumbersModel)
    → number ≡ length rows → HasAll rows old → AddsNumber names number old new
    → HasAll (rows ++ names ∷ []) new
all-next rows names number old new is all adds name n = (to, back)
  where
    here : n < length rows → answers (rows ++ names ∷ []) name n ≡ answers rows name n
    here below = ap (λ row. is_among row name) (get_or_append_left rows (names ∷ []) [] n below)

    last : n ≡ length rows → answers (rows ++ names ∷ []) name n ≡ is_among names name
    last same = ap (λ row. is_among row name) (ap (λ m. get_or (rows ++ names ∷ []) m []) same
        ∙ get_or_push rows names [] (length rows) (omega arith))

    to : HasNumber new name n → answers (rows ++ names ∷ []) name n ≡ true
    to has = elim (adds.fresh name n has) [
      | inl was ↦ let was_so = (all name n).0 was in here (answers-below rows name n was_so) ∙ was_so
      | inr both ↦ last (both.0 ∙ is) ∙ both.1
    ]

    back : answers (rows ++ names ∷ []) name n ≡ true → HasNumber new name n
    back so = elim (cases_lt n (length rows)) [
      | inl below ↦ adds.kept name n ((all name n).1 (sym (here below) ∙ so))
      | inr past ↦
          let within : n < length (rows ++ names ∷ []) = answers-below (rows ++ names ∷ []) name n so in
          let same : n ≡ length rows = omega (arith, past, within, length_push rows names) in
          subst (HasNumber new name) (is ∙ sym same)
          (adds.added name (sym (last same) ∙ so))
    ]

-- the answers of all tests, if none was found yet
pub all-answers : (rows : List (List (List ℕ))) (numbers : NumbersModel) → HasAll rows numbers
    → AreAnswers rows numbers []
all-answers rows numbers all = record {
  answer = λ name n has. (all name n).0 has;
  left = λ name n is. inl ((all name n).1 is);
}

-- ---- lists of the code

pub names-more : (names : List (String Global)) (i : ℕ) (d : String Global) (bytes : List ℕ)
    → i < length names
    → bytes ≡ string_bytes (get_or names i d)
    → map string_bytes (take (i + 1) names) ≡ map string_bytes (take i names) ++ bytes ∷ []
names-more names i d bytes below is =
    map_more string_bytes names i d below ∙ ap (λ b. map string_bytes (take i names) ++ b ∷ []) (sym is)

pub all-step : (f : TestModel → List (List ℕ)) (tests : List Test) (i : ℕ) (d : Test) (old new : NumbersModel)
    → i < length tests → HasAll (map f (map test_model (take i tests))) old
    → AddsNumber (f (test_model (get_or tests i d))) i old new
    → HasAll (map f (map test_model (take (i + 1) tests))) new
all-step f tests i d old new below all adds =
    subst (λ rows. HasAll rows new) (sym more)
    (all-next (map f (map test_model (take i tests))) (f (test_model (get_or tests i d))) i old new count all
    adds)
  where
    more : map f (map test_model (take (i + 1) tests))
        ≡ map f (map test_model (take i tests)) ++ f (test_model (get_or tests i d)) ∷ []
    more = ap (map f) (map_more test_model tests i d below)
        ∙ map_push f (map test_model (take i tests)) (test_model (get_or tests i d))

    count : i ≡ length (map f (map test_model (take i tests)))
    count = sym (length-map (map test_model (take i tests)) f ∙ length-map (take i tests) test_model
        ∙ length-take-le i tests (omega (arith, below)))

pub all-tests : (f : TestModel → List (List ℕ)) (tests : List Test) (i : ℕ) (numbers : NumbersModel)
    → length tests ≤ i → HasAll (map f (map test_model (take i tests))) numbers
    → HasAll (map f (map test_model tests)) numbers
all-tests f tests i numbers past all =
    subst (λ ts. HasAll (map f (map test_model ts)) numbers) (take_all i tests past) all

pub finds-each : (rows : List (List (List ℕ))) (names : List (String Global)) (i : ℕ)
    (first found : NumberSetModel) → length names ≤ i
    → FindsMore (AnswersOne rows (map string_bytes (take i names))) first found
    → FindsMore (AnswersOne rows (map string_bytes names)) first found
finds-each rows names i first found past finds =
    subst (λ ns. FindsMore (AnswersOne rows (map string_bytes ns)) first found) (take_all i names past) finds
