-- How the tests that others bring are found.
use Rattle.std.proofs.Common.{◌≡◌, ◌<◌, ◌≤◌, ◌+◌, ◌||◌, ◌⊎◌, ◌↔◌, inl, inr, ℕ, Bool, true, false, List, []}
use Rattle.std.proofs.Common.{◌∷◌}
use Rattle.std.proofs.Common.{◌++◌, map, length, get_or, refl, sym, ap, subst, ◌∙◌, arith, Some}
use Rattle.std.specs.Prelude.{Contains, slice_get, slice_index}
use Rattle.std.specs.List.{list_any}
use Rattle.std.proofs.lemmas.Bool.{cases_lt}
use Rattle.std.proofs.lemmas.List.{get_or-map, get_or_append_left, get_or_default, length-append}
use Rattle.std.proofs.lemmas.List.{length-map}
use Rattle.std.proofs.lemmas.Option.{slice_get_within, slice_get-get_or, get_or_from_slice_get}
use Rattle.nj_names.specs.NameTables.{is_among}
use Rattle.nj_names.specs.NumberSets.{NumberSetModel}
use Rattle.nj_tests.specs.Tests.{TestModel, test_model}
use Rattle.nj_tests.specs.declared.test.Test.{Test}
use Rattle.nj_chosen.specs.Inside.Numbers.{AreBelow}
use Rattle.nj_chosen.specs.declared.brought.Way.{Way}
use Rattle.nj_chosen.specs.declared.brought.Answers.{Answers}
use Rattle.nj_chosen.specs.Chosen.{IsBrought, answered_fixtures, answered_tests, brings, called_fixtures}
use Rattle.nj_chosen.specs.Chosen.{called_tests}
use Rattle.nj_chosen.specs.Chosen.IsBrought.{by_itself, by_other}
use Rattle.nj_chosen.specs.Inside.Bringing.{AnswersOne, AreAllAnswers, Brings, FindsBrought, FindsMore}
use Rattle.nj_chosen.specs.Inside.Bringing.{answers, fixture_rows, test_at, test_rows}
use Rattle.nj_chosen.proofs.AnswerLemmas.{answers-below}
use Rattle.nj_chosen.proofs.FindLemmas.{finds-then, found-stays}

-- the test with the given number
test-got : (tests : List TestModel) (n : ℕ) → n < length tests → slice_get tests n ≡ Some (test_at tests n)
test-got tests n below = slice_get-get_or tests n _ below

got-test : (tests : List TestModel) (n : ℕ) (test : TestModel) → slice_get tests n ≡ Some test
    → test_at tests n ≡ test
got-test tests n test got = get_or_from_slice_get tests n test _ got

-- the same for the code
pub model-at : (tests : List Test) (n : ℕ) (d : Test) → n < length tests → d ≡ get_or tests n d
    → test_model d ≡ test_at (map test_model tests) n
model-at tests n d below is = ap test_model is ∙ sym (get_or-map test_model tests n d _ below)

or-cases : (b c : Bool) → (b || c) ≡ true → (b ≡ true) ⊎ (c ≡ true)
or-cases true c is = inl refl
or-cases false c is = inr is

rows-below : (rows : List (List (List ℕ))) (n : ℕ) (names : List (List ℕ)) → AnswersOne rows names n
    → n < length rows
rows-below rows n [] one = absurd (cc)
rows-below rows n (name ∷ names) one =
    elim (or-cases (answers rows name n) (list_any (λ m. answers rows m n) names) one)
    [ inl is ↦ answers-below rows name n is | inr rest ↦ rows-below rows n names rest ]

-- a test answers to one of the given names
module _ (f : TestModel → List (List ℕ)) (tests : List TestModel) (names : List (List ℕ)) (n : ℕ) where
  one-below : AnswersOne (map f tests) names n → n < length tests
  one-below one = subst (λ m. n < m) (length-map tests f) (rows-below (map f tests) n names one)

  row-is : n < length tests → get_or (map f tests) n [] ≡ f (test_at tests n)
  row-is below = get_or-map f tests n _ [] below

  one-brings : AnswersOne (map f tests) names n → list_any (is_among (f (test_at tests n))) names ≡ true
  one-brings one = sym (ap (λ row. list_any (is_among row) names) (row-is (one-below one))) ∙ one

  brings-one : n < length tests → list_any (is_among (f (test_at tests n))) names ≡ true
      → AnswersOne (map f tests) names n
  brings-one below is = ap (λ row. list_any (is_among row) names) (row-is below) ∙ is

or-left : (b c : Bool) → b ≡ true → (b || c) ≡ true
or-left b c is = ap (λ x. x || c) is

or-right : (b c : Bool) → c ≡ true → (b || c) ≡ true
or-right true c is = refl
or-right false c is = is

module _ (way : Way) (tests : List TestModel) (caller : TestModel) where
  pub brought-below : (n : ℕ) → Brings way tests caller n → n < length tests
  brought-below n (inl one) = one-below (answered_fixtures way) tests (called_fixtures way caller) n one
  brought-below n (inr one) = one-below (answered_tests way) tests (called_tests way caller) n one

  is-brought : (n : ℕ) → Brings way tests caller n → brings way caller (test_at tests n) ≡ true
  is-brought n (inl one) = or-left _ _ (one-brings (answered_fixtures way) tests (called_fixtures way caller)
      n one)
  is-brought n (inr one) = or-right _ _ (one-brings (answered_tests way) tests (called_tests way caller) n
      one)

  brings-it : (n : ℕ) → n < length tests → brings way caller (test_at tests n) ≡ true
      → Brings way tests caller n
  brings-it n below is = elim (or-cases _ _ is) [
    | inl one ↦ inl (brings-one (answered_fixtures way) tests (called_fixtures way caller) n below one)
    | inr one ↦ inr (brings-one (answered_tests way) tests (called_tests way caller) n below one)
  ]

  -- by fixtures, and then by names
  pub finds-brought : (first middle last : NumberSetModel)
      → FindsMore (AnswersOne (fixture_rows way tests) (called_fixtures way caller)) first middle
      → FindsMore (AnswersOne (test_rows way tests) (called_tests way caller)) middle last
      → FindsMore (Brings way tests caller) first last
  finds-brought first middle last a b =
      finds-then (AnswersOne (fixture_rows way tests) (called_fixtures way caller))
      (AnswersOne (test_rows way tests) (called_tests way caller)) (Brings way tests caller) first middle last
      (λ m one. inl one) (λ m one. inr one) (λ m both. both) a b

-- ---- numbers below the limit

pub below-limit : (way : Way) (tests : List TestModel) (answers : Answers) (found : List ℕ) (limit : ℕ)
    → limit ≡ length tests → AreAllAnswers way tests answers found
    → AreBelow limit answers.fixtures × AreBelow limit answers.tests
below-limit way tests answers found limit is are = (
  λ name n has. subst (λ m. n < m) (length-map tests (answered_fixtures way) ∙ sym is)
      (answers-below (fixture_rows way tests) name n (are.by_fixtures.answer name n has)),
  λ name n has. subst (λ m. n < m) (length-map tests (answered_tests way) ∙ sym is)
      (answers-below (test_rows way tests) name n (are.by_names.answer name n has)),
)

-- ---- turn by turn

contains-at : (xs : List ℕ) (i : ℕ) → i < length xs → Contains xs (slice_index xs i)
contains-at xs i below = (i, below, get_or_default xs i _ 0 below)

index-of : (xs : List ℕ) (x : ℕ) → Contains xs x → (i : ℕ) × (i < length xs) × (slice_index xs i ≡ x)
index-of xs x has = (has.0, has.1, get_or_default xs has.0 0 x has.1 ∙ has.2)

module _ (way : Way) (tests : List TestModel) (IsFirst : ℕ → Type 0) where
  pub bringing-begins : (answers : Answers) (none found : NumberSetModel)
      → none ≡ record { limit = length tests; numbers = [] } → FindsMore IsFirst none found
      → ((n : ℕ) → IsFirst n → n < length tests)
      → AreAllAnswers way tests answers [] → FindsBrought way tests IsFirst answers found 0
  bringing-begins answers none found empty finds known are = record {
    limit = finds.limit ∙ ap (λ (s : NumberSetModel). s.limit) empty;
    within = omega arith;
    below = λ n has. elim (finds.fresh n has) [
      | inl before ↦ absurd (nothing n (subst (λ (s : NumberSetModel). Contains s.numbers n) empty before))
      | inr is ↦ known n is
    ];
    answers_are = record {
      by_fixtures = record {
        answer = are.by_fixtures.answer;
        left = λ name n is. elim (are.by_fixtures.left name n is)
            [ inl has ↦ inl has | inr was ↦ absurd (nothing n was) ];
      };
      by_names = record {
        answer = are.by_names.answer;
        left = λ name n is. elim (are.by_names.left name n is)
            [ inl has ↦ inl has | inr was ↦ absurd (nothing n was) ];
      };
    };
    sound = λ n has. elim (finds.fresh n has) [
      | inl before ↦ absurd (nothing n (subst (λ (s : NumberSetModel). Contains s.numbers n) empty before))
      | inr is ↦ by_itself is
    ];
    begun = finds.all;
    closed = λ i n below. absurd (omega (arith, below));
  }
    where
      nothing : (n : ℕ) → Contains [] n → ⊥
      nothing n has = absurd (omega (arith, has.1))

  pub bringing-continues : (answers after : Answers) (old new : NumberSetModel) (place : ℕ)
      → place < length old.numbers
      → FindsBrought way tests IsFirst answers old place
      → FindsMore (Brings way tests (test_at tests (slice_index old.numbers place))) old new
      → AreAllAnswers way tests after new.numbers → FindsBrought way tests IsFirst after new (place + 1)
  bringing-continues answers after old new place below held finds are =
      let caller = slice_index old.numbers place in
      let stays = λ (i : ℕ) (before : i < length old.numbers).
      ap (λ ns. slice_index ns i) finds.more ∙ get_or_append_left old.numbers finds.added 0 i before in
      let longer : length old.numbers ≤ length new.numbers =
      subst (λ ns. length old.numbers ≤ length ns) (sym finds.more) (longer-by old.numbers finds.added) in
      record {
        limit = finds.limit ∙ held.limit;
        within = omega (arith, below, longer);
        below = λ n has. elim (finds.fresh n has) [
          | inl before ↦ held.below n before
          | inr is ↦ brought-below way tests (test_at tests caller) n is
        ];
        answers_are = are;
        sound = λ n has. elim (finds.fresh n has) [
          | inl before ↦ held.sound n before
          | inr is ↦
              let within = brought-below way tests (test_at tests caller) n is in
              let known = contains-at old.numbers place below in
              by_other {test = test_at tests n} {caller = test_at tests caller} (held.sound caller known)
              (test-got tests caller (held.below caller known)) (test-got tests n within)
              (is-brought way tests (test_at tests caller) n is)
        ];
        begun = λ n is. found-stays _ old new finds n (held.begun n is);
        closed = λ i n within is. elim (cases_lt i place) [
          | inl before ↦ found-stays _ old new finds n (held.closed i n before
              (subst (λ m. Brings way tests (test_at tests m) n)
              (stays i (omega (arith, before, below))) is))
          | inr past ↦
              let same : i ≡ place = omega (arith, within, past) in
              finds.all n (subst (λ m. Brings way tests (test_at tests m) n)
              (ap (slice_index new.numbers) same ∙ stays place below) is)
        ];
      }
    where
      longer-by : (xs ys : List ℕ) → length xs ≤ length (xs ++ ys)
      longer-by xs ys = omega (arith, length-append xs ys)

  -- at the end nothing is missing
  module _ (answers : Answers) (found : NumberSetModel) (place : ℕ) (past : length found.numbers ≤ place)
      (held : FindsBrought way tests IsFirst answers found place) where
    all-found : (n : ℕ) → IsBrought way tests IsFirst n → Contains found.numbers n
    all-found _ (by_itself {number = n} is) = held.begun n is
    all-found _ (by_other {number = n} {other = m} {test = test} {caller = caller} brought at_m at_n is) =
        let at = index-of found.numbers m (all-found m brought) in
        held.closed at.0 n (omega (arith, at.1, past))
        (subst (λ k. Brings way tests (test_at tests k) n) (sym at.2)
        (subst (λ c. Brings way tests c n) (sym (got-test tests m caller at_m))
        (brings-it way tests caller n (slice_get_within tests n test at_n)
        (subst (λ t. brings way caller t ≡ true) (sym (got-test tests n test at_n)) is))))

    pub bringing-ends : (n : ℕ) → Contains found.numbers n ↔ IsBrought way tests IsFirst n
    bringing-ends n = (held.sound n, all-found n)
