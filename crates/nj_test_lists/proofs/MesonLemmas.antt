-- Lemmas on the tests and the targets of lists by Meson.
use Rattle.std.proofs.Common.{◌≡◌, inl, inr, ℕ, false, cond, string_bytes, ◌+◌, ◌<◌, List, [], ◌∷◌}
use Rattle.std.proofs.Common.{◌++◌, map, take, length, get_or, refl, sym, ap, ◌∙◌}
use Rattle.std.proofs.Common.{subst}
use Rattle.std.specs.Prelude.{Option, Some, None, option_map, option_and_then, codes, slice_get, bytes_eq}
use Rattle.std.specs.List.{list_any}
use Rattle.std.proofs.lemmas.Option.{slice_get-map, slice_get_read}
use Rattle.serde_json.specs.Data.{Data}
use Rattle.serde_json.specs.View.{view, members_view}
use Rattle.serde_json.specs.Find.{as_str}
use Rattle.serde_json.proofs.Views.{Entry}
use Rattle.nj_names.specs.NameTables.{with_name}
use Rattle.serde_json.specs.declared.value.Value.{Value}
use Rattle.nj_tests.specs.Tests.{TestModel}
use Rattle.nj_test_lists.specs.declared.list_fault.ListFault.{ListFault}
use Rattle.nj_test_lists.specs.declared.list_fault.ListFault.TheVariants.{WrongTarget}
use Rattle.nj_test_lists.specs.declared.list_fault.TargetKey.{TargetKey}
use Rattle.nj_test_lists.specs.declared.list_fault.TargetKey.TheVariants.{Filename}
use Rattle.nj_test_lists.specs.Values.{each, string_at, strings_at}
use Rattle.nj_test_lists.specs.Meson.{TargetsModel, IsNoTarget, assignments, IsMesonTest, AreMesonTests}
use Rattle.nj_test_lists.specs.Inside.Reading.{Refuses, AreTargetsFault}
use Rattle.nj_test_lists.proofs.ListLemmas.{Stands, stands-one}
use Rattle.nj_test_lists.proofs.TestLemmas.{take-next}

-- ---- tests

are-more : (targets : TargetsModel) (values : List Data) (tests : List TestModel) (value : Data)
    (test : TestModel)
    → AreMesonTests targets values tests → IsMesonTest targets value test
    → AreMesonTests targets (values ++ value ∷ []) (tests ++ test ∷ [])
are-more targets [] [] value test are is = (is, tt)
are-more targets [] (t ∷ tests) value test are is = absurd are
are-more targets (v ∷ values) [] value test are is = absurd are
are-more targets (v ∷ values) (t ∷ tests) value test (first, are) is =
    (first, are-more targets values tests value test are is)

pub meson_tests-next : (targets : TargetsModel) (values : List Value) (number : ℕ) (value : Value)
    (tests : List TestModel) (test : TestModel) → number < length values → value ≡ get_or values number value
    → AreMesonTests targets (take number (map view values)) tests → IsMesonTest targets (view value) test
    → AreMesonTests targets (take (number + 1) (map view values)) (tests ++ test ∷ [])
meson_tests-next targets values number value tests test within is are test_is =
    subst (λ vs. AreMesonTests targets vs (tests ++ test ∷ []))
    (sym (take-next values number value within is))
    (are-more targets (take number (map view values)) tests (view value) test are test_is)

-- ---- targets

each-more : {A B : Type 0} (f : A → Option B) (xs : List A) (x : A) (ys : List B) (y : B)
    → each f xs ≡ Some ys
    → f x ≡ Some y → each f (xs ++ x ∷ []) ≡ Some (ys ++ y ∷ [])
each-more f [] x ys y are gives =
    let none : [] ≡ ys = cc in
    ap (option_and_then (λ z. Some (z ∷ []))) gives ∙ ap (λ l. Some (l ++ y ∷ [])) none
each-more {A} {B} f (z ∷ xs) x ys y are gives =
    by (f z) (each f xs) are refl (λ ws e. each-more f xs x ws y e gives)
  where
    by : (o : Option B) (r : Option (List B))
        → option_and_then (λ w. option_map (λ ws. w ∷ ws) r) o ≡ Some ys → each f xs ≡ r
        → ((ws : List B) → each f xs ≡ Some ws → each f (xs ++ x ∷ []) ≡ Some (ws ++ y ∷ []))
        → option_and_then (λ w. option_map (λ ws. w ∷ ws) (each f (xs ++ x ∷ []))) o ≡ Some (ys ++ y ∷ [])
    by None r h e rest = absurd (cc)
    by (Some w) None h e rest = absurd (cc)
    by (Some w) (Some ws) h e rest =
        let same : w ∷ ws ≡ ys = cc in
        ap (option_map (λ l. w ∷ l)) (rest ws e) ∙ ap (λ l. Some (l ++ y ∷ [])) same

pub each-next_value : {B : Type 0} (f : Data → Option B) (values : List Value) (number : ℕ) (value : Value)
    (ys : List B) (y : B) → number < length values → value ≡ get_or values number value
    → each f (take number (map view values)) ≡ Some ys → f (view value) ≡ Some y
    → each f (take (number + 1) (map view values)) ≡ Some (ys ++ y ∷ [])
each-next_value f values number value ys y within is are gives =
    ap (each f) (take-next values number value within is)
    ∙ each-more f (take number (map view values)) (view value) ys y are gives

pub value-number : (values : List Value) (number : ℕ) (value : Value) → number < length values
    → value ≡ get_or values number value → slice_get (map view values) number ≡ Some (view value)
value-number values number value within is =
    slice_get-map view values number
    ∙ ap (option_map view) (slice_get_read values (length values) number value refl within is)

pub wrong-target : (values : List Value) (number : ℕ) (value : Value) (before : List (List ℕ))
    (key : TargetKey)
    (fault : ListFault) → number < length values → value ≡ get_or values number value
    → each (string_at (codes "id")) (take number (map view values)) ≡ Some before
    → fault ≡ WrongTarget number key → IsNoTarget before key (view value)
    → AreTargetsFault (map view values) fault
wrong-target values number value before key fault within is have is_fault is_wrong = inr record {
  number = number;
  key = key;
  is_fault = is_fault;
  is_wrong = record {
    before = before;
    have_ids = have;
    value = view value;
    has_number = value-number values number value within is;
    is_wrong = is_wrong;
  };
}

pub refused-target : (values : List Value) (number : ℕ) (value : Value) (before : List (List ℕ))
    (fault : ListFault)
    → number < length values → value ≡ get_or values number value
    → each (string_at (codes "id")) (take number (map view values)) ≡ Some before
    → Refuses (WrongTarget number Filename) (strings_at (codes "filename") (view value) ≡ None) fault
    → AreTargetsFault (map view values) fault
refused-target values number value before fault within is have (inl memory) = inl memory
refused-target values number value before fault within is have (inr (same, none)) =
    wrong-target values number value before Filename fault within is have same none

pub new-name : (names : List (List ℕ)) (name bytes : List ℕ) → bytes ≡ name
    → list_any (bytes_eq name) names ≡ false → with_name names bytes ≡ names ++ name ∷ []
new-name names name bytes same is_new =
    ap (with_name names) same ∙ ap (λ b. cond b names (names ++ name ∷ [])) is_new

-- ---- variables

pub variables-next : (whole : Option (List (List ℕ))) (done : List (List ℕ)) (es rest : List Entry)
    (entry : Entry)
    (text assigned : List ℕ) → Stands whole done (assignments (members_view es)) → es ≡ entry ∷ rest
    → as_str (view entry.1) ≡ Some text → assigned ≡ string_bytes entry.0 ++ codes "=" ++ text
    → Stands whole (done ++ assigned ∷ []) (assignments (members_view rest))
variables-next whole done es rest entry text assigned s steps gives is =
    let others = assignments (members_view rest) in
    let named = λ (t : List ℕ). string_bytes entry.0 ++ codes "=" ++ t in
    let here : Stands whole done (assignments (members_view (entry ∷ rest))) =
    subst (λ l. Stands whole done (assignments (members_view l))) steps s in
    let one : Stands whole done (option_and_then (λ t. option_map (λ vs. named t ∷ vs) others) (Some text)) =
    subst (λ o. Stands whole done (option_and_then (λ t. option_map (λ vs. named t ∷ vs) others) o)) gives
    here in
    subst (λ a. Stands whole (done ++ a ∷ []) others) (sym is) (stands-one whole done (named text) others one)
