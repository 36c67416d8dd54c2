-- Lemmas for the laws of lists of tests.
use Rattle.std.proofs.Common.{zero, suc, ◌≡◌, inl, inr, ◌⊎◌, ℕ, Bool, true, false, cond, List, [], ◌∷◌, ◌++◌}
use Rattle.std.proofs.Common.{map, refl, sym, ap, ◌∙◌, subst}
use Rattle.std.specs.Prelude.{Option, Some, None, option_map, option_and_then, codes, bytes_eq, slice_get}
use Rattle.std.proofs.lemmas.Slice.Eq.{bytes_eq-Decides}
use Rattle.serde_json.specs.Data.{Data}
use Rattle.serde_json.specs.Read.{read}
use Rattle.nj_tests.specs.Tests.{TestModel}
use Rattle.nj_test_lists.specs.declared.list_property.ListProperty.{ListProperty}
use Rattle.nj_test_lists.specs.Values.{IsJson, joined, items_at, strings, string_at}
use Rattle.nj_test_lists.specs.CTest.{Property, properties_of, property_name, file_properties, values_of}
use Rattle.nj_test_lists.specs.CTest.{property_strings}
use Rattle.nj_test_lists.specs.declared.list_property.ListProperty.TheVariants.{Environment, RequiredFiles}
use Rattle.nj_test_lists.specs.declared.list_property.ListProperty.TheVariants.{EnvironmentModification}
use Rattle.nj_test_lists.specs.declared.list_property.ListProperty.TheVariants.{AttachedFiles}
use Rattle.nj_test_lists.specs.declared.list_property.ListProperty.TheVariants.{AttachedFilesOnFail}
use Rattle.nj_test_lists.specs.declared.list_fault.CTestKey.{CTestKey}
use Rattle.nj_test_lists.specs.declared.list_fault.CTestKey.TheVariants.{Name, Command, Properties, Strings}
use Rattle.nj_test_lists.specs.declared.list_fault.CTestKey.TheVariants.{WorkingDirectory}
use Rattle.nj_test_lists.specs.declared.list_fault.ListFault.{ListFault}
use Rattle.nj_test_lists.specs.declared.list_fault.ListFault.TheVariants.{NotJson, TargetsNotJson, WrongKind}
use Rattle.nj_test_lists.specs.declared.list_fault.ListFault.TheVariants.{WrongVersion, NoTests, NoTargets}
use Rattle.nj_test_lists.specs.declared.list_fault.ListFault.TheVariants.{WrongCTest, WrongMesonTest}
use Rattle.nj_test_lists.specs.declared.list_fault.ListFault.TheVariants.{WrongTarget, OutOfMemory}
use Rattle.nj_test_lists.specs.CTest.{major_version, IsWrongAt}
use Rattle.nj_test_lists.specs.declared.list_property.ListProperty.TheVariants.{FixturesRequired}
use Rattle.nj_test_lists.specs.declared.list_property.ListProperty.TheVariants.{FixturesSetup}
use Rattle.nj_test_lists.specs.declared.list_property.ListProperty.TheVariants.{FixturesCleanup, Depends}
use Rattle.nj_test_lists.specs.CTest.{strings_of_all, folder_of, command_of, IsCTest, AreCTests, IsCTestList}
use Rattle.nj_test_lists.specs.Meson.{TargetsModel, files_of, IsMesonTest, AreMesonTests}
use Rattle.nj_test_lists.specs.Faults.{IsCTestText, IsCTestFault}
use Rattle.nj_test_lists.specs.Laws.{HasItem}

-- ---- items of lists

has-left : {A : Type 0} (xs ys : List A) (x : A) → HasItem xs x → HasItem (xs ++ ys) x
has-left [] ys x has = absurd has
has-left (z ∷ xs) ys x (inl here) = inl here
has-left (z ∷ xs) ys x (inr later) = inr (has-left xs ys x later)

has-right : {A : Type 0} (xs ys : List A) (x : A) → HasItem ys x → HasItem (xs ++ ys) x
has-right [] ys x has = has
has-right (z ∷ xs) ys x has = inr (has-right xs ys x has)

-- an item has a list, whose items are all in the joined list
pub record Part {A B : Type 0} (f : A → Option (List B)) (x : A) (all : List B) : Type 0 where
  pub given : List B
  pub gives : f x ≡ Some given
  pub has : (y : B) → HasItem given y → HasItem all y

has-part : {A B : Type 0} (f : A → Option (List B)) (xs : List A) (x : A) (zs : List B) → HasItem xs x
    → joined f xs ≡ Some zs → Part f x zs
has-part f [] x zs has all = absurd has
has-part {A} {B} f (w ∷ xs) x zs has all =
    by (f w) (joined f xs) refl all has (λ b e later. has-part f xs x b later e)
  where
    by : (o : Option (List B)) (r : Option (List B)) → f w ≡ o
        → option_and_then (λ a. option_map (λ b. a ++ b) r) o ≡ Some zs → (x ≡ w) ⊎ HasItem xs x
        → ((b : List B) → r ≡ Some b → HasItem xs x → Part f x b) → Part f x zs
    by None r e h here rest = absurd (cc)
    by (Some a) None e h here rest = absurd (cc)
    by (Some a) (Some b) e h (inl same) rest =
        let whole : a ++ b ≡ zs = cc in
        record {
          given = a;
          gives = ap f same ∙ e;
          has = λ y in_a. subst (λ l. HasItem l y) whole (has-left a b y in_a);
        }
    by (Some a) (Some b) e h (inr later) rest =
        let whole : a ++ b ≡ zs = cc in
        let part = rest b refl later in
        record {
          given = part.given;
          gives = part.gives;
          has = λ y in_part. subst (λ l. HasItem l y) whole (has-right a b y (part.has y in_part));
        }

has-value : (name : List ℕ) (properties : List Property) (property : Property) → HasItem properties property
    → property.name ≡ name → HasItem (values_of name properties) property.value
has-value name [] property has is = absurd has
has-value name (p ∷ properties) property has is =
    by (bytes_eq p.name name) refl has (λ later. has-value name properties property later is)
  where
    by : (b : Bool) → bytes_eq p.name name ≡ b → (property ≡ p) ⊎ HasItem properties property
        → (HasItem properties property → HasItem (values_of name properties) property.value)
        → HasItem (cond b (p.value ∷ values_of name properties) (values_of name properties)) property.value
    by true e (inl same) rest = inl (ap (λ (q : Property). q.value) same)
    by true e (inr later) rest = inr (rest later)
    by false e (inl same) rest =
        let named : p.name ≡ name = ap (λ (q : Property). q.name) (sym same) ∙ is in
        let equal : bytes_eq p.name name ≡ true = (bytes_eq-Decides p.name name).1 named in
        absurd (cc)
    by false e (inr later) rest = rest later

-- ---- CTest

names-same : (values : List Data) (tests : List TestModel) → AreCTests values tests
    → map (string_at (codes "name")) values ≡ map (λ (test : TestModel). Some test.name) tests
names-same [] [] are = refl
names-same [] (test ∷ tests) are = absurd are
names-same (value ∷ values) [] are = absurd are
names-same (value ∷ values) (test ∷ tests) (is, are) =
    ap (λ n. n ∷ map (string_at (codes "name")) values) is.name
    ∙ ap (λ l. Some test.name ∷ l) (names-same values tests are)

pub each_once : (list : Data) (values : List Data) (tests : List TestModel)
    → items_at (codes "tests") list ≡ Some values → IsCTestList list tests
    → map (string_at (codes "name")) values ≡ map (λ (test : TestModel). Some test.name) tests
each_once list values tests has is =
    let both : Some is.values ≡ Some values = sym is.has_values ∙ has in
    let same : is.values ≡ values = cc in
    ap (map (string_at (codes "name"))) (sym same) ∙ names-same is.values tests is.are_tests

pub texts_have : (value : Data) (test : TestModel) (properties : List Property) (property : Property)
    (meant : ListProperty) (found : List (List ℕ)) (text : List ℕ) → IsCTest value test
    → properties_of value ≡ Some properties → HasItem properties property → HasItem file_properties meant
    → property.name ≡ property_name meant → strings property.value ≡ Some found → HasItem found text
    → HasItem test.texts text
texts_have value test properties property meant found text is has in_properties in_meant named gives
    in_found =
    let both : Some is.properties ≡ Some properties = sym is.has_properties ∙ has in
    let same : is.properties ≡ properties = cc in
    let all : strings_of_all properties file_properties ≡ Some test.texts =
    subst (λ ps. strings_of_all ps file_properties ≡ Some test.texts) same is.texts in
    let part = has-part (property_strings properties) file_properties meant test.texts in_meant all in
    let value_part = has-part strings (values_of (property_name meant) properties) property.value part.given
    (has-value (property_name meant) properties property in_properties named) part.gives in
    let two : Some value_part.given ≡ Some found = sym value_part.gives ∙ gives in
    let is_found : found ≡ value_part.given = cc in
    part.has text (value_part.has text (subst (λ l. HasItem l text) is_found in_found))

-- ---- Meson

pub meson_each_once : (targets : TargetsModel) (values : List Data) (tests : List TestModel)
    → AreMesonTests targets values tests
    → map (string_at (codes "name")) values ≡ map (λ (test : TestModel). Some test.name) tests
meson_each_once targets [] [] are = refl
meson_each_once targets [] (test ∷ tests) are = absurd are
meson_each_once targets (value ∷ values) [] are = absurd are
meson_each_once targets (value ∷ values) (test ∷ tests) (is, are) =
    ap (λ n. n ∷ map (string_at (codes "name")) values) is.name
    ∙ ap (λ l. Some test.name ∷ l) (meson_each_once targets values tests are)

pub meson_texts_have : (targets : TargetsModel) (value : Data) (test : TestModel) (ids : List Data)
    (id : Data)
    (files : List (List ℕ)) (file : List ℕ) → IsMesonTest targets value test
    → items_at (codes "depends") value ≡ Some ids → HasItem ids id → files_of targets id ≡ Some files
    → HasItem files file → HasItem test.texts file
meson_texts_have targets value test ids id files file is has in_ids gives in_files =
    let all : joined (files_of targets) ids ≡ Some is.built =
    sym (ap (option_and_then (joined (files_of targets))) has) ∙ is.has_built in
    let part = has-part (files_of targets) ids id is.built in_ids all in
    let two : Some part.given ≡ Some files = sym part.gives ∙ gives in
    let is_files : files ≡ part.given = cc in
    subst (λ l. HasItem l file) (sym is.texts)
    (has-right (is.variables ++ is.extra) is.built file
    (part.has file (subst (λ l. HasItem l file) is_files in_files)))

-- ---- one reading

alike : (one other : TestModel) → one.name ≡ other.name → one.command ≡ other.command
    → one.texts ≡ other.texts
    → one.folder ≡ other.folder → one.required_fixtures ≡ other.required_fixtures
    → one.set_up_fixtures ≡ other.set_up_fixtures → one.cleaned_fixtures ≡ other.cleaned_fixtures
    → one.predecessors ≡ other.predecessors → one ≡ other
alike one other a b c d e f g h =
    ap (λ x. record one { name = x }) a
    ∙ ap (λ x. record one { name = other.name; command = x }) b
    ∙ ap (λ x. record one { name = other.name; command = other.command; texts = x }) c
    ∙ ap (λ x. record one { name = other.name; command = other.command; texts = other.texts; folder = x }) d
    ∙ ap (λ x. record other {
      required_fixtures = x;
      set_up_fixtures = one.set_up_fixtures;
      cleaned_fixtures = one.cleaned_fixtures;
      predecessors = one.predecessors;
    }) e
    ∙ ap (λ x. record other {
      set_up_fixtures = x;
      cleaned_fixtures = one.cleaned_fixtures;
      predecessors = one.predecessors;
    }) f
    ∙ ap (λ x. record other { cleaned_fixtures = x; predecessors = one.predecessors }) g
    ∙ ap (λ x. record other { predecessors = x }) h

same-Some : {A : Type 0} (o : Option A) (x y : A) → o ≡ Some x → o ≡ Some y → x ≡ y
same-Some o x y first second = let both : Some x ≡ Some y = sym first ∙ second in cc

same-test : (value : Data) (one other : TestModel) → IsCTest value one → IsCTest value other → one ≡ other
same-test value one other is is_other =
    let ps = same-Some (properties_of value) is.properties is_other.properties is.has_properties
    is_other.has_properties in
    let o = is.properties in
    let texts = same-Some (strings_of_all o file_properties) one.texts other.texts is.texts
    (subst (λ ps. strings_of_all ps file_properties ≡ Some other.texts) (sym ps) is_other.texts) in
    let folder = same-Some (folder_of o) one.folder other.folder is.folder
    (subst (λ ps. folder_of ps ≡ Some other.folder) (sym ps) is_other.folder) in
    let list = λ (meant : ListProperty) (x y : List (List ℕ)) (a : property_strings o meant ≡ Some x)
    (b : property_strings is_other.properties meant ≡ Some y).
    same-Some (property_strings o meant) x y a (subst (λ ps. property_strings ps meant ≡ Some y) (sym ps) b)
    in
    let name = same-Some (string_at (codes "name") value) one.name other.name is.name is_other.name in
    let command = same-Some (command_of value) one.command other.command is.command is_other.command in
    let required = list FixturesRequired one.required_fixtures other.required_fixtures is.required_fixtures
    is_other.required_fixtures in
    let set_up = list FixturesSetup one.set_up_fixtures other.set_up_fixtures is.set_up_fixtures
    is_other.set_up_fixtures in
    let cleaned = list FixturesCleanup one.cleaned_fixtures other.cleaned_fixtures is.cleaned_fixtures
    is_other.cleaned_fixtures in
    let before = list Depends one.predecessors other.predecessors is.predecessors is_other.predecessors in
    alike one other name command texts folder required set_up cleaned before

same-tests : (values : List Data) (one other : List TestModel) → AreCTests values one → AreCTests values other
    → one ≡ other
same-tests [] [] [] are are_other = refl
same-tests [] (t ∷ one) other are are_other = absurd are
same-tests [] [] (t ∷ other) are are_other = absurd are_other
same-tests (v ∷ values) [] other are are_other = absurd are
same-tests (v ∷ values) (t ∷ one) [] are are_other = absurd are_other
same-tests (v ∷ values) (t ∷ one) (u ∷ other) (is, are) (is_other, are_other) =
    ap (λ x. x ∷ one) (same-test v t u is is_other)
    ∙ ap (λ xs. u ∷ xs) (same-tests values one other are are_other)

pub same_reading : (text : List ℕ) (one other : List TestModel) → IsCTestText text one
    → IsCTestText text other
    → one ≡ other
same_reading text one other is is_other =
    let list = same-Some (read text) is.list is_other.list is.is_json.reads is_other.is_json.reads in
    let values = same-Some (items_at (codes "tests") is.list) is.is_list.values is_other.is_list.values
    is.is_list.has_values (subst (λ l. items_at (codes "tests") l ≡ Some is_other.is_list.values) (sym list)
    is_other.is_list.has_values) in
    same-tests is.is_list.values one other is.is_list.are_tests
    (subst (λ vs. AreCTests vs other) (sym values) is_other.is_list.are_tests)

-- ---- good lists are read

-- each property with a list of strings is read
list-read : (property : ListProperty) (value : Data) (test : TestModel) (is : IsCTest value test)
    → (found : List (List ℕ)) × (property_strings is.properties property ≡ Some found)
list-read Environment value test is =
    let part = has-part (property_strings is.properties) file_properties Environment test.texts (inl refl)
    is.texts in
    (part.given, part.gives)
list-read EnvironmentModification value test is =
    let part = has-part (property_strings is.properties) file_properties EnvironmentModification test.texts
    (inr (inl refl)) is.texts in
    (part.given, part.gives)
list-read RequiredFiles value test is =
    let part = has-part (property_strings is.properties) file_properties RequiredFiles test.texts
    (inr (inr (inl refl))) is.texts in
    (part.given, part.gives)
list-read AttachedFiles value test is =
    let part = has-part (property_strings is.properties) file_properties AttachedFiles test.texts
    (inr (inr (inr (inl refl)))) is.texts in
    (part.given, part.gives)
list-read AttachedFilesOnFail value test is =
    let part = has-part (property_strings is.properties) file_properties AttachedFilesOnFail test.texts
    (inr (inr (inr (inr (inl refl))))) is.texts in
    (part.given, part.gives)
list-read FixturesRequired value test is = (test.required_fixtures, is.required_fixtures)
list-read FixturesSetup value test is = (test.set_up_fixtures, is.set_up_fixtures)
list-read FixturesCleanup value test is = (test.cleaned_fixtures, is.cleaned_fixtures)
list-read Depends value test is = (test.predecessors, is.predecessors)

-- what exists is not missing
not-none : {A : Type 0} (o : Option A) (x : A) → o ≡ Some x → o ≡ None → ⊥
not-none o x there missing = let both : Some x ≡ None = sym there ∙ missing in cc

-- a value that is wrong at a key is not a test
not-both : (key : CTestKey) (value : Data) (test : TestModel) → IsCTest value test → IsWrongAt key value → ⊥
not-both Name value test is wrong = not-none (string_at (codes "name") value) test.name is.name wrong
not-both Command value test is wrong = not-none (command_of value) test.command is.command wrong
not-both Properties value test is wrong = not-none (properties_of value) is.properties is.has_properties wrong
not-both WorkingDirectory value test is (properties, has, none) =
    let same = same-Some (properties_of value) is.properties properties is.has_properties has in
    not-none (folder_of is.properties) test.folder is.folder (ap folder_of same ∙ none)
not-both (Strings property) value test is (properties, has, none) =
    let same = same-Some (properties_of value) is.properties properties is.has_properties has in
    let (found, there) = list-read property value test is in
    not-none (property_strings is.properties property) found there
    (ap (λ ps. property_strings ps property) same ∙ none)

test-at : (values : List Data) (tests : List TestModel) (number : ℕ) (value : Data) → AreCTests values tests
    → slice_get values number ≡ Some value → (test : TestModel) × IsCTest value test
test-at [] tests number value are has = absurd (cc)
test-at (v ∷ values) [] number value are has = absurd are
test-at (v ∷ values) (t ∷ tests) zero value (is, are) has =
    let same : v ≡ value = cc in
    (t, subst (λ x. IsCTest x t) same is)
test-at (v ∷ values) (t ∷ tests) (suc number) value (is, are) has = test-at values tests number value are has

same-list : (text : List ℕ) (tests : List TestModel) (list : Data) (is : IsCTestText text tests)
    → IsJson text list
    → list ≡ is.list
same-list text tests list is json = same-Some (read text) list is.list json.reads is.is_json.reads

pub read_unless_no_memory : (text : List ℕ) (tests : List TestModel) (fault : ListFault)
    → IsCTestText text tests
    → IsCTestFault text fault → fault ≡ OutOfMemory
read_unless_no_memory text tests (NotJson line column) is fault =
    absurd (not-none (read text) is.list is.is_json.reads (fault is.is_json.utf8))
read_unless_no_memory text tests (TargetsNotJson line column) is (list, json, never) = absurd never
read_unless_no_memory text tests WrongKind is (list, json, wrong) =
    absurd (wrong (ap (string_at (codes "kind")) (same-list text tests list is json) ∙ is.is_list.kind))
read_unless_no_memory text tests WrongVersion is (list, json, wrong) =
    absurd (wrong (ap major_version (same-list text tests list is json) ∙ is.is_list.version))
read_unless_no_memory text tests NoTests is (list, json, none) =
    absurd (not-none (items_at (codes "tests") is.list) is.is_list.values is.is_list.has_values
    (ap (items_at (codes "tests")) (sym (same-list text tests list is json)) ∙ none))
read_unless_no_memory text tests NoTargets is (list, json, never) = absurd never
read_unless_no_memory text tests (WrongCTest number key) is (list, json, (values, has, first)) =
    let listed = ap (items_at (codes "tests")) (sym (same-list text tests list is json)) ∙ has in
    let same = same-Some (items_at (codes "tests") is.list) values is.is_list.values listed
    is.is_list.has_values in
    let (test, is_test) = test-at is.is_list.values tests number first.value is.is_list.are_tests
    (ap (λ vs. slice_get vs number) (sym same) ∙ first.has_number) in
    absurd (not-both key first.value test is_test first.is_wrong)
read_unless_no_memory text tests (WrongMesonTest number key) is (list, json, never) = absurd never
read_unless_no_memory text tests (WrongTarget number key) is (list, json, never) = absurd never
read_unless_no_memory text tests OutOfMemory is fault = refl
