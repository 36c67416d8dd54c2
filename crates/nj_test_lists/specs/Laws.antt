-- Laws of lists of tests.
use Rattle.std.specs.Prelude.{◌≡◌, ◌⊎◌, ℕ, Some, List, [], ◌∷◌, map, codes}
use Rattle.serde_json.specs.Data.{Data}
use Rattle.nj_tests.specs.Tests.{TestModel}
use Rattle.nj_test_lists.specs.declared.list_fault.ListFault.{ListFault}
use Rattle.nj_test_lists.specs.declared.list_fault.ListFault.TheVariants.{OutOfMemory}
use Rattle.nj_test_lists.specs.declared.list_property.ListProperty.{ListProperty}
use Rattle.nj_test_lists.specs.Values.{items_at, strings, string_at}
use Rattle.nj_test_lists.specs.CTest.{Property, properties_of, property_name, file_properties, IsCTest, IsCTestList}
use Rattle.nj_test_lists.specs.Meson.{TargetsModel, files_of, IsMesonTest, AreMesonTests}
use Rattle.nj_test_lists.specs.Faults.{IsCTestText, IsCTestFault}

-- a list has the given item
abbrev pub HasItem : {A : Type 0} → List A → A → Type 0
HasItem [] x = ⊥
HasItem (y ∷ ys) x = (x ≡ y) ⊎ HasItem ys x

-- ---- CTest

-- Each value of a list is one test, in the order of the list.
abbrev pub EachValueIsOneTest : Type 0
EachValueIsOneTest = (list : Data) (values : List Data) (tests : List TestModel) → items_at (codes "tests") list ≡ Some values
    → IsCTestList list tests → map (string_at (codes "name")) values ≡ map (λ test. Some test.name) tests

-- Each string of a property that may name a file is a text of its test.
abbrev pub FileStringsAreTexts : Type 0
FileStringsAreTexts = (value : Data) (test : TestModel) (properties : List Property) (property : Property)
    (meant : ListProperty) (found : List (List ℕ)) (text : List ℕ) → IsCTest value test
    → properties_of value ≡ Some properties → HasItem properties property → HasItem file_properties meant
    → property.name ≡ property_name meant → strings property.value ≡ Some found → HasItem found text → HasItem test.texts text

-- Two readings of a text have the same tests.
abbrev pub OneReading : Type 0
OneReading = (text : List ℕ) (one other : List TestModel) → IsCTestText text one → IsCTestText text other → one ≡ other

-- A text with tests is not refused, unless memory runs out.
abbrev pub GoodListsAreRead : Type 0
GoodListsAreRead = (text : List ℕ) (tests : List TestModel) (fault : ListFault) → IsCTestText text tests
    → IsCTestFault text fault → fault ≡ OutOfMemory

-- ---- Meson

-- Each value of a list is one test, in the order of the list.
abbrev pub EachMesonValueIsOneTest : Type 0
EachMesonValueIsOneTest = (targets : TargetsModel) (values : List Data) (tests : List TestModel)
    → AreMesonTests targets values tests → map (string_at (codes "name")) values ≡ map (λ test. Some test.name) tests

-- Each file of a target on which a test depends is a text of the test.
abbrev pub FilesOfTargetsAreTexts : Type 0
FilesOfTargetsAreTexts = (targets : TargetsModel) (value : Data) (test : TestModel) (ids : List Data) (id : Data)
    (files : List (List ℕ)) (file : List ℕ) → IsMesonTest targets value test → items_at (codes "depends") value ≡ Some ids
    → HasItem ids id → files_of targets id ≡ Some files → HasItem files file → HasItem test.texts file
