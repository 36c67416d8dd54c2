-- Why lists of tests are not read, and how that is shown.
use Rattle.std.specs.Prelude.{◌≡◌, ◌≢◌, ℕ, List, ◌++◌, codes, decimal, Some, None, IsUtf8}
use Rattle.serde_json.specs.Data.{Data}
use Rattle.serde_json.specs.Read.{read}
use Rattle.nj_tests.specs.Tests.{TestModel}
use Rattle.nj_test_lists.specs.declared.list_fault.ListFault.{ListFault}
use Rattle.nj_test_lists.specs.declared.list_fault.ListFault.TheVariants.{NotJson, TargetsNotJson, WrongKind, WrongVersion, NoTests, NoTargets, WrongCTest, WrongMesonTest, WrongTarget, OutOfMemory}
use Rattle.nj_test_lists.specs.declared.list_fault.CTestKey.{CTestKey}
use Rattle.nj_test_lists.specs.declared.list_fault.CTestKey.TheVariants.{Name, Command, Properties, WorkingDirectory, Strings}
use Rattle.nj_test_lists.specs.declared.list_fault.MesonKey.{MesonKey}
use Rattle.nj_test_lists.specs.declared.list_fault.MesonKey.TheVariants as Meson
use Rattle.nj_test_lists.specs.declared.list_fault.TargetKey.{TargetKey}
use Rattle.nj_test_lists.specs.declared.list_fault.TargetKey.TheVariants.{Id, Filename, RepeatedId}
use Rattle.nj_test_lists.specs.Values.{IsJson, items, items_at, string_at}
use Rattle.nj_test_lists.specs.Meson.{TargetsModel, AreTargets, IsWrongTarget, AreMesonTests, IsFirstNoMesonTest}
use Rattle.nj_test_lists.specs.CTest.{property_name, major_version, IsCTestList, IsFirstWrong}

-- ---- texts

-- the text of what is wrong with a test
abbrev pub ctest_key_text : CTestKey → List ℕ
ctest_key_text Name = codes "'name' is not a string"
ctest_key_text Command = codes "'command' is not an array of strings"
ctest_key_text Properties = codes "'properties' is not an array of names and values"
ctest_key_text WorkingDirectory = codes "'WORKING_DIRECTORY' is not one string"
ctest_key_text (Strings property) = codes "'" ++ property_name property ++ codes "' is not an array of strings"

-- the text of what is wrong with a test of Meson
abbrev pub meson_key_text : MesonKey → List ℕ
meson_key_text Meson.Name = codes "'name' is not a string"
meson_key_text Meson.Command = codes "'cmd' is not an array of strings"
meson_key_text Meson.Environment = codes "'env' is not an object of strings"
meson_key_text Meson.ExtraPaths = codes "'extra_paths' is not an array of strings"
meson_key_text Meson.Depends = codes "'depends' is not an array of ids of targets"
meson_key_text Meson.Folder = codes "'workdir' is not a string"

-- the text of what is wrong with a target of Meson
abbrev pub target_key_text : TargetKey → List ℕ
target_key_text Id = codes "'id' is not a string"
target_key_text Filename = codes "'filename' is not an array of strings"
target_key_text RepeatedId = codes "'id' is repeated"

-- the text of a fault
abbrev pub fault_text : ListFault → List ℕ
fault_text (NotJson line column) = codes "no JSON at line " ++ decimal line ++ codes ", column " ++ decimal column
fault_text (TargetsNotJson line column) =
    codes "targets: no JSON at line " ++ decimal line ++ codes ", column " ++ decimal column
fault_text WrongKind = codes "'kind' is not 'ctestInfo'"
fault_text WrongVersion = codes "the major version is not 1"
fault_text NoTests = codes "no array of tests"
fault_text NoTargets = codes "no array of targets"
fault_text (WrongCTest number key) = codes "tests[" ++ decimal number ++ codes "]: " ++ ctest_key_text key
fault_text (WrongMesonTest number key) = codes "tests[" ++ decimal number ++ codes "]: " ++ meson_key_text key
fault_text (WrongTarget number key) = codes "targets[" ++ decimal number ++ codes "]: " ++ target_key_text key
fault_text OutOfMemory = codes "out of memory"

-- ---- CTest

-- a text that CTest wrote is a list with the given tests
pub record IsCTestText (text : List ℕ) (tests : List TestModel) : Type 0 where
  pub list : Data
  pub is_json : IsJson text list
  pub is_list : IsCTestList list tests

-- A value is not a list of tests by CTest, for the given reason.
abbrev pub IsCTestListFault : (list : Data) → ListFault → Type 0
IsCTestListFault list WrongKind = string_at (codes "kind") list ≢ Some (codes "ctestInfo")
IsCTestListFault list WrongVersion = major_version list ≢ Some 1
IsCTestListFault list NoTests = items_at (codes "tests") list ≡ None
IsCTestListFault list (WrongCTest number key) =
    (values : List Data) × (items_at (codes "tests") list ≡ Some values) × IsFirstWrong values number key
IsCTestListFault list OutOfMemory = Unit {0}
IsCTestListFault list _ = ⊥

-- a text is not JSON
abbrev pub IsNoJson : (text : List ℕ) → Type 0
IsNoJson text = IsUtf8 text → read text ≡ None

-- A text is not a list of tests by CTest, for the given reason. If the text is not JSON, the place is a hint.
abbrev pub IsCTestFault : (text : List ℕ) → ListFault → Type 0
IsCTestFault text (NotJson line column) = IsNoJson text
IsCTestFault text OutOfMemory = Unit {0}
IsCTestFault text fault = (list : Data) × IsJson text list × IsCTestListFault list fault

-- ---- Meson

-- a text is a list with the given targets of a build
pub record IsTargetsText (build text : List ℕ) (targets : TargetsModel) : Type 0 where
  pub list : Data
  pub is_json : IsJson text list
  pub values : List Data
  pub has_values : items list ≡ Some values
  pub are_targets : AreTargets build values targets

-- A text that Meson wrote is a list with the given tests, beside the text with its list of targets, in the given build
-- directory.
pub record IsMesonText (build text targets_text : List ℕ) (tests : List TestModel) : Type 0 where
  pub targets : TargetsModel
  pub are_targets : IsTargetsText build targets_text targets
  pub list : Data
  pub is_json : IsJson text list
  pub values : List Data
  pub has_values : items list ≡ Some values
  pub are_tests : AreMesonTests targets values tests

-- A text is not a list of targets by Meson, for the given reason. If the text is not JSON, the place is a hint.
abbrev pub IsTargetsFault : (text : List ℕ) → ListFault → Type 0
IsTargetsFault text (TargetsNotJson line column) = IsNoJson text
IsTargetsFault text NoTargets = (list : Data) × IsJson text list × (items list ≡ None)
IsTargetsFault text (WrongTarget number key) = (list : Data) × (values : List Data) × IsJson text list
    × (items list ≡ Some values) × IsWrongTarget values number key
IsTargetsFault text OutOfMemory = Unit {0}
IsTargetsFault text _ = ⊥

-- A text is not a list of tests by Meson beside the text of its targets, for the given reason.
abbrev pub IsMesonFault : (build text targets_text : List ℕ) → ListFault → Type 0
IsMesonFault build text targets_text (NotJson line column) = IsNoJson text
IsMesonFault build text targets_text NoTests = (list : Data) × IsJson text list × (items list ≡ None)
IsMesonFault build text targets_text (WrongMesonTest number key) = (targets : TargetsModel) × IsTargetsText build targets_text targets
    × ((list : Data) × (values : List Data) × IsJson text list × (items list ≡ Some values)
    × IsFirstNoMesonTest targets values number key)
IsMesonFault build text targets_text fault = IsTargetsFault targets_text fault
