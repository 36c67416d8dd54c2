-- How lists are read. Nothing here has to be believed.
use Rattle.std.specs.Prelude.{◌≡◌, ◌⊎◌, ℕ, None, List}
use Rattle.serde_json.specs.Data.{Data}
use Rattle.serde_json.specs.View.{view}
use Rattle.nj_test_lists.specs.declared.list_fault.ListFault.{ListFault}
use Rattle.nj_test_lists.specs.declared.list_fault.ListFault.TheVariants.{NotJson, WrongCTest, WrongMesonTest, WrongTarget, OutOfMemory}
use Rattle.nj_test_lists.specs.declared.list_fault.CTestKey.{CTestKey}
use Rattle.nj_test_lists.specs.declared.list_fault.CTestKey.TheVariants.{Name, Command, Properties, WorkingDirectory, Strings}
use Rattle.nj_test_lists.specs.declared.list_fault.MesonKey.{MesonKey}
use Rattle.nj_test_lists.specs.declared.list_fault.TargetKey.{TargetKey}
use Rattle.nj_test_lists.specs.Meson.{TargetsModel, IsNoTarget, IsWrongTarget, IsNoMesonTest, IsFirstNoMesonTest}
use Rattle.nj_test_lists.specs.declared.properties.Property.{Property as PropertyOfCode}
use Rattle.nj_test_lists.specs.Faults.{IsNoJson}
use Rattle.nj_test_lists.specs.CTest.{Property, folder_of, property_strings, IsWrongAt, IsFirstWrong}

-- the fault that is returned is the expected fault, and the reason for it holds, unless memory ran out
abbrev pub Refuses : (fault : ListFault) → (reason : Type 0) → (given : ListFault) → Type 0
Refuses fault reason given = (given ≡ OutOfMemory) ⊎ ((given ≡ fault) × reason)

-- the value of the code
abbrev pub property_model : PropertyOfCode → Property
property_model property = record { name = property.name.now; value = view property.value.now }

-- the value with the given number is not a test, or memory ran out
pub record IsWrongTest (number : ℕ) (value : Data) (fault : ListFault) : Type 0 where
  pub key : CTestKey
  pub is_fault : fault ≡ WrongCTest number key
  pub is_wrong : IsWrongAt key value

abbrev pub IsTestFault : (number : ℕ) → Data → (fault : ListFault) → Type 0
IsTestFault number value fault = (fault ≡ OutOfMemory) ⊎ IsWrongTest number value fault

-- the first value that is not a test, or memory ran out
pub record IsWrongIn (values : List Data) (fault : ListFault) : Type 0 where
  pub number : ℕ
  pub key : CTestKey
  pub is_fault : fault ≡ WrongCTest number key
  pub is_first : IsFirstWrong values number key

abbrev pub AreTestsFault : (values : List Data) → (fault : ListFault) → Type 0
AreTestsFault values fault = (fault ≡ OutOfMemory) ⊎ IsWrongIn values fault

-- properties are wrong at the given key
abbrev pub IsWrongAmong : CTestKey → List Property → Type 0
IsWrongAmong Name properties = ⊥
IsWrongAmong Command properties = ⊥
IsWrongAmong Properties properties = ⊥
IsWrongAmong WorkingDirectory properties = folder_of properties ≡ None
IsWrongAmong (Strings property) properties = property_strings properties property ≡ None

pub record IsWrongProperty (number : ℕ) (properties : List Property) (fault : ListFault) : Type 0 where
  pub key : CTestKey
  pub is_fault : fault ≡ WrongCTest number key
  pub is_wrong : IsWrongAmong key properties

abbrev pub IsPropertyFault : (number : ℕ) → List Property → (fault : ListFault) → Type 0
IsPropertyFault number properties fault = (fault ≡ OutOfMemory) ⊎ IsWrongProperty number properties fault

-- a text is not JSON, for the given reason; the place is a hint
abbrev pub IsNoJsonFault : (text : List ℕ) → ListFault → Type 0
IsNoJsonFault text (NotJson line column) = IsNoJson text
IsNoJsonFault text OutOfMemory = Unit {0}
IsNoJsonFault text _ = ⊥

-- ---- Meson

-- a target is wrong, or memory ran out
pub record IsWrongAmongTargets (values : List Data) (fault : ListFault) : Type 0 where
  pub number : ℕ
  pub key : TargetKey
  pub is_fault : fault ≡ WrongTarget number key
  pub is_wrong : IsWrongTarget values number key

abbrev pub AreTargetsFault : (values : List Data) → (fault : ListFault) → Type 0
AreTargetsFault values fault = (fault ≡ OutOfMemory) ⊎ IsWrongAmongTargets values fault

-- a value does not have the id of a further target
pub record IsWrongId (number : ℕ) (before : List (List ℕ)) (value : Data) (fault : ListFault) : Type 0 where
  pub key : TargetKey
  pub is_fault : fault ≡ WrongTarget number key
  pub is_wrong : IsNoTarget before key value

-- the value with the given number is not a test of Meson, or memory ran out
pub record IsWrongMesonTest (targets : TargetsModel) (number : ℕ) (value : Data) (fault : ListFault) : Type 0 where
  pub key : MesonKey
  pub is_fault : fault ≡ WrongMesonTest number key
  pub is_wrong : IsNoMesonTest targets key value

abbrev pub IsMesonTestFault : TargetsModel → (number : ℕ) → Data → (fault : ListFault) → Type 0
IsMesonTestFault targets number value fault = (fault ≡ OutOfMemory) ⊎ IsWrongMesonTest targets number value fault

-- the first value that is not a test, or memory ran out
pub record IsWrongAmongMesonTests (targets : TargetsModel) (values : List Data) (fault : ListFault) : Type 0 where
  pub number : ℕ
  pub key : MesonKey
  pub is_fault : fault ≡ WrongMesonTest number key
  pub is_first : IsFirstNoMesonTest targets values number key

abbrev pub AreMesonTestsFault : TargetsModel → (values : List Data) → (fault : ListFault) → Type 0
AreMesonTestsFault targets values fault = (fault ≡ OutOfMemory) ⊎ IsWrongAmongMesonTests targets values fault
