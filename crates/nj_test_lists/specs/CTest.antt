-- Lists of tests that `ctest --show-only=json-v1` writes: "Show as JSON Object Model" of ctest(1).
use Rattle.std.specs.Prelude.{◌≡◌, ℕ, Bool, false, not, bytes_eq, Option, Some, None, option_map, option_and_then, List, [], ◌∷◌, codes, if◌then◌else◌, slice_get, take}
use Rattle.serde_json.specs.Data.{Data}
use Rattle.serde_json.specs.Find.{get, as_str, as_number, as_u64}
use Rattle.nj_tests.specs.Tests.{TestModel}
use Rattle.nj_test_lists.specs.declared.list_property.ListProperty.{ListProperty}
use Rattle.nj_test_lists.specs.declared.list_property.ListProperty.TheVariants.{Environment, EnvironmentModification, RequiredFiles, AttachedFiles, AttachedFilesOnFail, FixturesRequired, FixturesSetup, FixturesCleanup, Depends}
use Rattle.nj_test_lists.specs.declared.list_fault.CTestKey.{CTestKey}
use Rattle.nj_test_lists.specs.declared.list_fault.CTestKey.TheVariants.{Name, Command, Properties, WorkingDirectory, Strings}
use Rattle.nj_test_lists.specs.Values.{each, joined, items, items_at, strings, string_at, given, optional}

-- ---- properties

-- A property of a test.
pub record Property : Type 0 where
  pub name : List ℕ
  pub value : Data

-- the property with a name and a value
abbrev property_with : (name : List ℕ) → Data → Property
property_with name value = record { name = name; value = value }

-- an item of the list as a property: it has a name and a value
abbrev pub property_of : Data → Option Property
property_of value =
    option_and_then (λ name. option_map (property_with name) (get (codes "value") value)) (string_at (codes "name") value)

-- the properties in a value; without a value, no properties
abbrev properties_in : Option Data → Option (List Property)
properties_in None = Some []
properties_in (Some value) = option_and_then (each property_of) (items value)

-- the properties of a test; if they are left out, no properties
abbrev pub properties_of : (test : Data) → Option (List Property)
properties_of test = properties_in (given (codes "properties") test)

-- the names of properties with lists of strings
abbrev pub property_name : ListProperty → List ℕ
property_name Environment = codes "ENVIRONMENT"
property_name EnvironmentModification = codes "ENVIRONMENT_MODIFICATION"
property_name RequiredFiles = codes "REQUIRED_FILES"
property_name AttachedFiles = codes "ATTACHED_FILES"
property_name AttachedFilesOnFail = codes "ATTACHED_FILES_ON_FAIL"
property_name FixturesRequired = codes "FIXTURES_REQUIRED"
property_name FixturesSetup = codes "FIXTURES_SETUP"
property_name FixturesCleanup = codes "FIXTURES_CLEANUP"
property_name Depends = codes "DEPENDS"

-- the properties that may name files
abbrev pub file_properties : List ListProperty
file_properties = Environment ∷ EnvironmentModification ∷ RequiredFiles ∷ AttachedFiles ∷ AttachedFilesOnFail ∷ []

-- the values of a property: CTest writes at most one
abbrev pub values_of : (name : List ℕ) → List Property → List Data
values_of name [] = []
values_of name (property ∷ properties) =
    if bytes_eq property.name name then property.value ∷ values_of name properties else values_of name properties

-- the strings of a property
abbrev pub property_strings : List Property → ListProperty → Option (List (List ℕ))
property_strings properties property = joined strings (values_of (property_name property) properties)

-- the strings of several properties, one after another
abbrev pub strings_of_all : List Property → List ListProperty → Option (List (List ℕ))
strings_of_all properties meant = joined (property_strings properties) meant

-- the directory that is the only value of its property, if any
abbrev pub one_folder : List Data → Option (Option (List ℕ))
one_folder [] = Some None
one_folder (value ∷ []) = option_map Some (as_str value)
one_folder (value ∷ other ∷ values) = None

-- The working directory, if its property exists. It is a string, and the property is not repeated.
abbrev pub folder_of : List Property → Option (Option (List ℕ))
folder_of properties = one_folder (values_of (codes "WORKING_DIRECTORY") properties)

-- ---- tests

-- The words of a command begin with its program. `NOT_AVAILABLE` stands for the program of a test without a program in
-- this configuration.
abbrev pub is_available : (words : List (List ℕ)) → Bool
is_available [] = false
is_available (program ∷ arguments) = not (bytes_eq program (codes "NOT_AVAILABLE"))

-- the words, if they have a program that is available
abbrev pub known : Option (List (List ℕ)) → Option (List (List ℕ))
known None = None
known (Some words) = if is_available words then Some words else None

-- The command of a test; CTest leaves it out if it does not find the program, such as a program that is not built.
abbrev pub command_of : (test : Data) → Option (Option (List (List ℕ)))
command_of test = option_map known (optional strings (given (codes "command") test))

-- A value is the given test.
pub record IsCTest (value : Data) (test : TestModel) : Type 0 where
  pub properties : List Property
  pub has_properties : properties_of value ≡ Some properties
  pub name : string_at (codes "name") value ≡ Some test.name
  pub command : command_of value ≡ Some test.command
  pub texts : strings_of_all properties file_properties ≡ Some test.texts
  pub folder : folder_of properties ≡ Some test.folder
  pub required_fixtures : property_strings properties FixturesRequired ≡ Some test.required_fixtures
  pub set_up_fixtures : property_strings properties FixturesSetup ≡ Some test.set_up_fixtures
  pub cleaned_fixtures : property_strings properties FixturesCleanup ≡ Some test.cleaned_fixtures
  pub predecessors : property_strings properties Depends ≡ Some test.predecessors

-- A value is not a test: it is wrong at the given key.
abbrev pub IsWrongAt : CTestKey → Data → Type 0
IsWrongAt Name value = string_at (codes "name") value ≡ None
IsWrongAt Command value = command_of value ≡ None
IsWrongAt Properties value = properties_of value ≡ None
IsWrongAt WorkingDirectory value = (properties : List Property) × (properties_of value ≡ Some properties) × (folder_of properties ≡ None)
IsWrongAt (Strings property) value =
    (properties : List Property) × (properties_of value ≡ Some properties) × (property_strings properties property ≡ None)

-- values are the given tests, one for one
abbrev pub AreCTests : (values : List Data) → List TestModel → Type 0
AreCTests [] [] = Unit {0}
AreCTests [] (test ∷ tests) = ⊥
AreCTests (value ∷ values) [] = ⊥
AreCTests (value ∷ values) (test ∷ tests) = IsCTest value test × AreCTests values tests

-- ---- lists

-- the version of the format, without its minor number
abbrev pub major_version : Data → Option ℕ
major_version list = option_and_then (λ version. option_and_then as_u64 (option_and_then as_number (get (codes "major") version)))
    (get (codes "version") list)

-- A value is a list with the given tests.
pub record IsCTestList (list : Data) (tests : List TestModel) : Type 0 where
  pub kind : string_at (codes "kind") list ≡ Some (codes "ctestInfo")
  pub version : major_version list ≡ Some 1
  pub values : List Data
  pub has_values : items_at (codes "tests") list ≡ Some values
  pub are_tests : AreCTests values tests

-- The value with the given number is the first that is not a test; it is wrong at the given key.
pub record IsFirstWrong (values : List Data) (number : ℕ) (key : CTestKey) : Type 0 where
  pub before : List TestModel
  pub are_tests : AreCTests (take number values) before
  pub value : Data
  pub has_number : slice_get values number ≡ Some value
  pub is_wrong : IsWrongAt key value
