-- Lists of tests and of targets that Meson writes, as `meson-info/intro-tests.json` and `meson-info/intro-targets.json`: "IDE
-- integration" of the Meson manual.
use Rattle.std.specs.Prelude.{◌≡◌, ℕ, ◌++◌, IsTrue, bytes_eq, Option, Some, None, option_map, option_and_then, List, [], ◌∷◌, codes, map, slice_get, position, take}
use Rattle.std.specs.List.{list_any, IsDistinct}
use Rattle.serde_json.specs.Data.{Data, Members, no_members, member}
use Rattle.serde_json.specs.Find.{get, as_str, as_object}
use Rattle.nj_tests.specs.Tests.{TestModel}
use Rattle.nj_tests.specs.Words.{path_in}
use Rattle.nj_test_lists.specs.declared.list_fault.MesonKey.{MesonKey}
use Rattle.nj_test_lists.specs.declared.list_fault.MesonKey.TheVariants.{Name, Command, Environment, ExtraPaths, Depends, Folder}
use Rattle.nj_test_lists.specs.declared.list_fault.TargetKey.{TargetKey}
use Rattle.nj_test_lists.specs.declared.list_fault.TargetKey.TheVariants.{Id, Filename, RepeatedId}
use Rattle.nj_test_lists.specs.Values.{each, joined, items_at, strings, string_at, strings_at, given, optional}

-- ---- targets

-- The ids of targets, and beside each the files that its target makes.
pub record TargetsModel : Type 0 where
  pub ids : List (List ℕ)
  pub files : List (List (List ℕ))

-- the files that a target makes, read in the build directory
abbrev pub files_made : (build : List ℕ) → (target : Data) → Option (List (List ℕ))
files_made build target = option_map (map (path_in build)) (strings_at (codes "filename") target)

-- Values are the given targets of a build. Their ids are distinct.
pub record AreTargets (build : List ℕ) (values : List Data) (targets : TargetsModel) : Type 0 where
  pub ids : each (string_at (codes "id")) values ≡ Some targets.ids
  pub files : each (files_made build) values ≡ Some targets.files
  pub distinct : IsDistinct bytes_eq targets.ids

-- the files of the target whose id a value is
abbrev pub files_of : TargetsModel → (id : Data) → Option (List (List ℕ))
files_of targets id =
    option_and_then (slice_get targets.files) (option_and_then (λ name. position (bytes_eq name) targets.ids) (as_str id))

-- A value is not a target, or repeats one of the given ids of targets before it.
abbrev pub IsNoTarget : (before : List (List ℕ)) → TargetKey → Data → Type 0
IsNoTarget before Id value = string_at (codes "id") value ≡ None
IsNoTarget before Filename value = strings_at (codes "filename") value ≡ None
IsNoTarget before RepeatedId value =
    (id : List ℕ) × (string_at (codes "id") value ≡ Some id) × IsTrue (list_any (bytes_eq id) before)

-- The value with the given number is wrong at the given key, and the values before it have ids.
pub record IsWrongTarget (values : List Data) (number : ℕ) (key : TargetKey) : Type 0 where
  pub before : List (List ℕ)
  pub have_ids : each (string_at (codes "id")) (take number values) ≡ Some before
  pub value : Data
  pub has_number : slice_get values number ≡ Some value
  pub is_wrong : IsNoTarget before key value

-- ---- tests

-- the words of a command, if it has a program
abbrev pub nonempty : List (List ℕ) → Option (List (List ℕ))
nonempty [] = None
nonempty (program ∷ arguments) = Some (program ∷ arguments)

-- variables as `NAME=value`
abbrev pub assignments : Members → Option (List (List ℕ))
assignments no_members = Some []
assignments (member name value variables) = option_and_then
    (λ text. option_map (λ others. (name ++ codes "=" ++ text) ∷ others) (assignments variables)) (as_str value)

-- the environment of a test
abbrev pub environment : (test : Data) → Option (List (List ℕ))
environment test = option_and_then assignments (option_and_then as_object (get (codes "env") test))

-- the strings in a value; without a value, no strings
abbrev strings_or_none : Option Data → Option (List (List ℕ))
strings_or_none None = Some []
strings_or_none (Some value) = strings value

-- directories with libraries of the test, which older versions of Meson do not write
abbrev pub extra_paths : (test : Data) → Option (List (List ℕ))
extra_paths test = strings_or_none (given (codes "extra_paths") test)

-- the files of the targets that have to be built before the test; each target is known
abbrev pub built_before : TargetsModel → (test : Data) → Option (List (List ℕ))
built_before targets test = option_and_then (joined (files_of targets)) (items_at (codes "depends") test)

-- the working directory, if any
abbrev pub folder_of_test : (test : Data) → Option (Option (List ℕ))
folder_of_test test = optional as_str (given (codes "workdir") test)

-- A value is the given test. Meson has neither fixtures nor an order of tests.
pub record IsMesonTest (targets : TargetsModel) (value : Data) (test : TestModel) : Type 0 where
  pub variables : List (List ℕ)
  pub extra : List (List ℕ)
  pub built : List (List ℕ)
  pub name : string_at (codes "name") value ≡ Some test.name
  pub command : option_map nonempty (strings_at (codes "cmd") value) ≡ Some test.command
  pub has_variables : environment value ≡ Some variables
  pub has_extra : extra_paths value ≡ Some extra
  pub has_built : built_before targets value ≡ Some built
  pub texts : test.texts ≡ variables ++ extra ++ built
  pub folder : folder_of_test value ≡ Some test.folder
  pub required_fixtures : test.required_fixtures ≡ []
  pub set_up_fixtures : test.set_up_fixtures ≡ []
  pub cleaned_fixtures : test.cleaned_fixtures ≡ []
  pub predecessors : test.predecessors ≡ []

-- A value is not a test: it is wrong at the given key.
abbrev pub IsNoMesonTest : TargetsModel → MesonKey → Data → Type 0
IsNoMesonTest targets Name value = string_at (codes "name") value ≡ None
IsNoMesonTest targets Command value = strings_at (codes "cmd") value ≡ None
IsNoMesonTest targets Environment value = environment value ≡ None
IsNoMesonTest targets ExtraPaths value = extra_paths value ≡ None
IsNoMesonTest targets Depends value = built_before targets value ≡ None
IsNoMesonTest targets Folder value = folder_of_test value ≡ None

-- values are the given tests, one for one
abbrev pub AreMesonTests : TargetsModel → (values : List Data) → List TestModel → Type 0
AreMesonTests targets [] [] = Unit {0}
AreMesonTests targets [] (test ∷ tests) = ⊥
AreMesonTests targets (value ∷ values) [] = ⊥
AreMesonTests targets (value ∷ values) (test ∷ tests) = IsMesonTest targets value test × AreMesonTests targets values tests

-- The value with the given number is the first that is not a test; it is wrong at the given key.
pub record IsFirstNoMesonTest (targets : TargetsModel) (values : List Data) (number : ℕ) (key : MesonKey) : Type 0 where
  pub before : List TestModel
  pub are_tests : AreMesonTests targets (take number values) before
  pub value : Data
  pub has_number : slice_get values number ≡ Some value
  pub is_wrong : IsNoMesonTest targets key value
