-- The definitions, computed on small values.
use Rattle.std.proofs.Common.{◌≡◌, ℕ, true, List, [], ◌∷◌, refl}
use Rattle.std.specs.Prelude.{Some, None, codes}
use Rattle.serde_json.specs.Data.{Data, null, boolean, number, string, array, object, unsigned}
use Rattle.serde_json.specs.Data.{Items, no_items, item, no_members, member}
use Rattle.nj_test_lists.specs.declared.list_property.ListProperty.TheVariants.{Environment, Depends}
use Rattle.nj_test_lists.specs.CTest.{Property, command_of, properties_of, property_strings, folder_of}
use Rattle.nj_test_lists.specs.CTest.{IsCTest}
use Rattle.nj_test_lists.specs.CTest.{IsWrongAt, major_version}
use Rattle.nj_test_lists.specs.declared.list_fault.CTestKey.TheVariants.{Strings}
use Rattle.nj_test_lists.specs.Meson.{TargetsModel, files_of, environment, extra_paths, built_before}
use Rattle.nj_test_lists.specs.Meson.{folder_of_test}

-- ---- values

abbrev text : List ℕ → Data
text s = string s

abbrev strings_of : List (List ℕ) → Items
strings_of [] = no_items
strings_of (s ∷ ss) = item (string s) (strings_of ss)

abbrev one : List ℕ → Data → Data
one name value = object (member name value no_members)

abbrev property : List ℕ → Data → Data
property name value = object (member (codes "name") (string name) (member (codes "value") value no_members))

abbrev test_with : Items → Data
test_with properties = object (member (codes "command") (array (strings_of (codes "x" ∷ codes "y" ∷ [])))
    (member (codes "name") (string (codes "a")) (member (codes "properties") (array properties) no_members)))

abbrev env_property : List (List ℕ) → Data
env_property ss = property (codes "ENVIRONMENT") (array (strings_of ss))

abbrev folder_property : Property
folder_property = record { name = codes "WORKING_DIRECTORY"; value = string (codes "/b") }

-- ---- commands

known-command : command_of (test_with no_items) ≡ Some (Some (codes "x" ∷ codes "y" ∷ []))
known-command = refl

no-command : command_of (object no_members) ≡ Some None
no-command = refl

null-command : command_of (one (codes "command") null) ≡ Some None
null-command = refl

empty-command : command_of (one (codes "command") (array no_items)) ≡ Some None
empty-command = refl

not_available-command :
    command_of (one (codes "command") (array (strings_of (codes "NOT_AVAILABLE" ∷ codes "x" ∷ []))))
    ≡ Some None
not_available-command = refl

text-command : command_of (one (codes "command") (string (codes "x y"))) ≡ None
text-command = refl

-- ---- properties

no-properties : properties_of (object no_members) ≡ Some []
no-properties = refl

no-value : properties_of (test_with (item (one (codes "name") (string (codes "DEPENDS"))) no_items)) ≡ None
no-value = refl

-- a property that is repeated
two-values : property_strings
    (record { name = codes "DEPENDS"; value = array (strings_of (codes "b" ∷ [])) }
    ∷ record { name = codes "ENVIRONMENT"; value = array (strings_of (codes "A=1" ∷ [])) }
    ∷ record { name = codes "DEPENDS"; value = array (strings_of (codes "c" ∷ codes "b" ∷ [])) } ∷ []) Depends
    ≡ Some (codes "b" ∷ codes "c" ∷ codes "b" ∷ [])
two-values = refl

one-folder : folder_of (folder_property ∷ []) ≡ Some (Some (codes "/b"))
one-folder = refl

no-folder : folder_of [] ≡ Some None
no-folder = refl

two-folders : folder_of (folder_property ∷ folder_property ∷ []) ≡ None
two-folders = refl

whole-test : IsCTest (test_with (item (env_property (codes "A=1" ∷ [])) no_items)) (record {
  name = codes "a";
  command = Some (codes "x" ∷ codes "y" ∷ []);
  texts = codes "A=1" ∷ [];
  folder = None;
  required_fixtures = [];
  set_up_fixtures = [];
  cleaned_fixtures = [];
  predecessors = [];
})
whole-test = record {
  properties = record { name = codes "ENVIRONMENT"; value = array (strings_of (codes "A=1" ∷ [])) } ∷ [];
  has_properties = refl;
  name = refl;
  command = refl;
  texts = refl;
  folder = refl;
  required_fixtures = refl;
  set_up_fixtures = refl;
  cleaned_fixtures = refl;
  predecessors = refl;
}

-- a string in place of a list of strings
wrong-environment : IsWrongAt (Strings Environment)
    (test_with (item (property (codes "ENVIRONMENT") (string (codes "A=1"))) no_items))
wrong-environment =
    (record { name = codes "ENVIRONMENT"; value = string (codes "A=1") } ∷ [], refl, refl)

version : major_version (one (codes "version") (one (codes "major") (number (unsigned 1)))) ≡ Some 1
version = refl

no-version : major_version (one (codes "version") (number (unsigned 1))) ≡ None
no-version = refl

-- ---- Meson

abbrev two_targets : TargetsModel
two_targets = record {
  ids = codes "a@exe" ∷ codes "b@cus" ∷ [];
  files = (codes "/b/a" ∷ []) ∷ (codes "/b/1" ∷ codes "/b/2" ∷ []) ∷ [];
}

second-target : files_of two_targets (string (codes "b@cus")) ≡ Some (codes "/b/1" ∷ codes "/b/2" ∷ [])
second-target = refl

unknown-target : files_of two_targets (string (codes "c@exe")) ≡ None
unknown-target = refl

both-built : built_before two_targets
    (one (codes "depends") (array (strings_of (codes "b@cus" ∷ codes "a@exe" ∷ []))))
    ≡ Some (codes "/b/1" ∷ codes "/b/2" ∷ codes "/b/a" ∷ [])
both-built = refl

one-unknown : built_before two_targets
    (one (codes "depends") (array (strings_of (codes "b@cus" ∷ codes "c@exe" ∷ [])))) ≡ None
one-unknown = refl

two-variables : environment (one (codes "env")
    (object (member (codes "A") (string (codes "1=2")) (member (codes "B") (string []) no_members))))
    ≡ Some (codes "A=1=2" ∷ codes "B=" ∷ [])
two-variables = refl

wrong-variable : environment (one (codes "env") (object (member (codes "A") (boolean true) no_members)))
    ≡ None
wrong-variable = refl

no-extra : extra_paths (object no_members) ≡ Some []
no-extra = refl

null-folder : folder_of_test (one (codes "workdir") null) ≡ Some None
null-folder = refl
