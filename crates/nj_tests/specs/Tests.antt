-- Tests, as CTest and Meson list them.
use Rattle.std.specs.Prelude.{ℕ, Option, option_map, List, map, string_bytes}
use Rattle.nj_tests.specs.declared.test.Test.{Test}

-- A test. `command`: the words of its command, if it is known; `texts`: other texts that may name files; `folder`: the
-- directory that it runs in, if it names any; `predecessors`: the names of the tests after which it runs.
pub record TestModel : Type 0 where
  pub name : List ℕ
  pub command : Option (List (List ℕ))
  pub texts : List (List ℕ)
  pub folder : Option (List ℕ)
  pub required_fixtures : List (List ℕ)
  pub set_up_fixtures : List (List ℕ)
  pub cleaned_fixtures : List (List ℕ)
  pub predecessors : List (List ℕ)

-- the value of the code
abbrev pub test_model : Test → TestModel
test_model test = record {
  name = string_bytes test.name;
  command = option_map (λ words. map string_bytes words.items) test.command;
  texts = map string_bytes test.texts.items;
  folder = option_map string_bytes test.folder;
  required_fixtures = map string_bytes test.required_fixtures.items;
  set_up_fixtures = map string_bytes test.set_up_fixtures.items;
  cleaned_fixtures = map string_bytes test.cleaned_fixtures.items;
  predecessors = map string_bytes test.predecessors.items;
}
