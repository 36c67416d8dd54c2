-- The definitions, computed on small tests.
use Rattle.std.proofs.Common.{◌≡◌, true, false, ℕ, Option, Some, None, List, [], ◌∷◌, refl}
use Rattle.std.specs.Prelude.{codes}
use Rattle.nj_text.specs.Paths.{clean_path_of, without_leftmost_pair}
use Rattle.nj_tests.specs.Tests.{TestModel}
use Rattle.nj_chosen.specs.declared.reason.Link.TheVariants.{AffectedOutput, ChangedFile, Directory}
use Rattle.nj_chosen.specs.declared.reason.Link.TheVariants.{NeedsAffected}
use Rattle.nj_chosen.specs.declared.brought.Way.TheVariants.{Needed}
use Rattle.nj_chosen.specs.TestPaths.{has_lost_bytes, named_by_tests, program_of_test}
use Rattle.nj_chosen.specs.Directories.{is_below, is_telling}
use Rattle.nj_chosen.specs.Reasons.{BuildChange, reason_of}
use Rattle.nj_chosen.specs.Reasons.Why.{Named, UnknownCommand, Unnamed}
use Rattle.nj_chosen.specs.Chosen.{IsChosen, IsTestAffected, brings}
use Rattle.nj_chosen.specs.Chosen.IsBrought.{by_itself, by_other}
use Rattle.nj_chosen.specs.Inside.Folders.{folders_of}

-- ---- directories

below : is_below (codes "/b") (codes "/b/c") ≡ true
below = refl

beside : is_below (codes "/b") (codes "/bc") ≡ false
beside = refl

not_itself : is_below (codes "/b") (codes "/b") ≡ false
not_itself = refl

the_root_tells_nothing : is_telling (codes "/w/b" ∷ []) (codes "/w") ≡ false
the_root_tells_nothing = refl

folders : folders_of (codes "/b/c") ≡ [] ∷ codes "/b" ∷ []
folders = refl

-- ---- reasons

-- the build directory is `/b`, and the sources are in `/s`
abbrev change : (affected needing changed noticed : List (List ℕ)) → BuildChange
change affected needing changed noticed = record {
  build = codes "/b";
  roots = codes "/b" ∷ codes "/s" ∷ [];
  outputs = codes "/b/p" ∷ codes "/b/l/o" ∷ [];
  made = codes "/b/p" ∷ codes "/b/l/o" ∷ [];
  affected = affected;
  needing = needing;
  changed = changed;
  noticed = noticed;
}

abbrev test : Option (List (List ℕ)) → (texts : List (List ℕ)) → TestModel
test command texts = record {
  name = codes "t";
  command = command;
  texts = texts;
  folder = None;
  required_fixtures = [];
  set_up_fixtures = [];
  cleaned_fixtures = [];
  predecessors = [];
}

-- a script that runs a program
abbrev script : TestModel
script = test (Some (codes "py" ∷ codes "/s/t.py" ∷ codes "--x=p" ∷ [])) []

program_of_a_script : reason_of (change (codes "/b/p" ∷ []) [] [] []) [] false script
    ≡ Some (Named AffectedOutput (codes "/b/p"))
unfolding clean_path_of without_leftmost_pair
program_of_a_script = refl

changed_script : reason_of (change [] [] (codes "/s/t.py" ∷ []) []) [] false script
    ≡ Some (Named ChangedFile (codes "/s/t.py"))
unfolding clean_path_of without_leftmost_pair
changed_script = refl

named_by_a_script : named_by_tests (codes "/b") (codes "/s/t.py" ∷ codes "/s/u.py" ∷ []) (script ∷ [])
    ≡ codes "/s/t.py" ∷ []
unfolding clean_path_of without_leftmost_pair
named_by_a_script = refl

plugin_of_the_program : reason_of (change [] (codes "/b/p" ∷ []) [] []) [] false script
    ≡ Some (Named NeedsAffected (codes "/b/p"))
unfolding clean_path_of without_leftmost_pair
plugin_of_the_program = refl

nothing_of_a_script : reason_of (change (codes "/b/l/o" ∷ []) [] [] (codes "/b/l/o" ∷ [])) [] false script
    ≡ None
unfolding clean_path_of without_leftmost_pair
nothing_of_a_script = refl

-- a library that the environment names by its directory
abbrev by_directory : TestModel
by_directory = test (Some (codes "sh" ∷ [])) (codes "P=/b/l:/b" ∷ [])

library_in_a_directory : reason_of (change (codes "/b/l/o" ∷ []) [] [] (codes "/b/l/o" ∷ [])) [] false
    by_directory
    ≡ Some (Named Directory (codes "/b/l"))
unfolding clean_path_of without_leftmost_pair
library_in_a_directory = refl

-- what is not noticed there, as an object
object_in_a_directory : reason_of (change (codes "/b/l/o" ∷ []) [] [] []) [] false by_directory ≡ None
unfolding clean_path_of without_leftmost_pair
object_in_a_directory = refl

-- what is in a directory and changes
abbrev in_a_directory : BuildChange
in_a_directory = change (codes "/b/l/o" ∷ []) [] [] (codes "/b/l/o" ∷ [])

-- another test whose program is in the directory
abbrev by_program : TestModel
by_program = test (Some (codes "./l/o" ∷ codes "--fast" ∷ [])) []

program_of_a_test : program_of_test (codes "/b") by_program ≡ Some (codes "/b/l/o")
unfolding clean_path_of without_leftmost_pair
program_of_a_test = refl

program_in_a_directory : reason_of in_a_directory (by_directory ∷ by_program ∷ []) false by_directory ≡ None
unfolding clean_path_of without_leftmost_pair
program_in_a_directory = refl

-- it chooses its own test
program_of_its_own_test : reason_of in_a_directory (by_directory ∷ by_program ∷ []) false by_program
    ≡ Some (Named AffectedOutput (codes "/b/l/o"))
unfolding clean_path_of without_leftmost_pair
program_of_its_own_test = refl

-- what another program runs is not the program of a test
run_by_another_program : reason_of in_a_directory
    (test (Some (codes "py" ∷ codes "/b/l/o" ∷ [])) [] ∷ []) false by_directory
    ≡ Some (Named Directory (codes "/b/l"))
unfolding clean_path_of without_leftmost_pair
run_by_another_program = refl

-- a script that no edge makes is a changed file like any other
script_in_a_directory : reason_of (change [] [] (codes "/s/t/x" ∷ []) (codes "/s/t/x" ∷ []))
    (test (Some (codes "/s/t/x" ∷ [])) [] ∷ []) false (test (Some (codes "/b/p" ∷ codes "/s/t" ∷ [])) [])
    ≡ Some (Named Directory (codes "/s/t"))
unfolding clean_path_of without_leftmost_pair
script_in_a_directory = refl

-- the build directory has everything below it
build_directory : reason_of (change (codes "/b/p" ∷ []) [] [] (codes "/b/p" ∷ [])) [] false by_directory
    ≡ None
unfolding clean_path_of without_leftmost_pair
build_directory = refl

-- a definition on a command line
definition : reason_of (change (codes "/b/p" ∷ []) [] [] []) [] false
    (test (Some (codes "cmake" ∷ codes "-DP:FILEPATH=p" ∷ [])) [])
    ≡ Some (Named AffectedOutput (codes "/b/p"))
unfolding clean_path_of without_leftmost_pair
definition = refl

never_built : reason_of (change [] [] [] []) [] false (test None []) ≡ Some UnknownCommand
never_built = refl

never_built_is_skipped : reason_of (change [] [] [] []) [] true (test None []) ≡ None
never_built_is_skipped = refl

names_nothing : reason_of (change [] [] [] []) [] false (test (Some (codes "x" ∷ [])) []) ≡ Some Unnamed
unfolding clean_path_of without_leftmost_pair
names_nothing = refl

lost : has_lost_bytes (97 ∷ 239 ∷ 191 ∷ 189 ∷ 98 ∷ []) ≡ true
lost = refl

-- ---- fixtures and order

abbrev with_fixtures : (name : List ℕ) → (required set_up cleaned predecessors : List (List ℕ)) → TestModel
with_fixtures name required set_up cleaned predecessors = record {
  name = name;
  command = None;
  texts = [];
  folder = None;
  required_fixtures = required;
  set_up_fixtures = set_up;
  cleaned_fixtures = cleaned;
  predecessors = predecessors;
}

-- a database is set up by one test, used by two, and cleaned up by one; the last comes after the first use
abbrev database : List TestModel
database = with_fixtures (codes "up") [] (codes "db" ∷ []) [] []
    ∷ with_fixtures (codes "use") (codes "db" ∷ []) [] [] []
    ∷ with_fixtures (codes "down") [] [] (codes "db" ∷ []) []
    ∷ with_fixtures (codes "again") (codes "db" ∷ []) [] [] []
    ∷ with_fixtures (codes "last") [] [] [] (codes "use" ∷ []) ∷ []

-- where the set-up is affected, so is each use of it
use_of_a_set_up : IsTestAffected database (λ n. n ≡ 0) 3
use_of_a_set_up = by_other (by_itself refl) refl refl refl

-- where one use is affected, the test after it is affected, and set-up and clean-up are chosen
after_a_use : IsTestAffected database (λ n. n ≡ 1) 4
after_a_use = by_other (by_itself refl) refl refl refl

set_up_of_a_use : IsChosen database (λ n. n ≡ 1) 0
set_up_of_a_use = by_other (by_itself (by_itself refl)) refl refl refl

clean_up_of_a_use : IsChosen database (λ n. n ≡ 1) 2
clean_up_of_a_use = by_other (by_itself (by_itself refl)) refl refl refl

-- a chosen set-up does not bring the other uses
set_up_alone : brings Needed (with_fixtures (codes "up") [] (codes "db" ∷ []) [] [])
    (with_fixtures (codes "again") (codes "db" ∷ []) [] [] []) ≡ false
set_up_alone = refl
