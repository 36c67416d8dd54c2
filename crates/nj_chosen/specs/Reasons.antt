-- Why a test is chosen by itself.
use Rattle.std.specs.Prelude.{ℕ, Bool, ◌&&◌, ◌||◌, not, if◌then◌else◌, Option, Some, None, List, [], ◌∷◌}
use Rattle.std.specs.List.{filter, filter_map, list_any}
use Rattle.std.specs.Option.{option_or}
use Rattle.nj_names.specs.NameTables.{is_among}
use Rattle.nj_tests.specs.Tests.{TestModel}
use Rattle.nj_chosen.specs.declared.reason.Link.{Link}
use Rattle.nj_chosen.specs.declared.reason.Link.TheVariants.{AffectedOutput, ChangedFile, Directory, NeedsAffected}
use Rattle.nj_chosen.specs.declared.reason.Reason.{Reason}
use Rattle.nj_chosen.specs.declared.reason.Reason.TheVariants as given
use Rattle.nj_chosen.specs.Directories.{is_below, is_telling}
use Rattle.nj_chosen.specs.TestPaths.{names_of_test, is_unknown, program_of_test}

-- ---- what changed

-- A change of files in a build, by full paths. `roots`: the build directory and those of the sources; `outputs`: the outputs of all
-- edges; `made`: those of edges with a command; `affected`: those of affected edges; `needing`: those of edges that need an affected
-- output or a changed file, by inputs of any kind; `changed`: the changed files; `noticed`: the affected outputs and changed files that
-- count in a directory, unless they are programs of tests.
pub record BuildChange : Type 0 where
  pub build : List ℕ
  pub roots : List (List ℕ)
  pub outputs : List (List ℕ)
  pub made : List (List ℕ)
  pub affected : List (List ℕ)
  pub needing : List (List ℕ)
  pub changed : List (List ℕ)
  pub noticed : List (List ℕ)

-- the paths in a list that are not among others
abbrev pub without : (others paths : List (List ℕ)) → List (List ℕ)
without others paths = filter (λ path. not (is_among others path)) paths

-- the programs of tests that are outputs
abbrev pub programs_of : (build : List ℕ) → (outputs : List (List ℕ)) → List TestModel → List (List ℕ)
programs_of build outputs tests = filter (is_among outputs) (filter_map (program_of_test build) tests)

-- What counts in a directory for the tests of a list: what is noticed, apart from the programs of the tests. A test's own program is
-- left out as well, since the first word of its command chooses the test anyway (law OwnProgramsChooseAnyway).
abbrev pub counted : BuildChange → List TestModel → List (List ℕ)
counted c tests = without (programs_of c.build c.outputs tests) c.noticed

-- What a path may be, test by test.
pub record PathKinds : Type 0 where
  pub is_output : (path : List ℕ) → Bool
  pub is_affected : (path : List ℕ) → Bool
  pub is_changed : (path : List ℕ) → Bool
  pub needs_affected : (path : List ℕ) → Bool
  pub has_outputs : (folder : List ℕ) → Bool
  pub has_counted : (folder : List ℕ) → Bool

-- a telling directory has one of the given paths below it
abbrev pub has_below : (roots paths : List (List ℕ)) → (folder : List ℕ) → Bool
has_below roots paths folder = is_telling roots folder && list_any (is_below folder) paths

-- what a path is in a change, for the tests of a list
abbrev pub kinds_of : BuildChange → List TestModel → PathKinds
kinds_of c tests = record {
  is_output = is_among c.outputs;
  is_affected = is_among c.affected;
  is_changed = is_among c.changed;
  needs_affected = is_among c.needing;
  has_outputs = has_below c.roots c.made;
  has_counted = has_below c.roots (counted c tests);
}

-- ---- reasons

-- Why a test is chosen by itself: one of its words names this path, which has this link to the change; or too little is known of the test.
pub data Why : Type 0 where
  Named : (link : Link) → (path : List ℕ) → Why
  UnknownCommand : Why
  Unnamed : Why

-- the value of the code
abbrev pub why_of : Reason → Why
why_of (given.Named link path) = Named link path.items
why_of given.UnknownCommand = UnknownCommand
why_of given.Unnamed = Unnamed

-- the link of a path to a change: the first that applies
abbrev pub link_of : PathKinds → (path : List ℕ) → Option Link
link_of kinds path =
    if kinds.is_affected path then Some AffectedOutput
    else if kinds.is_changed path then Some ChangedFile
    else if kinds.has_counted path then Some Directory
    else if kinds.needs_affected path then Some NeedsAffected else None

-- a named path as a reason, if it has a link
abbrev pub named : (path : List ℕ) → Option Link → Option Why
named path None = None
named path (Some link) = Some (Named link path)

-- the reason of the first of the given paths that has a link
abbrev pub first_named : PathKinds → (paths : List (List ℕ)) → Option Why
first_named kinds [] = None
first_named kinds (path ∷ paths) = option_or (named path (link_of kinds path)) (first_named kinds paths)

-- a path is an output, or a directory with an output
abbrev pub is_of_outputs : PathKinds → (path : List ℕ) → Bool
is_of_outputs kinds path = kinds.is_output path || kinds.has_outputs path

-- why a test is chosen although none of its names has a link: it always runs
abbrev pub without_link : PathKinds → TestModel → (names : List (List ℕ)) → Option Why
without_link kinds test names =
    if is_unknown test then Some UnknownCommand
    else if list_any (is_of_outputs kinds) names then None else Some Unnamed

-- Why a test is chosen by itself, if it is. Tests of which too little is known always run, unless they are skipped.
abbrev pub reason_by : PathKinds → (build : List ℕ) → (skips_unnamed : Bool) → TestModel → Option Why
reason_by kinds build skips_unnamed test =
    option_or (first_named kinds (names_of_test build test))
    (if skips_unnamed then None else without_link kinds test (names_of_test build test))

-- the same in a change, for a test of a list
abbrev pub reason_of : BuildChange → (tests : List TestModel) → (skips_unnamed : Bool) → TestModel → Option Why
reason_of c tests skips_unnamed test = reason_by (kinds_of c tests) c.build skips_unnamed test
