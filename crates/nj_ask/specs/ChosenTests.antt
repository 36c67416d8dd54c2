-- The answer to `tests`: which tests of a list a change of files reaches, and what is said of them.
use Rattle.std.specs.Prelude.{◌≡◌, ◌≢◌, ◌↔◌, ℕ, Bool, false, ◌&&◌, ◌||◌, not, ◌==◌, if◌then◌else◌, Option, Some, None, is_none, is_some, List, [], ◌∷◌, ◌++◌, codes, map, length, bytes_eq, Contains}
use Rattle.std.specs.List.Sorted.{IsStrictlyIncreasing}
use Rattle.std.specs.Option.{option_or}
use Rattle.nj_text.specs.Calls.{is_empty}
use Rattle.nj_changes.specs.FullPaths.{all_sought, full_path}
use Rattle.nj_changes.specs.Tables.{SameNames}
use Rattle.nj_graph.specs.ReadingList.{ReadStatement}
use Rattle.nj_discovered.specs.Times.{DeclaredTimes}
use Rattle.nj_tests.specs.Tests.{TestModel}
use Rattle.nj_chosen.specs.Choices.{AreChosen, ChosenModel}
use Rattle.nj_chosen.specs.Reasons.{BuildChange}
use Rattle.nj_chosen.specs.TestPaths.{named_by_tests}
use Rattle.nj_reached.specs.GraphChanges.{GraphChange, IsChangeOf}
use Rattle.nj_test_texts.specs.TestTexts.{tests_text, written_from}
use Rattle.nj_test_texts.specs.declared.style.Style.{Style}
use Rattle.nj_test_texts.specs.declared.style.Style.TheVariants.{CTest, Meson, Names, Objects, Reasons}
use Rattle.nj_questions.specs.Questions.{TestsModel}
use Rattle.nj_ask.specs.declared.discovered.DiscoveredGraph.{DiscoveredGraph}
use Rattle.nj_ask.specs.declared.status.Status.TheVariants.{Fault}
use Rattle.nj_ask.specs.Answers.{change_asked, manifest_edges}
use Rattle.nj_ask.specs.Endings.{Ending, answered, program_line, refused}
use Rattle.nj_ask.specs.Given.{given_paths, LeavesPaths, MisusesAffected, TakesAffected}
use Rattle.nj_ask.specs.Reports.{ChangeModel, HasCaveats, IsTouchedBy, changed_paths, no_path_line}
use Rattle.nj_ask.specs.Since.{IsNewSince, LacksKeys, NewModel}
use Rattle.nj_ask.specs.TestLists.{list_path}

-- ---- options

-- this format is requested
abbrev pub asks_format : (name : List ℕ) → (format : Option (List ℕ)) → Bool
asks_format name None = false
asks_format name (Some word) = bytes_eq word name

-- how the tests are written
abbrev pub style_asked : TestsModel → Style
style_asked options =
    if options.json then Objects else if options.why then Reasons
    else if asks_format (codes "ctest") options.format then CTest
    else if asks_format (codes "meson") options.format then Meson else Names

-- the line about the word of a format that there is not
abbrev pub format_misuse : (format : Option (List ℕ)) → Option (List ℕ)
format_misuse None = None
format_misuse (Some word) =
    if bytes_eq word (codes "lines") || bytes_eq word (codes "ctest") || bytes_eq word (codes "meson") then None
    else Some (program_line (codes "unknown format '" ++ word ++ codes "'"))

-- the line about options that do not name one list
abbrev pub list_misuse : TestsModel → Option (List ℕ)
list_misuse options =
    if is_some options.ctest && is_some options.meson then Some (program_line (codes "--ctest excludes --meson"))
    else if is_none options.ctest && is_none options.meson then
    Some (program_line (codes "a list of tests is required: --ctest FILE or --meson DIR"))
    else None

-- the line about a format for another program than that of the list
abbrev pub program_misuse : TestsModel → Option (List ℕ)
program_misuse options =
    if is_some options.meson && asks_format (codes "ctest") options.format then
    Some (program_line (codes "--meson excludes --format ctest"))
    else if is_some options.ctest && asks_format (codes "meson") options.format then
    Some (program_line (codes "--ctest excludes --format meson"))
    else None

-- the line about options that exclude each other: reasons are for lines, and objects have them
abbrev pub style_misuse : TestsModel → Option (List ℕ)
style_misuse options =
    if options.json && (options.why || is_some options.format) then Some (program_line (codes "--json excludes --format and --why"))
    else if options.why && asks_format (codes "ctest") options.format then
    Some (program_line (codes "--why excludes --format ctest"))
    else if options.why && asks_format (codes "meson") options.format then
    Some (program_line (codes "--why excludes --format meson"))
    else None

-- the line about another word than `skip` of `--unnamed`
abbrev pub unnamed_misuse : (unnamed : Option (List ℕ)) → Option (List ℕ)
unnamed_misuse None = None
unnamed_misuse (Some word) =
    if bytes_eq word (codes "skip") then None else Some (program_line (codes "'" ++ word ++ codes "' of --unnamed is not skip"))

-- the line about the first mistake in the options
abbrev pub word_misuse : TestsModel → Option (List ℕ)
word_misuse options =
    option_or (format_misuse options.format) (option_or (list_misuse options) (option_or (program_misuse options)
    (option_or (style_misuse options) (unnamed_misuse options.unnamed))))

-- Why the options are refused before anything is read: for a mistake of their own, or else as those of the change are.
pub data MisusesTests (options : TestsModel) (line : List ℕ) : Type 0 where
  by_word : word_misuse options ≡ Some line → MisusesTests options line
  by_change : word_misuse options ≡ None → MisusesAffected options.change line → MisusesTests options line

-- they are not refused
pub record TakesTests (options : TestsModel) : Type 0 where
  pub words : word_misuse options ≡ None
  pub change : TakesAffected options.change

-- ---- the change

-- The full paths of changed files that words of tests name, if it is known which inputs builds discovered: otherwise such a file may be a
-- header that only a compiler knows about.
abbrev pub test_files : (has_discovered : Bool) → TestsModel → List TestModel → (folder : List ℕ) → (paths : List (List ℕ)) → List (List ℕ)
test_files has_discovered options tests folder paths =
    if has_discovered then named_by_tests folder (all_sought folder options.change.source_dirs paths) tests else []

-- the change of the files at the given paths, in the given working directory, with what is new in the manifest
abbrev pub tests_change : (has_discovered : Bool) → TestsModel → List TestModel → (folder : List ℕ) → (paths : List (List ℕ)) → NewModel
    → ChangeModel
tests_change has_discovered options tests folder paths new =
    change_asked options.change folder (test_files has_discovered options tests folder paths) paths new

-- the edges are exactly those that a change touches, and the text says why there may be more
pub record Reaches (known : DiscoveredGraph) (entries : List ReadStatement) (q : ChangeModel) (edges : List ℕ) (caveats : List ℕ)
    : Type 0 where
  pub touched : (edge : ℕ) → Contains edges edge ↔ IsTouchedBy known q edge
  pub rises : IsStrictlyIncreasing edges
  pub are_caveats : HasCaveats known entries q edges caveats

-- the build directory and the source directories
abbrev pub roots_of : (folder : List ℕ) → (dirs : List (List ℕ)) → List (List ℕ)
roots_of folder dirs = folder ∷ map (full_path folder) dirs

-- the change of the files at the given full paths, which touches the given edges
abbrev pub graph_change : DiscoveredGraph → ChangeModel → (sought : List (List ℕ)) → (edges : List ℕ) → GraphChange
graph_change known q sought edges = record {
  folder = q.working;
  roots = roots_of q.working q.folders;
  changed = sought;
  files = changed_paths known.graph q;
  touched = edges;
}

-- The text has those of some tests that a change reaches, or all.
pub record WritesTests (known : DiscoveredGraph) (entries : List ReadStatement) (q : ChangeModel) (edges : List ℕ) (options : TestsModel)
    (tests : List TestModel) (all : Bool) (text : List ℕ) : Type 0 where
  pub sought : List (List ℕ)
  pub are_sought : SameNames sought (all_sought q.working q.folders q.paths)
  pub change : BuildChange
  pub is_change : IsChangeOf known.graph entries (graph_change known q sought edges) change
  pub chosen : ChosenModel
  pub are_chosen : AreChosen change (is_some options.unnamed) tests chosen
  pub text_is : text ≡ tests_text (style_asked options) (written_from all chosen 0 tests)

-- ---- the answer

-- that no path is given, unless none need be
abbrev pub no_path_remark : TestsModel → (paths : List (List ℕ)) → List ℕ
no_path_remark options paths = if length paths == 0 && not options.change.allow_empty then no_path_line else []

-- that the list has no test
abbrev pub no_test_remark : TestsModel → List TestModel → List ℕ
no_test_remark options tests = if length tests == 0 then program_line (list_path options ++ codes ": there is no test in it") else []

-- what is said of the paths and the tests that are given
abbrev pub remarks : TestsModel → (paths : List (List ℕ)) → List TestModel → List ℕ
remarks options paths tests = no_path_remark options paths ++ no_test_remark options tests

-- `tests`: those that the change of the files at the paths that are not ignored reaches. Where something is said of the change or of
-- what is given, others may be affected too, and all tests are written. `folder` is the working directory, below which tests name files.
pub data AnswersTests (known : DiscoveredGraph) (entries : List ReadStatement) (times : DeclaredTimes) (folder : List ℕ)
    (options : TestsModel)
    (tests : List TestModel) (since : Option (List ℕ)) (input : List ℕ) : (output : List ℕ) → Ending → Type 0 where
  no_folder : folder ≡ [] → AnswersTests known entries times folder options tests since input []
      (refused (program_line (codes "the working directory is not known")) Fault)
  no_keys : {line : List ℕ} → folder ≢ [] → LacksKeys options.change.since since line
      → AnswersTests known entries times folder options tests since input [] (refused line Fault)
  chosen : {paths : List (List ℕ)} {new : NewModel} {edges : List ℕ} {caveats warnings output : List ℕ} → folder ≢ []
      → IsNewSince known (manifest_edges known) entries times folder options.change.bases since new
      → LeavesPaths options.change (given_paths options.change input) paths
      → Reaches known entries (tests_change known.has_discovered options tests folder paths new) edges caveats
      → warnings ≡ remarks options (given_paths options.change input) tests ++ caveats
      → WritesTests known entries (tests_change known.has_discovered options tests folder paths new) edges options tests
      (not (is_empty warnings)) output
      → AnswersTests known entries times folder options tests since input output (answered false warnings)
