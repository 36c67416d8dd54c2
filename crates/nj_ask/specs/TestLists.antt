-- The list of tests that `tests` is about, as CTest or Meson writes it.
use Rattle.std.specs.Prelude.{◌≡◌, ◌≢◌, ℕ, Bool, true, false, if◌then◌else◌, Option, Some, None, List, [], ◌++◌, codes, IsUtf8}
use Rattle.nj_scope.specs.Sources.{SourceState, HasRead, Rises}
use Rattle.nj_changes.specs.FullPaths.{full_path}
use Rattle.nj_tests.specs.Tests.{TestModel}
use Rattle.nj_test_lists.specs.Faults.{fault_text, IsCTestFault, IsCTestText, IsMesonFault, IsMesonText}
use Rattle.nj_test_lists.specs.declared.list_fault.ListFault.{ListFault}
use Rattle.nj_test_lists.specs.declared.list_fault.ListFault.TheVariants.{NoTargets, OutOfMemory, TargetsNotJson, WrongTarget}
use Rattle.nj_questions.specs.Questions.{SubjectModel, TestsModel, tests}
use Rattle.nj_ask.specs.Endings.{program_line}
use Rattle.nj_ask.specs.LogsRead.{ReadsBytes}

-- ---- a text in a file

-- no text was read from the file at a path: there is no file, or it cannot be read
pub data LacksText (path : List ℕ) (before after : SourceState) : (line : List ℕ) → Type 0 where
  absent : ReadsBytes before after path None → LacksText path before after (program_line (path ++ codes ": there is no such file"))
  unreadable : HasRead before after [] → Rises before.failures after.failures
      → LacksText path before after (program_line (path ++ codes ": the file could not be read"))

-- the line about the file at a path that is no list
abbrev pub list_line : (path : List ℕ) → ListFault → List ℕ
list_line path fault = program_line (path ++ codes ": " ++ fault_text fault)

-- ---- the list of CTest

-- the tests were read from the file at a path
pub record ReadsList (path : List ℕ) (before after : SourceState) (list : List TestModel) : Type 0 where
  pub text : List ℕ
  pub reads : ReadsBytes before after path (Some text)
  pub is_list : IsCTestText text list

-- none were: there is no text, or it is no list of tests
pub data LacksList (path : List ℕ) (before after : SourceState) : (line : List ℕ) → Type 0 where
  no_text : {line : List ℕ} → LacksText path before after line → LacksList path before after line
  no_list : {text : List ℕ} {fault : ListFault} → ReadsBytes before after path (Some text) → IsCTestFault text fault
      → fault ≢ OutOfMemory → LacksList path before after (list_line path fault)

-- ---- the lists of Meson

-- the path of a file with what Meson says of a build directory
abbrev pub info_path : (dir name : List ℕ) → List ℕ
info_path dir name = dir ++ codes "/meson-info/" ++ name

-- the path of its list of tests
abbrev pub meson_tests_path : (dir : List ℕ) → List ℕ
meson_tests_path dir = info_path dir (codes "intro-tests.json")

-- the path of its list of targets
abbrev pub meson_targets_path : (dir : List ℕ) → List ℕ
meson_targets_path dir = info_path dir (codes "intro-targets.json")

-- a fault is one of the list of targets
abbrev pub is_of_targets : ListFault → Bool
is_of_targets (TargetsNotJson line column) = true
is_of_targets NoTargets = true
is_of_targets (WrongTarget number key) = true
is_of_targets _ = false

-- the list that has a fault, of the two lists at the given paths
abbrev pub faulty_path : (at targets_at : List ℕ) → ListFault → List ℕ
faulty_path at targets_at fault = if is_of_targets fault then targets_at else at

-- the tests were read from the lists of tests and of targets at two paths, which Meson wrote for a build directory
pub record ReadsLists (build at targets_at : List ℕ) (before after : SourceState) (list : List TestModel) : Type 0 where
  pub between : SourceState
  pub text : List ℕ
  pub targets : List ℕ
  pub reads : ReadsBytes before between at (Some text)
  pub reads_targets : ReadsBytes between after targets_at (Some targets)
  pub is_list : IsMesonText build text targets list

-- none were: one of the texts is not there, or the first that is wrong is no such list
pub data LacksLists (build at targets_at : List ℕ) (before after : SourceState) : (line : List ℕ) → Type 0 where
  no_text : {line : List ℕ} → LacksText at before after line → LacksLists build at targets_at before after line
  no_targets : {between : SourceState} {text line : List ℕ} → ReadsBytes before between at (Some text)
      → LacksText targets_at between after line → LacksLists build at targets_at before after line
  no_list : {between : SourceState} {text targets : List ℕ} {fault : ListFault} → ReadsBytes before between at (Some text)
      → ReadsBytes between after targets_at (Some targets) → IsMesonFault build text targets fault → fault ≢ OutOfMemory
      → LacksLists build at targets_at before after (list_line (faulty_path at targets_at fault) fault)

-- the tests were read from the lists of a build directory, whose full path is below the working directory
abbrev pub ReadsMeson : (folder dir : List ℕ) → (before after : SourceState) → List TestModel → Type 0
ReadsMeson folder dir before after list =
    ReadsLists (full_path folder dir) (meson_tests_path dir) (meson_targets_path dir) before after list

-- none were: that path is not UTF-8, or a list is lacking
pub data LacksMeson (folder dir : List ℕ) (before after : SourceState) (line : List ℕ) : Type 0 where
  no_path : ¬ IsUtf8 (full_path folder dir) → after ≡ before → line ≡ program_line (dir ++ codes ": its full path is not UTF-8")
      → LacksMeson folder dir before after line
  no_lists : LacksLists (full_path folder dir) (meson_tests_path dir) (meson_targets_path dir) before after line
      → LacksMeson folder dir before after line

-- ---- the list of a question

-- the path of the list of tests, by the file `ctest` or the build directory `meson`
abbrev pub named_list : (ctest meson : Option (List ℕ)) → List ℕ
named_list (Some path) meson = path
named_list None (Some dir) = meson_tests_path dir
named_list None None = []

-- the path of the list of tests that the options name
abbrev pub list_path : TestsModel → List ℕ
list_path options = named_list options.ctest options.meson

-- the tests were read from the list that is named; options without one are refused before
abbrev pub ReadsNamed : (folder : List ℕ) → (ctest meson : Option (List ℕ)) → (before after : SourceState) → List TestModel → Type 0
ReadsNamed folder (Some path) meson before after list = ReadsList path before after list
ReadsNamed folder None (Some dir) before after list = ReadsMeson folder dir before after list
ReadsNamed folder None None before after list = (after ≡ before) × (list ≡ [])

-- and none were
abbrev pub LacksNamed : (folder : List ℕ) → (ctest meson : Option (List ℕ)) → (before after : SourceState) → (line : List ℕ) → Type 0
LacksNamed folder (Some path) meson before after line = LacksList path before after line
LacksNamed folder None (Some dir) before after line = LacksMeson folder dir before after line
LacksNamed folder None None before after line = ⊥

-- `tests` reads the list that its options name; others read none
abbrev pub ReadsTests : SubjectModel → (folder : List ℕ) → (before after : SourceState) → List TestModel → Type 0
ReadsTests (tests options) folder before after list = ReadsNamed folder options.ctest options.meson before after list
ReadsTests other folder before after list = (after ≡ before) × (list ≡ [])

-- and lacks it
abbrev pub LacksTests : SubjectModel → (folder : List ℕ) → (before after : SourceState) → (line : List ℕ) → Type 0
LacksTests (tests options) folder before after line = LacksNamed folder options.ctest options.meson before after line
LacksTests other folder before after line = ⊥
