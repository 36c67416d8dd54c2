-- The changed paths that `affected` is given, which of them it ignores, and which of its options are refused.
use Rattle.std.specs.Prelude.{◌≡◌, ℕ, ◌==◌, ◌&&◌, not, if◌then◌else◌, Option, Some, None, is_none, option_map, find, List, ◌++◌, codes, length}
use Rattle.std.specs.List.{list_any}
use Rattle.std.specs.Option.{option_or}
use Rattle.nj_text.specs.Paths.{is_absolute}
use Rattle.nj_text.specs.Calls.{is_empty}
use Rattle.nj_globs.specs.Faults.{fault_text}
use Rattle.nj_globs.specs.Globs.{GlobPart}
use Rattle.nj_globs.specs.declared.glob_fault.GlobFault.{GlobFault}
use Rattle.nj_changes.specs.Given.{lines_of, zero_ended}
use Rattle.nj_changes.specs.Ignored.{AreGlobsOf, AreLeft, IsFirstWrong}
use Rattle.nj_questions.specs.Questions.{AffectedModel}
use Rattle.nj_ask.specs.Endings.{program_line}

-- ---- paths

-- the paths that standard input lists: with `-z` each ends with a zero byte, else each is a line
abbrev pub given_paths : AffectedModel → (input : List ℕ) → List (List ℕ)
given_paths options input = if options.zero_ended then zero_ended input else lines_of input

-- the given paths that no glob of `--ignore` matches, in their order
pub record LeavesPaths (options : AffectedModel) (given left : List (List ℕ)) : Type 0 where
  pub globs : List (List GlobPart)
  pub are_globs : AreGlobsOf options.ignored globs
  pub are_left : AreLeft globs given left

-- ---- options

-- Why the options are refused before anything is read: below a directory without a name every path would be absolute.
abbrev pub folder_misuse : (folders : List (List ℕ)) → Option (List ℕ)
folder_misuse folders = if list_any is_empty folders then Some (program_line (codes "'' of --source-dir is no directory")) else None

-- the first base that is not an absolute path
abbrev pub relative_base : (bases : List (List ℕ)) → Option (List ℕ)
relative_base bases = find (λ base. not (is_absolute base)) bases

-- the line about it
abbrev pub base_misuse : (bases : List (List ℕ)) → Option (List ℕ)
base_misuse bases =
    option_map (λ base. program_line (codes "'" ++ base ++ codes "' of --base is not absolute")) (relative_base bases)

-- the line about bases where no keys are compared
abbrev pub since_misuse : (since : Option (List ℕ)) → (bases : List (List ℕ)) → Option (List ℕ)
since_misuse since bases = if is_none since && not (length bases == 0) then Some (program_line (codes "--base requires --since")) else None

-- the line about the first mistake in the options of a change, but for globs
abbrev pub change_misuse : AffectedModel → Option (List ℕ)
change_misuse options =
    option_or (folder_misuse options.source_dirs) (option_or (base_misuse options.bases) (since_misuse options.since options.bases))

-- the line about a pattern of `--ignore` that is not a glob
abbrev pub pattern_line : (pattern : List ℕ) → GlobFault → List ℕ
pattern_line pattern fault = program_line (codes "'" ++ pattern ++ codes "' of --ignore has " ++ fault_text fault)

-- Why the options are refused before anything is read: for a mistake of their own; or else a pattern is not a glob: of several, the first.
pub data MisusesAffected (options : AffectedModel) : (line : List ℕ) → Type 0 where
  by_word : {line : List ℕ} → change_misuse options ≡ Some line → MisusesAffected options line
  no_glob : {pattern : List ℕ} {fault : GlobFault} → change_misuse options ≡ None
      → IsFirstWrong options.ignored pattern fault → MisusesAffected options (pattern_line pattern fault)

-- they are not refused: they have no mistake, and each pattern is a glob
pub record TakesAffected (options : AffectedModel) : Type 0 where
  pub words : change_misuse options ≡ None
  pub globs : List (List GlobPart)
  pub are_globs : AreGlobsOf options.ignored globs
