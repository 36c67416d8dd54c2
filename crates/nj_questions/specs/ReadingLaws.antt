-- Laws of how a command line is read.
use Rattle.std.specs.Prelude.{◌≡◌, ℕ, false, List, [], ◌∷◌, ◌++◌, map, codes, nat_eq, None, Result, Ok, IsOk, IsErr}
use Rattle.std.specs.List.{starts_with}
use Rattle.clap.specs.Words.{fault_of, subcommand_of}
use Rattle.nj_questions.specs.CommandLine.{command}
use Rattle.nj_questions.specs.QuestionOf.{RefusalModel, folder_second, has_old_option, question_of}
use Rattle.nj_questions.specs.Questions.{QuestionModel, SubjectModel, keys, why}

-- arguments without a subcommand are refused
abbrev pub SubcommandIsRequired : Type 0
SubcommandIsRequired = (words : List (List ℕ)) → subcommand_of command (folder_second words) ≡ None → IsErr (question_of words)

-- other arguments are refused only if `clap` refuses them or they have the old option
abbrev pub TakenIsQuestion : Type 0
TakenIsQuestion = (words : List (List ℕ)) → has_old_option words ≡ false → fault_of command (folder_second words) ≡ []
    → IsOk (question_of words)

-- a directory that is named before the subcommand is named after it as well
abbrev pub FolderMayComeFirst : Type 0
FolderMayComeFirst = (folder subcommand : List ℕ) (words : List (List ℕ)) → starts_with nat_eq subcommand (codes "-") ≡ false
    → question_of (codes "-C" ∷ folder ∷ subcommand ∷ words) ≡ question_of (subcommand ∷ codes "-C" ∷ folder ∷ words)

-- the question of a subcommand in the working directory, without options that name a graph
abbrev pub asks : SubjectModel → Result QuestionModel RefusalModel
asks subject = Ok (record {
  folder = None;
  graph = record { file = codes "build.ninja"; dyndep = false; deps = false; log = None };
  subject = subject;
})

-- the two arguments after `--` are the files of `why`, even if they look like options
abbrev pub FilesAfterDashes : Type 0
FilesAfterDashes = (start end : List ℕ) → question_of (codes "why" ∷ codes "--" ∷ start ∷ end ∷ [])
    ≡ asks (why (record { start = start; end = end; validations = false; no_order_only = false }))

-- an option that names a base
abbrev pub base_word : (base : List ℕ) → List ℕ
base_word base = codes "--base=" ++ base

-- bases keep their order, and so do targets, which are all arguments after `--`
abbrev pub KeysKeepOrder : Type 0
KeysKeepOrder = (bases targets : List (List ℕ)) → question_of (codes "keys" ∷ map base_word bases ++ codes "--" ∷ targets)
    ≡ asks (keys (record { bases = bases; additions = []; files = []; take = None; resume = None; all = false; json = false; targets = targets }))
