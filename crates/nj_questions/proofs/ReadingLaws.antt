-- Laws of how a command line is read.
use Rattle.std.proofs.Common.{◌≡◌, ℕ, Bool, true, false, Option, Some, None, Err, List, [], refl, sym, ◌∙◌}
use Rattle.std.proofs.lemmas.Bool.{eq-eqb, eqb-true}
use Rattle.std.specs.Prelude.{◌∷◌, ◌&&◌, codes, nat_eq, IsOk, IsErr, is_some, option_map, ok_or}
use Rattle.std.specs.Prelude.{if◌then◌else◌}
use Rattle.std.specs.List.{starts_with}
use Rattle.std.specs.Str.{bytes_eq}
use Rattle.clap.proofs.OnLiterals.{clap_on_literals}
use Rattle.clap.specs.Words.{Kinds, Row, fault_of, subcommand_of}
use Rattle.nj_questions.specs.CommandLine.{command}
use Rattle.nj_questions.specs.QuestionOf.{RefusalModel, asked, folder_second, has_old_option, is_old_option}
use Rattle.nj_questions.specs.QuestionOf.{old_option, question_of}
use Rattle.nj_questions.specs.QuestionOf.{refused_by, subject_in, unparsed}
use Rattle.nj_questions.specs.Questions.{QuestionModel, SubjectModel}
use Rattle.nj_questions.specs.Inside.Held.{is_question}
use Rattle.nj_questions.specs.ReadingLaws.{FilesAfterDashes, FolderMayComeFirst, SubcommandIsRequired}
use Rattle.nj_questions.specs.ReadingLaws.{TakenIsQuestion}
use Rattle.nj_questions.proofs.Subjects.{names_subject}

-- a word that is neither `-C`, nor joined to it, nor `--`, nor the old option
record IsPlain (word : List ℕ) : Type 0 where
  folder : bytes_eq word (codes "-C") ≡ false
  glued : starts_with nat_eq word (codes "-C") ≡ false
  ends : bytes_eq word (codes "--") ≡ false
  old : is_old_option word ≡ false

no_subcommand : (old : Bool) (refused : Option RefusalModel) (subcommand : Option (List ℕ × List Row))
    → subcommand ≡ None
    → IsErr (if old then Err old_option else asked refused subcommand)
no_subcommand true refused subcommand e = refl
no_subcommand false (Some cause) subcommand e = refl
no_subcommand false None subcommand e = rw e refl

pub subcommand-required : SubcommandIsRequired
unfolding question_of
subcommand-required words none =
    no_subcommand (has_old_option words) (refused_by (fault_of command (folder_second words)))
    (subcommand_of command (folder_second words)) none

some_subject : (f : SubjectModel → QuestionModel) (subject : Option SubjectModel) → is_some subject ≡ true
    → IsOk (ok_or (option_map f subject) unparsed)
some_subject f None e = absurd cc
some_subject f (Some subject) e = refl

is_asked : (subcommand : Option (List ℕ × List Row)) → is_question subcommand ≡ true
    → IsOk (asked None subcommand)
is_asked None e = absurd cc
is_asked (Some named) e = some_subject _ (subject_in named.0 named.1) e

is_taken : (old : Bool) (kinds : Kinds) (subcommand : Option (List ℕ × List Row)) → old ≡ false → kinds ≡ []
    → is_question subcommand ≡ true → IsOk
    (if old then Err old_option else asked (refused_by kinds) subcommand)
is_taken old kinds subcommand new taken named = rw (new, taken) (is_asked subcommand named)

pub taken-question : TakenIsQuestion
unfolding question_of
taken-question words new taken =
    is_taken (has_old_option words) (fault_of command (folder_second words))
    (subcommand_of command (folder_second words)) new taken (names_subject (folder_second words) taken)

first_false : (b : Bool) → (b && true) ≡ false → b ≡ false
first_false true e = e
first_false false e = refl

-- letters that differ do so in both orders
back_false : (a b : ℕ) (back : Bool) → nat_eq b a ≡ back → nat_eq a b ≡ false → back ≡ false
back_false a b false is e = refl
back_false a b true is e = sym (eq-eqb a b (sym (eqb-true b a is))) ∙ e

-- a subcommand that is not an option
plain_word : (word : List ℕ) → starts_with nat_eq word (codes "-") ≡ false → IsPlain word
plain_word [] e = record { folder = refl; glued = refl; ends = refl; old = refl }
plain_word (letter ∷ word) e =
    let other : nat_eq 45 letter ≡ false = first_false (nat_eq 45 letter) e in
    let back : nat_eq letter 45 ≡ false = back_false 45 letter (nat_eq letter 45) refl other in
    record {
      folder = rw back refl;
      glued = rw other refl;
      ends = rw back refl;
      old = rw (back, other) refl;
    }

pub folder-may_come_first : FolderMayComeFirst
unfolding question_of
folder-may_come_first folder subcommand words e = let plain = plain_word subcommand e in
    rw (plain.folder, plain.glued, plain.ends, plain.old) refl

pub files-after_dashes : FilesAfterDashes
unfolding question_of command clap_on_literals
files-after_dashes start end = refl
