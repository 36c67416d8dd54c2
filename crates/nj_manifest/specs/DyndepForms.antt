-- The forms of dyndep files, and the laws that exactly the texts of the forms are read.
use Rattle.std.specs.Prelude.{◌≡◌, Bool, true, false, Option, Some, None, Ok, List, [], ◌∷◌, codes, ◌↔◌, ◌⊎◌}
use Rattle.std.specs.List.{list_any}
use Rattle.nj_text.specs.declared.sign.Sign.TheVariants as sign
use Rattle.nj_text.specs.Units.{TextUnit}
use Rattle.nj_text.specs.Lines.{Line, lines_after, CommentLine, BlankLine, PlainLine, kind_of}
use Rattle.nj_text.specs.Calls.{State, Between, Inside, without_comments}
use Rattle.nj_manifest.specs.declared.block_lines.Keys.TheVariants as keys
use Rattle.nj_manifest.specs.Statements.{LineModel}
use Rattle.nj_manifest.specs.Grammar.{AreBlanks, KeywordForm, WordForm, SignForm, SectionForm, BlockForm}
use Rattle.nj_manifest.specs.Dyndeps.{EntryModel, entry_line, has_text, next_entry}

-- `build OUTPUT | OUTPUTS: dyndep | INPUTS`, before the block
pub record EntryForm (us : List TextUnit) (entry : EntryModel) : Type 0 where
  pub after_build : List TextUnit
  pub after_out : List TextUnit
  pub after_outs : List TextUnit
  pub after_colon : List TextUnit
  pub after_rule : List TextUnit
  pub after_ins : List TextUnit
  pub keyword : KeywordForm (codes "build") us after_build
  pub out : WordForm after_build entry.out after_out
  pub outs : SectionForm sign.Pipe after_out entry.outs after_outs
  pub colon : SignForm sign.Colon after_outs after_colon
  pub rule : KeywordForm (codes "dyndep") after_colon after_rule
  pub ins : SectionForm sign.Pipe after_rule entry.ins after_ins
  pub end : AreBlanks after_ins
  pub no_block : entry.restat ≡ false

-- A line is read as an entry exactly where it has the form, and then to its end.
abbrev pub EntriesAreTheForms : Type 0
EntriesAreTheForms =
    (l : Line) (ls : List Line) (entry : EntryModel) (s : State)
    → (entry_line (Inside l ls) ≡ Ok (entry, s)) ↔ (EntryForm l.units entry × (s ≡ Between (lines_after l ls)))

-- a block with at most one line, `restat = VALUE`, and whether it has a value that is not empty
pub record RestatForm (ls : List Line) (restat : Bool) (rest : List Line) : Type 0 where
  pub lines : List LineModel
  pub block : BlockForm keys.All ls lines rest
  pub one_at_most : (lines ≡ []) ⊎ ((line : LineModel) × (lines ≡ line ∷ []) × (line.name ≡ codes "restat"))
  pub value : list_any (λ line. has_text line.value) lines ≡ restat

-- The next entry of some lines, or `None`, and the lines after it. Comments and blank lines are skipped.
pub data NextEntryForm : List Line → Option EntryModel → (rest : List Line) → Type 0 where
  statement : {l : Line} {ls rest : List Line} {entry : EntryModel} {restat : Bool} → kind_of l ≡ PlainLine → EntryForm l.units entry
      → RestatForm (lines_after l ls) restat rest → NextEntryForm (l ∷ ls) (Some (record entry { restat = restat })) rest
  blank : {l : Line} {ls rest : List Line} {found : Option EntryModel} → kind_of l ≡ BlankLine → l.is_last ≡ false
      → NextEntryForm ls found rest → NextEntryForm (l ∷ ls) found rest
  comment : {l : Line} {ls rest : List Line} {found : Option EntryModel} → kind_of l ≡ CommentLine → l.is_last ≡ false
      → NextEntryForm ls found rest → NextEntryForm (l ∷ ls) found rest
  last_blank : {l : Line} {ls : List Line} → kind_of l ≡ BlankLine → l.is_last ≡ true → NextEntryForm (l ∷ ls) None (lines_after l ls)
  last_comment : {l : Line} {ls : List Line} → kind_of l ≡ CommentLine → l.is_last ≡ true
      → NextEntryForm (l ∷ ls) None (lines_after l (without_comments ls))
  nothing : NextEntryForm [] None []

-- An entry, or `None`, is read from lines exactly if the forms allow it.
abbrev pub NextEntriesAreTheForms : Type 0
NextEntriesAreTheForms =
    (ls : List Line) (found : Option EntryModel) (rest : List Line) → (next_entry ls ≡ Ok (found, rest)) ↔ NextEntryForm ls found rest
