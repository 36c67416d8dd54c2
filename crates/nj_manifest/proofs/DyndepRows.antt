-- Worked rows of dyndep files, computed on the definitions.
use Rattle.std.proofs.Common.{◌≡◌, ℕ, Bool, true, false, Option, Some, None, Result, Ok, Err, List, [], ◌∷◌}
use Rattle.std.proofs.Common.{refl}
use Rattle.std.specs.Prelude.{⊤, codes}
use Rattle.nj_text.specs.Units.{cut}
use Rattle.nj_text.specs.Lines.{text_lines}
use Rattle.nj_text.specs.Words.{WordModel, Text, Name}
use Rattle.nj_manifest.specs.declared.cause.SyntaxCause.TheVariants as cause
use Rattle.nj_manifest.specs.declared.cause.Wanted.TheVariants as wanted
use Rattle.nj_manifest.specs.Faults.{Fault, Placed}
use Rattle.nj_manifest.specs.LineSteps.{name_next, expect_sign, words_within, words_next, section_next}
use Rattle.nj_manifest.specs.Statements.{equals_value}
use Rattle.nj_manifest.specs.Openings.{Parse, opening}
use Rattle.nj_manifest.specs.Dyndeps.{EntryModel, version_line, version_next, word_of_form, no_path}
use Rattle.nj_manifest.specs.Dyndeps.{no_section, output_next, added_inputs, entry_line, restat_block}
use Rattle.nj_manifest.specs.Dyndeps.{next_entry, WholeFile, entry_of}
use Rattle.nj_manifest.proofs.StatementRows.{at}

-- the definitions that a row unfolds to compute on its text
unfoldable on_dyndeps : ⊤
unfolding cut opening next_entry restat_block entry_line added_inputs output_next no_section no_path
    word_of_form version_next version_line equals_value name_next expect_sign words_next words_within
    section_next
on_dyndeps = tt

-- ---- the facts of a row

-- the first result, without the lines after it
abbrev outcome_of : Parse (Option EntryModel) → Result (Option EntryModel) Fault
outcome_of (Ok r) = Ok r.0
outcome_of (Err f) = Err f

abbrev first_of : List ℕ → Result (Option EntryModel) Fault
first_of text = outcome_of (entry_of (WholeFile (text_lines text)))

-- the first result after a version
abbrev entry_in : List ℕ → Result (Option EntryModel) Fault
entry_in text = outcome_of (next_entry (text_lines text))

-- the second result
abbrev second_by : Parse (Option EntryModel) → Result (Option EntryModel) Fault
second_by (Ok r) = outcome_of (next_entry r.1)
second_by (Err f) = Err f

abbrev second_of : List ℕ → Result (Option EntryModel) Fault
second_of text = second_by (entry_of (WholeFile (text_lines text)))

abbrev word : (line column : ℕ) → List ℕ → WordModel
word line column bytes = record { spot = at line column; parts = Text bytes ∷ [] }

abbrev entry : WordModel → (outs ins : List WordModel) → Result (Option EntryModel) Fault
entry out outs ins = Ok (Some (record { out = out; outs = outs; ins = ins; restat = false }))

-- an entry without additions, and whether it binds `restat`
abbrev binding : WordModel → (restat : Bool) → Result (Option EntryModel) Fault
binding out restat = Ok (Some (record { out = out; outs = []; ins = []; restat = restat }))

-- ---- entries

whole_file : first_of (codes "ninja_dyndep_version = 1\nbuild o | o2: dyndep | extra\n")
    ≡ entry (word 2 7 (codes "o")) (word 2 11 (codes "o2") ∷ []) (word 2 24 (codes "extra") ∷ [])
unfolding on_dyndeps
whole_file = refl

the_end : second_of (codes "ninja_dyndep_version = 1.0\nbuild o: dyndep\n  restat = 1\n\n") ≡ Ok None
unfolding on_dyndeps
the_end = refl

version_alone : first_of (codes "ninja_dyndep_version = 1\n") ≡ Ok None
unfolding on_dyndeps
version_alone = refl

empty_sections : entry_in (codes "build o | : dyndep |") ≡ entry (word 1 7 (codes "o")) [] []
unfolding on_dyndeps
empty_sections = refl

restat_is_bound : entry_in (codes "build o: dyndep\n# c\n  restat = 1") ≡ binding (word 1 7 (codes "o")) true
unfolding on_dyndeps
restat_is_bound = refl

any_text_binds_restat : entry_in (codes "build o: dyndep\n  restat = 0") ≡ binding (word 1 7 (codes "o")) true
unfolding on_dyndeps
any_text_binds_restat = refl

text_beside_a_reference : entry_in (codes "build o: dyndep\n  restat = ${x}y")
    ≡ binding (word 1 7 (codes "o")) true
unfolding on_dyndeps
text_beside_a_reference = refl

empty_restat : entry_in (codes "build o: dyndep\n  restat =") ≡ binding (word 1 7 (codes "o")) false
unfolding on_dyndeps
empty_restat = refl

reference_is_empty : entry_in (codes "build o: dyndep\n  restat = $x") ≡ binding (word 1 7 (codes "o")) false
unfolding on_dyndeps
reference_is_empty = refl

reference_is_a_part : entry_in (codes "build $x: dyndep")
    ≡ entry (record { spot = at 1 7; parts = Name (codes "x") ∷ [] }) [] []
unfolding on_dyndeps
reference_is_a_part = refl

-- ---- versions

patch_is_ignored : first_of (codes "\n# c\nninja_dyndep_version = 1.0.7-x") ≡ Ok None
unfolding on_dyndeps
patch_is_ignored = refl

empty_file : first_of [] ≡ Err (Placed (at 1 1) cause.DyndepVersion)
unfolding on_dyndeps
empty_file = refl

comments_alone : first_of (codes "# c\n\n  ") ≡ Err (Placed (at 3 3) cause.DyndepVersion)
unfolding on_dyndeps
comments_alone = refl

newer_version : first_of (codes "ninja_dyndep_version = 1.1\nbuild o p")
    ≡ Err (Placed (at 1 1) cause.DyndepVersion)
unfolding on_dyndeps
newer_version = refl

version_with_a_suffix : first_of (codes "ninja_dyndep_version = 1.0-x") ≡ Ok None
unfolding on_dyndeps
version_with_a_suffix = refl

second_major_version : first_of (codes "ninja_dyndep_version = 2") ≡ Err (Placed (at 1 1) cause.DyndepVersion)
unfolding on_dyndeps
second_major_version = refl

version_of_a_reference : first_of (codes "ninja_dyndep_version = ${one}")
    ≡ Err (Placed (at 1 1) cause.DyndepVersion)
unfolding on_dyndeps
version_of_a_reference = refl

other_statement_first : first_of (codes "build o$!: dyndep") ≡ Err (Placed (at 1 1) cause.DyndepVersion)
unfolding on_dyndeps
other_statement_first = refl

version_without_sign : first_of (codes "ninja_dyndep_version 1")
    ≡ Err (Placed (at 1 22) (cause.Expected wanted.Equals))
unfolding on_dyndeps
version_without_sign = refl

bad_version : first_of (codes "ninja_dyndep_version = $!") ≡ Err (Placed (at 1 24) cause.BadEscape)
unfolding on_dyndeps
bad_version = refl

no_identifier : first_of (codes "= 1") ≡ Err (Placed (at 1 1) (cause.Expected wanted.Statement))
unfolding on_dyndeps
no_identifier = refl

indented_version : first_of (codes "  ninja_dyndep_version = 1")
    ≡ Err (Placed (at 1 1) cause.UnexpectedIndent)
unfolding on_dyndeps
indented_version = refl

tab_first : first_of (codes "\tx") ≡ Err (Placed (at 1 1) cause.Tab)
unfolding on_dyndeps
tab_first = refl

-- ---- texts that depart from the form

other_kind : entry_in (codes "rule $!") ≡ Err (Placed (at 1 1) cause.DyndepShape)
unfolding on_dyndeps
other_kind = refl

second_output : entry_in (codes "build o p") ≡ Err (Placed (at 1 9) cause.DyndepShape)
unfolding on_dyndeps
second_output = refl

broken_second_output : entry_in (codes "build o p$!: dyndep") ≡ Err (Placed (at 1 9) cause.DyndepShape)
unfolding on_dyndeps
broken_second_output = refl

bad_unit_after_output : entry_in (codes "build o $!: dyndep") ≡ Err (Placed (at 1 9) cause.BadEscape)
unfolding on_dyndeps
bad_unit_after_output = refl

no_explicit_output : entry_in (codes "build | x: dyndep") ≡ Err (Placed (at 1 7) cause.DyndepShape)
unfolding on_dyndeps
no_explicit_output = refl

no_output : entry_in (codes "build : dyndep") ≡ Err (Placed (at 1 7) (cause.Expected wanted.Path))
unfolding on_dyndeps
no_output = refl

order_only_outputs : entry_in (codes "build o || p: dyndep")
    ≡ Err (Placed (at 1 9) (cause.Expected wanted.Colon))
unfolding on_dyndeps
order_only_outputs = refl

no_colon : entry_in (codes "build o") ≡ Err (Placed (at 1 8) (cause.Expected wanted.Colon))
unfolding on_dyndeps
no_colon = refl

other_rule : entry_in (codes "build o: cc") ≡ Err (Placed (at 1 10) cause.DyndepShape)
unfolding on_dyndeps
other_rule = refl

no_rule : entry_in (codes "build o: ") ≡ Err (Placed (at 1 10) (cause.Expected wanted.CommandName))
unfolding on_dyndeps
no_rule = refl

explicit_input : entry_in (codes "build o: dyndep i") ≡ Err (Placed (at 1 17) cause.DyndepShape)
unfolding on_dyndeps
explicit_input = refl

order_only : entry_in (codes "build o: dyndep | i || j") ≡ Err (Placed (at 1 21) cause.DyndepShape)
unfolding on_dyndeps
order_only = refl

validation : entry_in (codes "build o: dyndep |@ v") ≡ Err (Placed (at 1 17) cause.DyndepShape)
unfolding on_dyndeps
validation = refl

second_colon : entry_in (codes "build o: dyndep :") ≡ Err (Placed (at 1 17) (cause.Expected wanted.Newline))
unfolding on_dyndeps
second_colon = refl

second_pipe : entry_in (codes "build o: dyndep | i | j")
    ≡ Err (Placed (at 1 21) (cause.Expected wanted.Newline))
unfolding on_dyndeps
second_pipe = refl

-- ---- blocks

other_key : entry_in (codes "build o: dyndep\n  foo") ≡ Err (Placed (at 2 3) cause.DyndepShape)
unfolding on_dyndeps
other_key = refl

second_line : entry_in (codes "build o: dyndep\n  restat = 1\n  restat = 1")
    ≡ Err (Placed (at 3 3) cause.DyndepShape)
unfolding on_dyndeps
second_line = refl

second_line_without_key : entry_in (codes "build o: dyndep\n  restat = 1\n  = 1")
    ≡ Err (Placed (at 3 3) (cause.Expected wanted.VariableName))
unfolding on_dyndeps
second_line_without_key = refl

second_line_after_a_join : entry_in (codes "build o: dyndep\n  restat = 1\n  $\n  restat = 1")
    ≡ Err (Placed (at 4 3) cause.DyndepShape)
unfolding on_dyndeps
second_line_after_a_join = refl

tab_in_block : entry_in (codes "build o: dyndep\n\trestat = 1") ≡ Err (Placed (at 2 1) cause.Tab)
unfolding on_dyndeps
tab_in_block = refl

indent_after_blank : second_of (codes "ninja_dyndep_version = 1\nbuild o: dyndep\n\n  restat = 1")
    ≡ Err (Placed (at 4 1) cause.UnexpectedIndent)
unfolding on_dyndeps
indent_after_blank = refl
