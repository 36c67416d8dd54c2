-- Worked rows on the forms of the grammar: a derivation written out, and files that no form matches.
use Rattle.std.proofs.Common.{◌≡◌, ℕ, true, Option, Some, Result, Ok, Err, List, [], ◌∷◌, refl, sym, ap, ◌∙◌}
use Rattle.std.specs.Prelude.{codes}
use Rattle.nj_text.specs.declared.sign.Sign.TheVariants as sign
use Rattle.nj_text.specs.Units.{Ordinary, TextUnit}
use Rattle.nj_text.specs.Lines.{Line, text_lines}
use Rattle.nj_text.specs.Words.{Text}
use Rattle.nj_text.proofs.Cuts.{plain_units}
use Rattle.nj_manifest.specs.Faults.{Fault}
use Rattle.nj_manifest.specs.LineSteps.{NameModel}
use Rattle.nj_manifest.specs.Statements.{OutputsModel, InputsModel, PlacedModel, BuildModel}
use Rattle.nj_manifest.specs.Grammar.{IdentifierForm, KeywordForm, WordForm, WordsForm, SignForm, SectionForm}
use Rattle.nj_manifest.specs.Grammar.{BuildForm, HeadForm, BlockForm, StatementForm, NextForm}
use Rattle.nj_manifest.proofs.StatementRows.{on_strings, first_of, item_of, at}
use Rattle.nj_manifest.proofs.FormsStatements.{next-read}

-- ---- `build a: r |`

abbrev units_at : (column : ℕ) → List ℕ → List TextUnit
units_at column bytes = plain_units (at 1 column) bytes

abbrev unit_at : (column : ℕ) → ℕ → TextUnit
unit_at column byte = record { spot = at 1 column; bytes = byte ∷ []; means = Ordinary byte }

abbrev outputs : OutputsModel
outputs = record { explicit = record { spot = at 1 7; parts = Text (codes "a") ∷ [] } ∷ []; implicit = [] }

abbrev rule : NameModel
rule = record { spot = at 1 10; name = codes "r" }

abbrev inputs : InputsModel
inputs = record { explicit = []; implicit = []; order_only = []; validations = [] }

keyword_row : KeywordForm (codes "build") (units_at 1 (codes "build a: r |")) (units_at 6 (codes " a: r |"))
keyword_row =
    record {
      spot = at 1 1;
      here = record {
        gap = [];
        first = unit_at 1 98;
        others =
            units_at 2 (codes "uild");
        cut = refl;
        blanks = refl;
        of_name = refl;
        longest = refl;
        place = refl;
        bytes = refl;
        some_byte = refl;
      };
    }

output_row : WordForm (units_at 6 (codes " a: r |")) (record { spot = at 1 7; parts = Text (codes "a") ∷ [] })
    (units_at 8 (codes ": r |"))
output_row = record {
  gap = units_at 6 (codes " ");
  first = unit_at 7 97;
  others = [];
  cut = refl;
  blanks =
      refl;
  opens = refl;
  of_word = refl;
  longest = refl;
  place = refl;
  parts = refl;
}

colon_row : SignForm sign.Colon (units_at 8 (codes ": r |")) (units_at 9 (codes " r |"))
colon_row = record {
  gap = [];
  run = units_at 8 (codes ":");
  cut = refl;
  blanks = refl;
  of_sign = refl;
  longest = refl;
}

rule_row : IdentifierForm (units_at 9 (codes " r |")) rule (units_at 11 (codes " |"))
rule_row = record {
  gap = units_at 9 (codes " ");
  first = unit_at 10 114;
  others = [];
  cut = refl;
  blanks =
      refl;
  of_name = refl;
  longest = refl;
  place = refl;
  bytes = refl;
  some_byte = refl;
}

pipe_row : SignForm sign.Pipe (units_at 11 (codes " |")) []
pipe_row = record {
  gap = units_at 11 (codes " ");
  run = units_at 12 (codes "|");
  cut = refl;
  blanks = refl;
  of_sign = refl;
  longest = refl;
}

-- an empty section is a section
build_row : BuildForm (units_at 1 (codes "build a: r |")) outputs rule inputs
build_row =
    record {
      after_build = units_at 6 (codes " a: r |");
      after_explicit = units_at 8 (codes ": r |");
      after_outputs = units_at 8 (codes ": r |");
      after_colon = units_at 9 (codes " r |");
      after_rule = units_at 11 (codes " |");
      after_inputs = units_at 11 (codes " |");
      after_implicit = [];
      after_order_only = [];
      after_validations = [];
      keyword = keyword_row;
      explicit_outputs = WordsForm.more output_row WordsForm.none;
      implicit_outputs = SectionForm.left_out;
      some_output = refl;
      colon = colon_row;
      of_rule = rule_row;
      explicit_inputs = WordsForm.none;
      implicit_inputs = SectionForm.there pipe_row WordsForm.none;
      order_only_inputs = SectionForm.left_out;
      validations = SectionForm.left_out;
      end = refl;
    }

-- the end of the text
abbrev end_of : (column : ℕ) → Line
end_of column = record { units = []; end = at 1 column; is_last = true }

statement_row : NextForm (text_lines (codes "build a: r |"))
    (Some (record { spot = at 1 1; item = BuildModel outputs rule inputs [] })) (end_of 13 ∷ [])
unfolding on_strings
statement_row = NextForm.statement refl (HeadForm.build build_row)
    (StatementForm.build (BlockForm.blank refl))

-- ---- files that no form matches

abbrev HasNoForm : List ℕ → Type 0
HasNoForm text = (found : Option PlacedModel) (rest : List Line) → NextForm (text_lines text) found rest → ⊥

-- the fault that its reading reports
refused : (text : List ℕ) (fault : Fault) → first_of text ≡ Err fault → HasNoForm text
refused text fault h found rest f = absurd (ok_is_err (sym (ap item_of (next-read f)) ∙ h))
  where
    ok_is_err : ◌≡◌ {A = Result (Option PlacedModel) Fault} (Ok found) (Err fault) → ⊥
    ok_is_err e = absurd cc

-- the sections come in their order
turned_sections : HasNoForm (codes "build a: r || b | c")
unfolding on_strings
turned_sections = refused (codes "build a: r || b | c") _ refl

no_output : HasNoForm (codes "build : r")
unfolding on_strings
no_output = refused (codes "build : r") _ refl

no_command : HasNoForm (codes "rule r\n  description = x")
unfolding on_strings
no_command = refused (codes "rule r\n  description = x") _ refl

keyword_is_not_name : HasNoForm (codes "build = x")
unfolding on_strings
keyword_is_not_name = refused (codes "build = x") _ refl
