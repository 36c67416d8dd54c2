-- Worked rows, computed on the definitions: files that begin with a statement, and files without one.
use Rattle.std.proofs.Common.{◌≡◌, ℕ, zero, suc, Option, Some, None, Result, Ok, Err, List, [], ◌∷◌, refl}
use Rattle.std.specs.Prelude.{⊤, codes}
use Rattle.nj_text.specs.declared.spot.Spot.{Spot}
use Rattle.nj_text.specs.Units.{cut}
use Rattle.nj_text.specs.Lines.{Line, text_lines}
use Rattle.nj_text.specs.Words.{WordModel, Text, Name}
use Rattle.nj_manifest.specs.declared.cause.SyntaxCause.TheVariants as cause
use Rattle.nj_manifest.specs.Faults.{Fault, Placed}
use Rattle.nj_manifest.specs.LineSteps.{NameModel, name_next, expect_sign, words_within, words_next}
use Rattle.nj_manifest.specs.LineSteps.{section_next}
use Rattle.nj_manifest.specs.Openings.{Parse, opening}
use Rattle.nj_manifest.specs.Statements.{LineModel, OutputsModel, InputsModel, PlacedModel, StatementModel}
use Rattle.nj_manifest.specs.Statements.{BindingModel, RuleModel, PoolModel, BuildModel, DefaultModel}
use Rattle.nj_manifest.specs.Statements.{IncludeModel, SubninjaModel, equals_value, line_next, outputs_next}
use Rattle.nj_manifest.specs.Statements.{inputs_next, build_next, rule_next, pool_next, targets_next}
use Rattle.nj_manifest.specs.Statements.{file_next, statement_after, block, next_statement}

-- the definitions that a row unfolds to compute on its text
unfoldable pub on_strings : ⊤
unfolding cut opening next_statement statement_after name_next expect_sign words_next words_within
    section_next outputs_next inputs_next build_next rule_next pool_next targets_next file_next equals_value
    line_next block
on_strings = tt

-- ---- the facts of a row

-- the statement, without the lines after it
abbrev pub item_of : Parse (Option PlacedModel) → Result (Option PlacedModel) Fault
item_of (Ok r) = Ok r.0
item_of (Err f) = Err f

-- the first statement of a text
abbrev pub first_of : List ℕ → Result (Option PlacedModel) Fault
first_of text = item_of (next_statement (text_lines text))

-- a result before the results that follow it; a fault ends them
abbrev outcomes_from : Parse (Option PlacedModel) → (List Line → List (Result (Option PlacedModel) Fault))
    → List (Result (Option PlacedModel) Fault)
outcomes_from (Ok r) others = Ok r.0 ∷ others r.1
outcomes_from (Err f) others = Err f ∷ []

-- the results of the given number of readings, each from the lines after the one before
abbrev outcomes : (turns : ℕ) → List Line → List (Result (Option PlacedModel) Fault)
outcomes zero ls = []
outcomes (suc turns) ls = outcomes_from (next_statement ls) (outcomes turns)

abbrev pub at : (line column : ℕ) → Spot
at line column = record { line = line; column = column }

-- a word or a value of one part
abbrev word : (line column : ℕ) → List ℕ → WordModel
word line column bytes = record { spot = at line column; parts = Text bytes ∷ [] }

abbrev name_at : (line column : ℕ) → List ℕ → NameModel
name_at line column name = record { spot = at line column; name = name }

abbrev line_at : (line column : ℕ) → List ℕ → WordModel → LineModel
line_at line column name value = record { spot = at line column; name = name; value = value }

-- outputs that are all explicit
abbrev to : List WordModel → OutputsModel
to words = record { explicit = words; implicit = [] }

-- inputs that are all explicit
abbrev from : List WordModel → InputsModel
from words = record { explicit = words; implicit = []; order_only = []; validations = [] }

abbrev placed : (line column : ℕ) → StatementModel → Result (Option PlacedModel) Fault
placed line column item = Ok (Some (record { spot = at line column; item = item }))

-- ---- words

-- an escape is a part of its own
escapes : first_of (codes "build o$ 1: cp it's$ x") ≡ placed 1 1 (BuildModel
    (to (record { spot = at 1 7; parts = Text (codes "o") ∷ Text (codes " ") ∷ Text (codes "1") ∷ [] } ∷ []))
    (name_at 1 13 (codes "cp"))
    (from (record { spot = at 1 16; parts = Text (codes "it's") ∷ Text (codes " ") ∷ Text (codes "x") ∷ [] } ∷
    []))
    [])
unfolding on_strings
escapes = refl

-- a join inside a word does not end it
joined_word : first_of (codes "build o: cp a$\n  b") ≡ placed 1 1 (BuildModel
    (to (word 1 7 (codes "o") ∷ []))
    (name_at 1 10 (codes "cp"))
    (from (record { spot = at 1 13; parts = Text (codes "a") ∷ Text (codes "b") ∷ [] } ∷ []))
    [])
unfolding on_strings
joined_word = refl

-- a join after a space comes between words
parted_words : first_of (codes "build o: cp a $\n  b") ≡ placed 1 1 (BuildModel
    (to (word 1 7 (codes "o") ∷ []))
    (name_at 1 10 (codes "cp"))
    (from (word 1 13 (codes "a") ∷ word 2 3 (codes "b") ∷ []))
    [])
unfolding on_strings
parted_words = refl

-- ---- statements

-- a section may have no words
empty_section : first_of (codes "build a: r |")
    ≡ placed 1 1 (BuildModel (to (word 1 7 (codes "a") ∷ [])) (name_at 1 10 (codes "r")) (from []) [])
unfolding on_strings
empty_section = refl

all_sections : first_of (codes "build a | b: r c | d || e |@ f") ≡ placed 1 1 (BuildModel
    (record { explicit = word 1 7 (codes "a") ∷ []; implicit = word 1 11 (codes "b") ∷ [] })
    (name_at 1 14 (codes "r"))
    (record {
      explicit = word 1 16 (codes "c") ∷ [];
      implicit = word 1 20 (codes "d") ∷ [];
      order_only =
          word 1 25 (codes "e") ∷ [];
      validations = word 1 30 (codes "f") ∷ [];
    })
    [])
unfolding on_strings
all_sections = refl

-- an implicit output is enough
implicit_output : first_of (codes "build | a: r")
    ≡ placed 1 1 (BuildModel (record { explicit = []; implicit = word 1 9 (codes "a") ∷ [] })
    (name_at 1 12 (codes "r")) (from []) [])
unfolding on_strings
implicit_output = refl

-- an identifier that only begins like a keyword
dotted_name : first_of (codes "build.dir = x")
    ≡ placed 1 1 (BindingModel (codes "build.dir") (word 1 13 (codes "x")))
unfolding on_strings
dotted_name = refl

-- the joined lines are one line
joined_value : first_of (codes "x = $\n  1") ≡ placed 1 1 (BindingModel (codes "x") (word 2 3 (codes "1")))
unfolding on_strings
joined_value = refl

after_comment : first_of (codes "# c\n\nx = 1\r\n")
    ≡ placed 3 1 (BindingModel (codes "x") (word 3 5 (codes "1")))
unfolding on_strings
after_comment = refl

whole_of_pool : first_of (codes "pool p\n  depth = 1")
    ≡ placed 1 1 (PoolModel (name_at 1 6 (codes "p"))
    (line_at 2 3 (codes "depth") (word 2 11 (codes "1")) ∷ []))
unfolding on_strings
whole_of_pool = refl

-- comments are among the lines of a block
whole_of_rule : first_of (codes "rule r\n# c\n  command = x $in\n  # d\n  restat =\n")
    ≡ placed 1 1 (RuleModel (name_at 1 6 (codes "r"))
    (line_at 3 3 (codes "command") (record
    { spot = at 3 13; parts = Text (codes "x ") ∷ Name (codes "in") ∷ [] }) ∷ line_at 5 3 (codes "restat")
    (record { spot = at 5 11; parts = [] }) ∷ []))
unfolding on_strings
whole_of_rule = refl

-- ---- one statement after the other

no_statement : first_of [] ≡ Ok None
unfolding on_strings
no_statement = refl

-- the end of a text is answered again and again
to_the_end : outcomes 5 (text_lines (codes "include a\nsubninja b\ndefault c d")) ≡
    placed 1 1 (IncludeModel (word 1 9 (codes "a"))) ∷ placed 2 1 (SubninjaModel (word 2 10 (codes "b"))) ∷
    placed 3 1 (DefaultModel (word 3 9 (codes "c") ∷ word 3 11 (codes "d") ∷ [])) ∷ Ok None ∷ Ok None ∷ []
unfolding on_strings
to_the_end = refl

-- a blank line ends a block
after_block : outcomes 2 (text_lines (codes "build a: r\n  x = 1\n\n  y = 2\n")) ≡
    placed 1 1 (BuildModel (to (word 1 7 (codes "a") ∷ [])) (name_at 1 10 (codes "r")) (from [])
    (line_at 2 3 (codes "x") (word 2 7 (codes "1")) ∷ [])) ∷ Err (Placed (at 4 1) cause.UnexpectedIndent)
    ∷ []
unfolding on_strings
after_block = refl

-- a comment may end the text, within a block too
comment_at_end : outcomes 3 (text_lines (codes "rule r\n  command = x\n  # c")) ≡
    placed 1 1 (RuleModel (name_at 1 6 (codes "r"))
    (line_at 2 3 (codes "command") (word 2 13 (codes "x")) ∷ [])) ∷ Ok None ∷ Ok None ∷ []
unfolding on_strings
comment_at_end = refl

-- a statement ends the block before it
at_once : outcomes 3 (text_lines (codes "pool p\n  depth = 1\nbuild a: r\n\n\n")) ≡
    placed 1 1 (PoolModel (name_at 1 6 (codes "p"))
    (line_at 2 3 (codes "depth") (word 2 11 (codes "1")) ∷ [])) ∷ placed 3 1
    (BuildModel (to (word 3 7 (codes "a") ∷ [])) (name_at 3 10 (codes "r")) (from []) []) ∷ Ok None ∷ []
unfolding on_strings
at_once = refl
