-- Laws above the definition of the next statement.
use Rattle.std.specs.Prelude.{◌≡◌, false, Option, Ok, Err, List, ◌↔◌}
use Rattle.nj_text.specs.Lines.{Line}
use Rattle.nj_manifest.specs.Faults.{Fault, is_syntax}
use Rattle.nj_manifest.specs.Statements.{PlacedModel, next_statement}
use Rattle.nj_manifest.specs.Grammar.{NextForm, NextLacks}

-- A statement, or `None`, is read from lines exactly if the forms of the manual allow it.
abbrev pub StatementsAreTheForms : Type 0
StatementsAreTheForms =
    (ls : List Line) (found : Option PlacedModel) (rest : List Line) → (next_statement ls ≡ Ok (found, rest)) ↔ NextForm ls found rest

-- A missing line of a rule or a pool is a fault exactly if the block, whose lines all have their form, lacks it.
abbrev pub MissingLinesAreLacking : Type 0
MissingLinesAreLacking =
    (ls : List Line) (fault : Fault) → ((next_statement ls ≡ Err fault) × (is_syntax fault ≡ false)) ↔ NextLacks ls fault
