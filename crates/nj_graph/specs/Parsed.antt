-- The items of a text: the statements of a manifest, the entries of a dyndep file.
use Rattle.std.specs.Prelude.{ℕ, zero, suc, Option, Some, None, Ok, Err, List, [], ◌∷◌, length}
use Rattle.nj_text.specs.Lines.{Line, text_lines}
use Rattle.nj_manifest.specs.Faults.{Fault}
use Rattle.nj_manifest.specs.Openings.{Parse}
use Rattle.nj_manifest.specs.Statements.{PlacedModel, next_statement}

-- the items up to the end, or up to the first item with a fault of syntax
pub record Parsed (A : Type 0) : Type 0 where
  pub items : List A
  pub fault : Option Fault

-- what is parsed next, and what is parsed after it
abbrev pub parsed_by : {A : Type 0} → Parse (Option A) → (List Line → Parsed A) → Parsed A
parsed_by (Ok (Some item, rest)) others = record { items = item ∷ (others rest).items; fault = (others rest).fault }
parsed_by (Ok (None, rest)) others = record { items = []; fault = None }
parsed_by (Err fault) others = record { items = []; fault = Some fault }

-- the items of the lines, where there are fewer items than the given number
unfoldable pub parsed_in : {A : Type 0} → (next : List Line → Parse (Option A)) → (most : ℕ) → List Line → Parsed A
parsed_in next zero lines = record { items = []; fault = None }
parsed_in next (suc most) lines = parsed_by (next lines) (parsed_in next most)

-- A statement has at least one byte.
abbrev pub parsed : (text : List ℕ) → Parsed PlacedModel
parsed text = parsed_in next_statement (suc (length text)) (text_lines text)
