-- How lines are read and held. Nothing here has to be believed.
use Rattle.std.specs.Prelude.{◌≡◌, ℕ, ◌<◌, Bool, false, if◌then◌else◌, Option, Some, None, List, [], ◌∷◌, length, map, bytes_eq}
use Rattle.std.specs.List.{before_first, after_first, list_any, AllByRecursion}
use Rattle.nj_names.specs.NameTables.{name_at}
use Rattle.nj_build_log.specs.Logs.{LineModel, entry_of, outputs_of}
use Rattle.nj_build_log.specs.declared.entry.Entry.{Entry}
use Rattle.nj_build_log.specs.declared.line_table.HeldLine.{HeldLine}

-- the text before the first byte that passes, and the text after it
abbrev pub split_at_first : (ℕ → Bool) → List ℕ → Option (List ℕ × List ℕ)
split_at_first test text = if list_any test text then Some (before_first test text, after_first test text) else None

-- ---- the table

-- a line, by the number of its output
abbrev pub named : (outputs : List (List ℕ)) → HeldLine → LineModel
named outputs line = record { output = name_at outputs line.output; entry = line.entry }

-- lines, by the numbers of their outputs
abbrev pub all_named : (outputs : List (List ℕ)) → List HeldLine → List LineModel
all_named outputs lines = map (named outputs) lines

-- the entry that is held for an output
abbrev pub found_entry : (outputs : List (List ℕ)) → List Entry → (output : List ℕ) → Option Entry
found_entry [] entries output = None
found_entry (other ∷ outputs) [] output = None
found_entry (other ∷ outputs) (entry ∷ entries) output =
    if bytes_eq output other then Some entry else found_entry outputs entries output

-- each output once, and for each output the entry of its last line
pub record AreLinesHeld (outputs : List (List ℕ)) (lines : List HeldLine) (entries : List Entry) : Type 0 where
  pub outputs_named : outputs ≡ outputs_of (all_named outputs lines)
  pub known : AllByRecursion (λ line. line.output < length outputs) lines
  pub count : length entries ≡ length outputs
  pub last : (output : List ℕ) → entry_of (all_named outputs lines) output ≡ found_entry outputs entries output

-- the entry of an output is set, and the other entries stay
pub record SetsEntry (output : List ℕ) (entry : Entry) (old_outputs new_outputs : List (List ℕ)) (old new : List Entry) : Type 0 where
  pub count : length new ≡ length new_outputs
  pub same : found_entry new_outputs new output ≡ Some entry
  pub others : (other : List ℕ) → bytes_eq other output ≡ false
      → found_entry new_outputs new other ≡ found_entry old_outputs old other
