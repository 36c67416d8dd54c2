-- What a depfile names.
use Rattle.std.specs.Prelude.{ℕ, ◌-◌, Bool, not, ◌&&◌, ◌||◌, if◌then◌else◌, ◌==◌, Result, Ok, Err, List, [], ◌∷◌, ◌++◌, length, map, filter, take, drop, fold, slice_index, flat_map}
use Rattle.std.specs.List.{list_any}
use Rattle.nj_names.specs.NameTables.{is_among, with_name}
use Rattle.nj_depfiles.specs.Pieces.{Piece, pieces}
use Rattle.nj_depfiles.specs.Pieces.Piece.{NameBytes, NameEnd, LineEnd}
use Rattle.nj_depfiles.specs.declared.depfile_fault.DepfileFault.{DepfileFault}
use Rattle.nj_depfiles.specs.declared.depfile_fault.DepfileFault.TheVariants.{InputHasInputs, NoColon}

-- the targets and the inputs, without duplicates, compared letter by letter
pub record DepfileModel : Type 0 where
  pub targets : List (List ℕ)
  pub inputs : List (List ℕ)

-- ---- the words of a line

-- a word, unless it has no bytes
abbrev pub word_of : List ℕ → List (List ℕ)
word_of [] = []
word_of (byte ∷ bytes) = (byte ∷ bytes) ∷ []

-- words in front of those of the first line
abbrev pub onto_first : (words : List (List ℕ)) → List (List (List ℕ)) → List (List (List ℕ))
onto_first words [] = words ∷ []
onto_first words (line ∷ lines) = (words ++ line) ∷ lines

-- the words of each line; the first word begins with the bytes so far
abbrev pub words_from : (so_far : List ℕ) → List Piece → List (List (List ℕ))
words_from so_far [] = word_of so_far ∷ []
words_from so_far (NameBytes bytes ∷ more) = words_from (so_far ++ bytes) more
words_from so_far (NameEnd ∷ more) = onto_first (word_of so_far) (words_from [] more)
words_from so_far (LineEnd ∷ more) = word_of so_far ∷ words_from [] more

-- ---- targets and inputs

-- a word ends in a colon
abbrev pub ends_in_colon : List ℕ → Bool
ends_in_colon word = slice_index word (length word - 1) == 58

-- a word without the colon at its end
abbrev pub name_in : List ℕ → List ℕ
name_in word = if ends_in_colon word then take (length word - 1) word else word

-- the names in the given words; a colon alone has no name
abbrev pub names_in : List (List ℕ) → List (List ℕ)
names_in words = flat_map (λ word. word_of (name_in word)) words

-- the words of a line up to the first that ends in a colon: they are targets, and the other words inputs
abbrev pub left_of : List (List ℕ) → List (List ℕ)
left_of [] = []
left_of (word ∷ words) = if ends_in_colon word then word ∷ [] else word ∷ left_of words

-- the words of a line behind its targets
abbrev pub right_of : List (List ℕ) → List (List ℕ)
right_of words = drop (length (left_of words)) words

-- a name is not an input yet
abbrev pub is_no_input : DepfileModel → (name : List ℕ) → Bool
is_no_input named name = not (is_among named.inputs name)

-- what is named so far, with a line: a target that is an input already is not added, and such a line has no new input
abbrev pub with_line : DepfileModel → (words : List (List ℕ)) → Result DepfileModel DepfileFault
with_line so_far words =
    let left = names_in (left_of words) in
    let right = names_in (right_of words) in
    if not (list_any (is_among so_far.inputs) left && list_any (is_no_input so_far) right)
    then Ok (record {
      targets = fold with_name so_far.targets (filter (is_no_input so_far) left);
      inputs = fold with_name so_far.inputs right;
    })
    else Err InputHasInputs

-- the same with many lines
abbrev pub with_lines : DepfileModel → (lines : List (List (List ℕ))) → Result DepfileModel DepfileFault
with_lines so_far [] = Ok so_far
with_lines so_far (words ∷ lines) = elim (with_line so_far words) [ Ok named ↦ with_lines named lines | Err fault ↦ Err fault ]

-- some word ends in a colon
abbrev pub has_colon : (lines : List (List (List ℕ))) → Bool
has_colon lines = list_any (list_any ends_in_colon) lines

-- no targets and no inputs
abbrev pub nothing_named : DepfileModel
nothing_named = record { targets = []; inputs = [] }

-- what a depfile with the given lines names
abbrev pub named_in_lines : (lines : List (List (List ℕ))) → Result DepfileModel DepfileFault
named_in_lines lines =
    elim (with_lines nothing_named lines) [
      | Ok named ↦ if has_colon lines then Ok named else Err NoColon
      | Err fault ↦ Err fault
    ]

-- what a depfile with the given text names
abbrev pub depfile_of : (text : List ℕ) → Result DepfileModel DepfileFault
depfile_of text = named_in_lines (words_from [] (pieces text))
