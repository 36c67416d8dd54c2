-- The reading of a depfile, word by word. Nothing here has to be believed.
use Rattle.std.specs.Prelude.{◌≡◌, ◌⊎◌, ℕ, Bool, true, false, ◌&&◌, ◌||◌, not, if◌then◌else◌, Result, Ok, Err, List, [], ◌∷◌, ◌++◌}
use Rattle.nj_names.specs.NameTables.{is_among, with_name}
use Rattle.nj_depfiles.specs.Pieces.{Piece}
use Rattle.nj_depfiles.specs.Pieces.Piece.{NameBytes, NameEnd, LineEnd}
use Rattle.nj_depfiles.specs.Depfiles.{DepfileModel, nothing_named, ends_in_colon, name_in}
use Rattle.nj_depfiles.specs.declared.depfile_fault.DepfileFault.{DepfileFault}
use Rattle.nj_depfiles.specs.declared.depfile_fault.DepfileFault.TheVariants.{InputHasInputs, NoColon, OutOfMemory}

-- what is named up to a word of a line; the words after a word with a colon are inputs
pub record LineModel : Type 0 where
  pub named : DepfileModel
  pub is_right : Bool
  pub is_poisoned : Bool
  pub has_colon : Bool

-- the same, with the bytes of the next word so far
pub record ReadingModel : Type 0 where
  pub line : LineModel
  pub word : List ℕ

abbrev pub line_start : DepfileModel → (has_colon : Bool) → LineModel
line_start named has_colon = record { named = named; is_right = false; is_poisoned = false; has_colon = has_colon }

abbrev pub at_start : ReadingModel
at_start = record { line = line_start nothing_named false; word = [] }

abbrev pub then_read : {A B : Type 0} → Result A DepfileFault → (A → Result B DepfileFault) → Result B DepfileFault
then_read (Ok value) f = f value
then_read (Err fault) f = Err fault

-- ---- a name

abbrev pub with_target : LineModel → (name : List ℕ) → LineModel
with_target line name =
    if is_among line.named.inputs name then record line { is_poisoned = true }
    else record line { named = record line.named { targets = with_name line.named.targets name } }

abbrev pub with_input : LineModel → (name : List ℕ) → Result LineModel DepfileFault
with_input line name =
    if line.is_poisoned && not (is_among line.named.inputs name) then Err InputHasInputs
    else Ok (record line { named = record line.named { inputs = with_name line.named.inputs name } })

abbrev pub with_name_read : LineModel → (name : List ℕ) → Result LineModel DepfileFault
with_name_read line [] = Ok line
with_name_read line (byte ∷ name) =
    if line.is_right then with_input line (byte ∷ name) else Ok (with_target line (byte ∷ name))

-- ---- a word

abbrev pub after_colon : (is_colon : Bool) → LineModel → LineModel
after_colon is_colon line = record line { is_right = line.is_right || is_colon; has_colon = line.has_colon || is_colon }

abbrev pub word_read : LineModel → (word : List ℕ) → Result LineModel DepfileFault
word_read line word = then_read (with_name_read line (name_in word)) (λ after. Ok (after_colon (ends_in_colon word) after))

-- the word so far is whole, unless it is empty
abbrev pub word_ended : LineModel → (word : List ℕ) → Result LineModel DepfileFault
word_ended line [] = Ok line
word_ended line (byte ∷ bytes) = word_read line (byte ∷ bytes)

abbrev pub line_ended : LineModel → LineModel
line_ended line = record line { is_right = false; is_poisoned = false }

-- ---- pieces

abbrev pub before_word : LineModel → ReadingModel
before_word line = record { line = line; word = [] }

abbrev pub piece_read : ReadingModel → Piece → Result ReadingModel DepfileFault
piece_read r (NameBytes bytes) = Ok (record r { word = r.word ++ bytes })
piece_read r NameEnd = then_read (word_ended r.line r.word) (λ line. Ok (before_word line))
piece_read r LineEnd = then_read (word_ended r.line r.word) (λ line. Ok (before_word (line_ended line)))

-- at the end of the text
abbrev pub told : LineModel → Result DepfileModel DepfileFault
told line = if line.has_colon then Ok line.named else Err NoColon

abbrev pub pieces_read : ReadingModel → List Piece → Result DepfileModel DepfileFault
pieces_read r [] = then_read (word_ended r.line r.word) told
pieces_read r (piece ∷ more) = then_read (piece_read r piece) (λ after. pieces_read after more)

-- ---- of calls

-- a call continues with the new value, or it ends with the given fault, or memory ran out
abbrev pub GoesOn : {A : Type 0} → Result A DepfileFault → (new : A) → Result (Unit {0}) DepfileFault → Type 0
GoesOn expected new (Ok done) = expected ≡ Ok new
GoesOn expected new (Err fault) = (fault ≡ OutOfMemory) ⊎ (expected ≡ Err fault)

-- the result of a call, or memory ran out
abbrev pub Answers : Result DepfileModel DepfileFault → Result DepfileModel DepfileFault → Type 0
Answers expected (Ok named) = expected ≡ Ok named
Answers expected (Err fault) = (fault ≡ OutOfMemory) ⊎ (expected ≡ Err fault)
