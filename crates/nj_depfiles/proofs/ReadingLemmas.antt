-- Reading a depfile piece by piece is reading it line by line.
use Rattle.std.proofs.Common.{arith, ◌≡◌, IsErr, ℕ, Bool, true, false, not, ◌||◌, ◌&&◌}
use Rattle.std.proofs.Common.{if◌then◌else◌, Result, Ok, Err, List, [], ◌∷◌, ◌++◌, length, drop, refl, sym}
use Rattle.std.proofs.Common.{ap, ◌∙◌}
use Rattle.std.specs.Prelude.{filter, fold, IfOk, IfErr, ◌⊎◌}
use Rattle.std.specs.List.{list_any}
use Rattle.std.specs.Result.{IsErrAnd}
use Rattle.nj_names.specs.NameTables.{is_among, with_name}
use Rattle.nj_depfiles.specs.Pieces.{Piece, pieces, pieces_after}
use Rattle.nj_depfiles.specs.Pieces.Piece.{NameBytes, NameEnd, LineEnd}
use Rattle.nj_depfiles.specs.Depfiles.{DepfileModel, is_no_input, word_of, onto_first}
use Rattle.nj_depfiles.specs.Depfiles.{words_from, ends_in_colon, name_in, names_in, left_of, right_of}
use Rattle.nj_depfiles.specs.Depfiles.{with_line, with_lines, has_colon, depfile_of}
use Rattle.nj_depfiles.specs.declared.depfile_fault.DepfileFault.{DepfileFault}
use Rattle.nj_depfiles.specs.declared.depfile_fault.DepfileFault.TheVariants.{InputHasInputs, NoColon}
use Rattle.nj_depfiles.specs.declared.depfile_fault.DepfileFault.TheVariants.{OutOfMemory}
use Rattle.nj_depfiles.specs.Inside.Readings.{LineModel, ReadingModel, line_start, at_start, then_read}
use Rattle.nj_depfiles.specs.Inside.Readings.{with_name_read, word_read, word_ended, after_colon, line_ended}
use Rattle.nj_depfiles.specs.Inside.Readings.{before_word, told, piece_read, pieces_read, Answers}

-- ---- results in turn

then-same : {A B : Type 0} (r : Result A DepfileFault) (f g : A → Result B DepfileFault)
    → ((value : A) → f value ≡ g value) → then_read r f ≡ then_read r g
then-same r f g same = grind arith

then-then : {A B C : Type 0} (r : Result A DepfileFault) (f : A → Result B DepfileFault)
    (g : B → Result C DepfileFault)
    → then_read (then_read r f) g ≡ then_read r (λ value. then_read (f value) g)
then-then r f g = grind arith

then-ok : {A : Type 0} (r : Result A DepfileFault) → then_read r (λ value. Ok value) ≡ r
then-ok r = grind arith

-- ---- words and lines

abbrev words_read : LineModel → (words : List (List ℕ)) → Result LineModel DepfileFault
words_read line [] = Ok line
words_read line (word ∷ words) = then_read (word_read line word) (λ after. words_read after words)

abbrev lines_read : LineModel → (lines : List (List (List ℕ))) → Result LineModel DepfileFault
lines_read line [] = Ok line
lines_read line (words ∷ lines) = then_read (words_read line words)
    (λ after. lines_read (line_ended after) lines)

words-of : (line : LineModel) (word : List ℕ) → words_read line (word_of word) ≡ word_ended line word
words-of line word = grind arith

words-append : (line : LineModel) (one other : List (List ℕ))
    → words_read line (one ++ other) ≡ then_read (words_read line one) (λ after. words_read after other)
words-append line [] other = refl
words-append line (word ∷ words) other =
    then-same (word_read line word) (λ after. words_read after (words ++ other))
    (λ after. then_read (words_read after words) (λ last. words_read last other))
    (λ after. words-append after words other)
    ∙ sym (then-then (word_read line word) (λ after. words_read after words) (λ last. words_read last other))

-- the words of the first line come after other words
lines-onto : (line : LineModel) (words : List (List ℕ)) (lines : List (List (List ℕ)))
    → then_read (lines_read line (onto_first words lines)) told
    ≡ then_read (words_read line words) (λ after. then_read (lines_read after lines) told)
lines-onto line words lines = grind (arith, then-then, words-append)

-- ---- pieces

pub pieces-lines : (line : LineModel) (word : List ℕ) (ps : List Piece)
    → pieces_read (record { line = line; word = word }) ps
    ≡ then_read (lines_read line (words_from word ps)) told
pieces-lines line word [] = grind arith
pieces-lines line word (NameBytes bytes ∷ ps) = pieces-lines line (word ++ bytes) ps
pieces-lines line word (NameEnd ∷ ps) =
    then-then (word_ended line word) (λ after. Ok (before_word after)) (λ after. pieces_read after ps)
    ∙ then-same (word_ended line word) (λ after. pieces_read (before_word after) ps)
    (λ after. then_read (lines_read after (words_from [] ps)) told) (λ after. pieces-lines after [] ps)
    ∙ ap (λ r. then_read r (λ after. then_read (lines_read after (words_from [] ps)) told))
    (sym (words-of line word))
    ∙ sym (lines-onto line (word_of word) (words_from [] ps))
pieces-lines line word (LineEnd ∷ ps) =
    then-then (word_ended line word) (λ after. Ok (before_word (line_ended after)))
    (λ after. pieces_read after ps)
    ∙ then-same (word_ended line word) (λ after. pieces_read (before_word (line_ended after)) ps)
    (λ after. then_read (lines_read (line_ended after) (words_from [] ps)) told)
    (λ after. pieces-lines (line_ended after) [] ps)
    ∙ ap (λ r. then_read r (λ after. then_read (lines_read (line_ended after) (words_from [] ps)) told))
    (sym (words-of line word))
    ∙ sym (then-then (words_read line (word_of word))
    (λ after. lines_read (line_ended after) (words_from [] ps)) told)

-- ---- a line

or-false : (one : Bool) → (one || false) ≡ one
or-false one = grind arith

or-true : (one : Bool) → (one || true) ≡ true
or-true one = grind arith

and-false : (one : Bool) → (one && false) ≡ false
and-false one = grind arith

or-or : (one other last : Bool) → ((one || other) || last) ≡ (one || (other || last))
or-or one other last = grind arith

-- the words after a name
abbrev words_after : LineModel → (is_colon : Bool) → (name : List ℕ) → (words : List (List ℕ))
    → Result LineModel DepfileFault
words_after line is_colon name words =
    then_read (then_read (with_name_read line name) (λ after. Ok (after_colon is_colon after)))
    (λ after. words_read after words)

-- ---- inputs

-- a line whose next words are inputs
abbrev right_line : (named : DepfileModel) (poisoned colon : Bool) → LineModel
right_line named poisoned colon = record
    { named = named; is_right = true; is_poisoned = poisoned; has_colon = colon }

abbrev with_inputs : DepfileModel → List (List ℕ) → DepfileModel
with_inputs named inputs = record { targets = named.targets; inputs = inputs }

-- the line after the names of inputs
abbrev right_by : (named : DepfileModel) (poisoned colon : Bool) (names : List (List ℕ))
    → Result LineModel DepfileFault
right_by named poisoned colon names =
    if not (poisoned && list_any (is_no_input named) names)
    then Ok (right_line (with_inputs named (fold with_name named.inputs names)) poisoned colon)
    else Err InputHasInputs

right-read : (named : DepfileModel) (poisoned colon : Bool) (words : List (List ℕ))
    → words_read (right_line named poisoned colon) words
    ≡ right_by named poisoned (colon || list_any ends_in_colon words) (names_in words)
right-read named true colon [] = rw (or-false colon) refl
right-read named false colon [] = rw (or-false colon) refl
right-read named poisoned colon (word ∷ words) =
    by (λ p inputs. right-read (with_inputs named inputs) p (colon || ends_in_colon word) words
    ∙ ap (λ c. right_by (with_inputs named inputs) p c (names_in words))
    (or-or colon (ends_in_colon word) (list_any ends_in_colon words)))
    (name_in word)
  where
    -- the words after the current one
    After : Type 0
    After = (p : Bool) (inputs : List (List ℕ))
        → words_read (right_line (with_inputs named inputs) p (colon || ends_in_colon word)) words
        ≡ right_by (with_inputs named inputs) p
        (colon || (ends_in_colon word || list_any ends_in_colon words)) (names_in words)

    -- a name that is an input or not
    step : After → (name : List ℕ) (p known : Bool)
        → then_read (then_read (if p && not known then Err InputHasInputs
        else Ok (right_line (with_inputs named (if known then named.inputs else named.inputs ++ name ∷ [])) p
        colon)) (λ line. Ok (after_colon (ends_in_colon word) line))) (λ line. words_read line words)
        ≡ (if not (p && (not known || list_any (is_no_input named) (names_in words)))
        then Ok (right_line (with_inputs named
        (fold with_name (if known then named.inputs else named.inputs ++ name ∷ []) (names_in words))) p
        (colon || (ends_in_colon word || list_any ends_in_colon words)))
        else Err InputHasInputs)
    step after name true true = after true named.inputs
    step after name true false = refl
    step after name false true = after false named.inputs
    step after name false false = after false (named.inputs ++ name ∷ [])

    by : After → (name : List ℕ) → words_after (right_line named poisoned colon) (ends_in_colon word) name
        words
        ≡ right_by named poisoned (colon || (ends_in_colon word || list_any ends_in_colon words))
        (word_of name ++ names_in words)
    by after [] = after poisoned named.inputs
    by after (byte ∷ name) = step after (byte ∷ name) poisoned (is_among named.inputs (byte ∷ name))

-- ---- targets

-- a line whose next words are targets
abbrev left_line : (named : DepfileModel) (poisoned colon : Bool) → LineModel
left_line named poisoned colon = record
    { named = named; is_right = false; is_poisoned = poisoned; has_colon = colon }

-- the line after the names of targets and of inputs
abbrev left_by : (named : DepfileModel) (poisoned colon is_right : Bool) (left right : List (List ℕ))
    → Result LineModel DepfileFault
left_by named poisoned colon is_right left right =
    if not ((poisoned || list_any (is_among named.inputs) left) && list_any (is_no_input named) right)
    then Ok (record {
      named = record {
        targets = fold with_name named.targets (filter (is_no_input named) left);
        inputs =
            fold with_name named.inputs right;
      };
      is_right = is_right;
      is_poisoned = poisoned || list_any (is_among named.inputs) left;
      has_colon = colon;
    })
    else Err InputHasInputs

right-is-left : (named : DepfileModel) (poisoned colon : Bool) (names : List (List ℕ))
    → right_by named poisoned colon names ≡ left_by named poisoned colon true [] names
right-is-left named poisoned colon names = grind arith

-- what is named after a target, and whether a target was an input
abbrev named_after : (known : Bool) → DepfileModel → (name : List ℕ) → DepfileModel
named_after known named name = if known then named else record
    { targets = with_name named.targets name; inputs = named.inputs }

abbrev poisoned_after : (known poisoned : Bool) → Bool
poisoned_after known poisoned = if known then true else poisoned

target-read : (named : DepfileModel) (poisoned colon : Bool) (byte : ℕ) (name : List ℕ)
    → with_name_read (left_line named poisoned colon) (byte ∷ name)
    ≡ Ok (left_line (named_after (is_among named.inputs (byte ∷ name)) named (byte ∷ name))
    (poisoned_after (is_among named.inputs (byte ∷ name)) poisoned) colon)
target-read named poisoned colon byte name = grind arith

target-more : (named : DepfileModel) (poisoned colon is_right : Bool) (name : List ℕ)
    (left right : List (List ℕ))
    → left_by (named_after (is_among named.inputs name) named name)
    (poisoned_after (is_among named.inputs name) poisoned) colon is_right left right
    ≡ left_by named poisoned colon is_right (name ∷ left) right
target-more named poisoned colon is_right name left right = grind arith

last-target : (named : DepfileModel) (poisoned colon : Bool) (name : List ℕ) (words : List (List ℕ))
    → words_after (left_line named poisoned colon) true name words
    ≡ left_by named poisoned (colon || true) true (word_of name ++ []) (names_in words)
last-target named poisoned colon name words = by name
  where
    after : (now : DepfileModel) (p : Bool)
        → words_read (right_line now p (colon || true)) words
        ≡ left_by now p (colon || true) true [] (names_in words)
    after now p =
        right-read now p (colon || true) words
        ∙ ap (λ c. right_by now p c (names_in words)) (or-or colon true (list_any ends_in_colon words))
        ∙ right-is-left now p (colon || true) (names_in words)

    by : (name : List ℕ) → words_after (left_line named poisoned colon) true name words
        ≡ left_by named poisoned (colon || true) true (word_of name ++ []) (names_in words)
    by [] = after named poisoned
    by (byte ∷ name) =
        ap (λ r. then_read (then_read r (λ line. Ok (after_colon true line))) (λ line. words_read line words))
        (target-read named poisoned colon byte name)
        ∙ after (named_after (is_among named.inputs (byte ∷ name)) named (byte ∷ name))
        (poisoned_after (is_among named.inputs (byte ∷ name)) poisoned)
        ∙ target-more named poisoned (colon || true) true (byte ∷ name) [] (names_in words)

left-read : (named : DepfileModel) (poisoned colon : Bool) (words : List (List ℕ))
    → words_read (left_line named poisoned colon) words
    ≡ left_by named poisoned (colon || list_any ends_in_colon words) (list_any ends_in_colon words)
    (names_in (left_of words)) (names_in (right_of words))
left-read named true colon [] = rw (or-false colon) refl
left-read named false colon [] = rw (or-false colon) refl
left-read named poisoned colon (word ∷ words) =
    both (λ now p. left-read now p (colon || false) words
    ∙ ap (λ c. left_by now p c (list_any ends_in_colon words) (names_in (left_of words))
    (names_in (right_of words))) (or-or colon false (list_any ends_in_colon words)))
    (ends_in_colon word)
  where
    -- the words after the current one
    After : Type 0
    After = (now : DepfileModel) (p : Bool) → words_read (left_line now p (colon || false)) words
        ≡ left_by now p (colon || list_any ends_in_colon words) (list_any ends_in_colon words)
        (names_in (left_of words)) (names_in (right_of words))

    next-target : After → (name : List ℕ) → words_after (left_line named poisoned colon) false name words
        ≡ left_by named poisoned (colon || list_any ends_in_colon words) (list_any ends_in_colon words)
        (word_of name ++ names_in (left_of words)) (names_in (right_of words))
    next-target after [] = after named poisoned
    next-target after (byte ∷ name) =
        ap (λ r. then_read (then_read r (λ line. Ok (after_colon false line)))
        (λ line. words_read line words)) (target-read named poisoned colon byte name)
        ∙ after (named_after (is_among named.inputs (byte ∷ name)) named (byte ∷ name))
        (poisoned_after (is_among named.inputs (byte ∷ name)) poisoned)
        ∙ target-more named poisoned (colon || list_any ends_in_colon words) (list_any ends_in_colon words)
        (byte ∷ name) (names_in (left_of words)) (names_in (right_of words))

    both : After → (is_colon : Bool) → words_after (left_line named poisoned colon) is_colon (name_in word)
        words
        ≡ left_by named poisoned (colon || (is_colon || list_any ends_in_colon words))
        (is_colon || list_any ends_in_colon words)
        (names_in (if is_colon then word ∷ [] else word ∷ left_of words))
        (names_in (drop (length (if is_colon then word ∷ [] else word ∷ left_of words)) (word ∷ words)))
    both after true = last-target named poisoned colon (name_in word) words
    both after false = next-target after (name_in word)

-- ---- lines

line-read : (named : DepfileModel) (colon : Bool) (words : List (List ℕ)) (lines : List (List (List ℕ)))
    → then_read (words_read (line_start named colon) words) (λ after. lines_read (line_ended after) lines)
    ≡ then_read (with_line named words) (λ after. lines_read
    (line_start after (colon || list_any ends_in_colon words)) lines)
line-read named colon words lines = grind (arith, left-read)

lines-read : (named : DepfileModel) (colon : Bool) (lines : List (List (List ℕ)))
    → lines_read (line_start named colon) lines
    ≡ then_read (with_lines named lines) (λ after. Ok (line_start after (colon || has_colon lines)))
lines-read named colon [] = rw (or-false colon) refl
lines-read named colon (words ∷ lines) =
    line-read named colon words lines
    ∙ by (λ now. lines-read now (colon || list_any ends_in_colon words) lines
    ∙ ap (λ c. then_read (with_lines now lines) (λ after. Ok (line_start after c)))
    (or-or colon (list_any ends_in_colon words) (has_colon lines)))
    (with_line named words)
  where
    -- the lines after the current one
    After : Type 0
    After = (now : DepfileModel) → lines_read (line_start now (colon || list_any ends_in_colon words)) lines
        ≡ then_read (with_lines now lines) (λ after. Ok
        (line_start after (colon || (list_any ends_in_colon words || has_colon lines))))

    by : After → (r : Result DepfileModel DepfileFault)
        → then_read r (λ after. lines_read (line_start after (colon || list_any ends_in_colon words)) lines)
        ≡ then_read (elim r [ Ok now ↦ with_lines now lines | Err fault ↦ Err fault ])
        (λ after. Ok (line_start after (colon || (list_any ends_in_colon words || has_colon lines))))
    by after (Err fault) = refl
    by after (Ok now) = after now

-- ---- a depfile

told-as : (r : Result DepfileModel DepfileFault) (colon : Bool)
    → then_read (then_read r (λ after. Ok (line_start after colon))) told
    ≡ elim r [ Ok named ↦ if colon then Ok named else Err NoColon | Err fault ↦ Err fault ]
told-as r colon = grind arith

pub depfile-read : (text : List ℕ) → pieces_read at_start (pieces text) ≡ depfile_of text
depfile-read text = grind (arith, pieces-lines, lines-read, told-as)

-- a piece that is refused
piece-refused : (r : ReadingModel) (piece : Piece) (ps more : List Piece) (fault : DepfileFault)
    → ps ≡ piece ∷ more → piece_read r piece ≡ Err fault → pieces_read r ps ≡ Err fault
piece-refused r piece ps more fault cut refused = grind arith

pub no-pieces : pieces [] ≡ []
unfolding pieces_after
no-pieces = refl

-- the end of the text
pub whole-read : (r : ReadingModel) (text rest : List ℕ) → rest ≡ []
    → pieces_read r (pieces rest) ≡ pieces_read at_start (pieces text)
    → then_read (word_ended r.line r.word) told ≡ depfile_of text
whole-read r text rest none so_far = grind (arith, no-pieces, depfile-read)

pub answers-ok : (expected whole : Result DepfileModel DepfileFault) → expected ≡ whole
    → (r : Result DepfileModel DepfileFault) → Answers expected r → IfOk r (λ named. whole ≡ Ok named)
answers-ok expected whole same r answers = grind arith

pub answers-err : (expected whole : Result DepfileModel DepfileFault) → expected ≡ whole
    → (r : Result DepfileModel DepfileFault) → Answers expected r
    → IfErr r (λ fault. (fault ≡ OutOfMemory) ⊎ (whole ≡ Err fault))
answers-err expected whole same r answers = grind arith

-- the fault that `?` returns
pub fault-returned : {X : Type 0} (r : ReadingModel) (piece : Piece) (text rest after : List ℕ)
    (fault : DepfileFault) → pieces rest ≡ piece ∷ pieces after
    → pieces_read r (pieces rest) ≡ pieces_read at_start (pieces text)
    → (fault ≡ OutOfMemory) ⊎ (piece_read r piece ≡ Err fault)
    → (returned : Result X DepfileFault) → IsErr returned × IsErrAnd returned (λ e. e ≡ fault)
    → IfErr returned (λ e. (e ≡ OutOfMemory) ⊎ (depfile_of text ≡ Err e))
fault-returned r piece text rest after fault cut so_far why returned h = grind (
  arith,
  depfile-read,
  piece-refused,
)
