-- A command and the contents of its response file, as one text, and the numbers that bytes write.
use Rattle.std.proofs.Common.{◌≡◌, ℕ, suc, ◌+◌, ◌-◌, ◌*◌, ◌^◌, ◌<◌, ◌≤◌, List, [], ◌∷◌, ◌++◌, length, take}
use Rattle.std.proofs.Common.{drop, get_or, refl, sym, ap, ◌∙◌, arith, length-append, length-drop}
use Rattle.std.proofs.Common.{append_assoc, get_or-drop, add-one}
use Rattle.std.specs.Prelude.{slice_range, slice_index}
use Rattle.std.proofs.Math.Nat.{pow-suc, pow-le-pow_right}
use Rattle.std.proofs.Math.Seq.{drop-append-add}
use Rattle.std.proofs.lemmas.List.{drop_more, drop_all, drop-append-le, take-append-le, append-nil}
use Rattle.std.proofs.lemmas.List.{length-take-le, get_or_append_left, get_or-append_right, get_or-take}
use Rattle.nj_build_log.specs.CommandHashes.{hashed_text, separator}
use Rattle.nj_build_log.specs.Murmur.{number_of, word}

-- ---- the text

pub size_of_text : (command contents : List ℕ) → 0 < length contents
    → length (hashed_text command contents) ≡ length command + 9 + length contents
size_of_text command [] some = absurd (omega arith)
size_of_text command (byte ∷ contents) some =
    omega (
      arith,
      length-append command (separator ++ byte ∷ contents),
      length-append separator (byte ∷ contents),
    )

-- the text has at most as many bytes as both texts and the separator
pub text_bounded : (command contents : List ℕ)
    → length (hashed_text command contents) ≤ length command + 9 + length contents
text_bounded command [] = omega arith
text_bounded command (byte ∷ contents) = let e = size_of_text command (byte ∷ contents) (omega arith)
    in omega (arith, e)

-- a place behind the command is a place in the separator or the contents
abbrev rest_of : List ℕ → List ℕ
rest_of [] = []
rest_of (byte ∷ contents) = separator ++ byte ∷ contents

two_parts : (command contents : List ℕ) → hashed_text command contents ≡ command ++ rest_of contents
two_parts command [] = sym (append-nil command)
two_parts command (byte ∷ contents) = refl

pub byte_of_command : (command contents : List ℕ) (place : ℕ) → place < length command
    → get_or command place 0 ≡ slice_index (hashed_text command contents) place
byte_of_command command contents place within =
    sym (get_or_append_left command (rest_of contents) 0 place within)
    ∙ ap (λ t. get_or t place 0) (sym (two_parts command contents))

-- of the separator
pub byte_between : (command contents : List ℕ) (place : ℕ) → length command ≤ place
    → place < length command + 9
    → place < length (hashed_text command contents)
    → get_or separator (place - length command) 0 ≡ slice_index (hashed_text command contents) place
byte_between command [] place behind before within = absurd (omega arith)
byte_between command (byte ∷ contents) place behind before within =
    sym (get_or_append_left separator (byte ∷ contents) 0 (place - length command)
    (let s : place - length command < 9 = omega arith in s))
    ∙ sym (get_or-append_right command (separator ++ byte ∷ contents) (length command) place 0 refl behind)

-- and of the contents
pub byte_of_contents : (command contents : List ℕ) (place : ℕ) → length command + 9 ≤ place
    → place < length (hashed_text command contents)
    → get_or contents (place - (length command + 9)) 0 ≡ slice_index (hashed_text command contents) place
byte_of_contents command [] place behind within = absurd (omega arith)
byte_of_contents command (byte ∷ contents) place behind within =
    let apart : place - (length command + 9) ≡ place - length command - 9 = omega arith in
    ap (λ n. get_or (byte ∷ contents) n 0) apart
    ∙ (sym (get_or-append_right separator (byte ∷ contents) 9 (place - length command) 0 refl
    (let s : 9 ≤ place - length command = omega arith in s))
    ∙ sym (get_or-append_right command (separator ++ byte ∷ contents) (length command) place 0 refl
    (let s : length command ≤ place = omega arith in s)))

-- ---- words in it

take-same : (xs : List ℕ) (m n : ℕ) → m ≡ n → take m xs ≡ take n xs
take-same xs m n e = ap (λ k. take k xs) e

pub word_of_command : (command contents : List ℕ) (place count : ℕ) → place + count ≤ length command
    → word command place count ≡ word (hashed_text command contents) place count
word_of_command command contents place count within =
    let size : place + count - place ≡ count = omega arith in
    let front = take-append-le (place + count - place) (drop place command) (rest_of contents)
    (let s : place + count - place ≤ length (drop place command) = omega (arith, length-drop place command)
    in s) in
    let cut = drop-append-le place command (rest_of contents)
    (let s : place ≤ length command = omega arith in s) in
    ap number_of (sym front ∙ ap (take (place + count - place)) (sym cut))
    ∙ ap (λ t. word t place count) (sym (two_parts command contents))

pub word_of_contents : (command contents : List ℕ) (place count : ℕ) → length command + 9 ≤ place → 0 < count
    → place + count ≤ length (hashed_text command contents)
    → word contents (place - (length command + 9)) count ≡ word (hashed_text command contents) place count
word_of_contents command [] place count behind some within = absurd (omega arith)
word_of_contents command (byte ∷ contents) place count behind some within =
    let at = place - (length command + 9) in
    let whole = sym (append_assoc command separator (byte ∷ contents)) in
    let long : length (command ++ separator) + at ≡ place = omega (arith, length-append command separator) in
    let cut = drop-append-add (command ++ separator) (byte ∷ contents) at in
    let same : at + count - at ≡ place + count - place = omega arith in
    ap number_of (take-same (drop at (byte ∷ contents)) (at + count - at) (place + count - place) same
    ∙ ap (take (place + count - place)) (sym cut
    ∙ (ap (λ n. drop n ((command ++ separator) ++ byte ∷ contents)) long
    ∙ ap (drop place) (sym whole))))

-- ---- numbers that are read byte by byte, from the last byte on

-- the remaining bytes, and the number that the other bytes write, which fits
pub record IsReadFrom (text : List ℕ) (place count passed number : ℕ) : Type 0 where
  pub read : number ≡ number_of (drop (count - passed) (slice_range text place (place + count)))
  pub fits : number < 256 ^ passed

length-part : (text : List ℕ) (place count : ℕ) → place + count ≤ length text
    → length (slice_range text place (place + count)) ≡ count
length-part text place count within =
    let size : place + count - place ≤ length (drop place text) = omega (arith, length-drop place text) in
    length-take-le (place + count - place) (drop place text) size ∙ omega arith

pub none_read : (text : List ℕ) (place count : ℕ) → place + count ≤ length text
    → IsReadFrom text place count 0 0
none_read text place count within = record {
  read = sym (ap number_of (drop_all (count - 0) (slice_range text place (place + count))
      (let e = length-part text place count within in omega (arith, e))));
  fits = omega arith;
}

pub room : (passed number : ℕ) → number < 256 ^ passed → passed < 8 → number < 2 ^ 56
room passed number fits few =
    let most : 256 ^ passed ≤ 256 ^ 7 = pow-le-pow_right (omega arith) (let s : passed ≤ 7 = omega arith in s)
    in
    omega (arith, fits, most)

grown : (passed number byte : ℕ) → number < 256 ^ passed → byte < 256
    → number * 256 + byte < 256 ^ (passed + 1)
grown passed number byte fits small =
    let more : 256 ^ suc passed ≡ 256 ^ passed * 256 = pow-suc 256 passed in
    let next : 256 ^ (passed + 1) ≡ 256 ^ suc passed = ap (λ n. 256 ^ n) (add-one passed) in
    omega (arith, more, next, fits, small)

pub one_read : (text : List ℕ) (place count passed number byte : ℕ) → place + count ≤ length text
    → passed < count
    → byte < 256 → byte ≡ slice_index text (place + (count - 1 - passed))
    → IsReadFrom text place count passed number
    → IsReadFrom text place count (passed + 1) (number * 256 + byte)
one_read text place count passed number byte within more small is old =
    let part = slice_range text place (place + count) in
    let at = count - 1 - passed in
    let long = length-part text place count within in
    let there : get_or part at 0 ≡ byte = grind (arith, get_or-take, get_or-drop, is) in
    let here : drop (count - (passed + 1)) part ≡ drop at part =
    ap (λ n. drop n part) (let e : count - (passed + 1) ≡ at = omega arith in e) in
    let next : at + 1 ≡ count - passed = omega arith in
    let head = drop_more part at 0 (let s : at < length part = omega (arith, long) in s) in
    let value : number_of (drop (count - (passed + 1)) part)
    ≡ get_or part at 0 + 256 * number_of (drop (at + 1) part) = ap number_of (here ∙ head) in
    let rest : number_of (drop (at + 1) part) ≡ number = ap (λ n. number_of (drop n part)) next ∙ sym old.read
    in
    record {
      read = omega (arith, value, rest, there);
      fits = grown passed number byte old.fits small;
    }

pub all_read : (text : List ℕ) (place count number passed : ℕ) → count ≤ passed
    → IsReadFrom text place count passed number → number ≡ word text place count
all_read text place count number passed end read =
    read.read ∙ ap (λ n. number_of (drop n (slice_range text place (place + count))))
    (let e : count - passed ≡ 0 = omega arith in e)
