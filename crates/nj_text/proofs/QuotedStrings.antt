-- Strings in quotes, run by run, and how a shell reads them.
use Rattle.std.proofs.lemmas.Grind.{common_steps}
use Rattle.std.proofs.Common.{◌≡◌, ◌≢◌, ℕ, suc, ◌+◌, ◌<◌, Bool, true, false, Option, Some, None, List, []}
use Rattle.std.proofs.Common.{◌∷◌, ◌++◌, length, take, drop, get_or, eqb, refl, sym, ap, ◌∙◌, arith, add-one}
use Rattle.std.proofs.Common.{append_assoc}
use Rattle.std.specs.Prelude.{◌&&◌}
use Rattle.std.specs.List.{list_all, flat_map}
use Rattle.std.proofs.Math.Seq.{drop-cons}
use Rattle.std.proofs.lemmas.Bool.Decides.{nat_tests}
use Rattle.std.proofs.lemmas.List.{take-append-drop}
use Rattle.std.proofs.lemmas.List.Concat.{flat_map-append}
use Rattle.nj_text.specs.Quotes.{is_plain_byte, is_quote, within_quotes, in_quotes, quoted}
use Rattle.nj_text.specs.Inside.Quoting.{left_in_quotes}
use Rattle.nj_text.specs.QuoteLaws.{Unquoted, InQuotes, joined_words, word_from, shell_word}
use Rattle.nj_text.specs.QuoteLaws.{ShellTakesThePath}

within-other : (b : ℕ) → is_quote b ≡ false → within_quotes b ≡ b ∷ []
within-other b e = rw e refl

and_true : (s t : Bool) → s && t ≡ true → (s ≡ true) × (t ≡ true)
and_true s t e = grind arith

-- a plain byte is neither `'` nor `\`
plain-other : (b : ℕ) → is_plain_byte b ≡ true → (is_quote b ≡ false) × (eqb b 92 ≡ false)
plain-other b e = grind arith

-- plain bytes stay unchanged
pub within-plain : (xs : List ℕ) → list_all is_plain_byte xs ≡ true → flat_map within_quotes xs ≡ xs
within-plain [] h = refl
within-plain (b ∷ xs) h =
    let both = and_true (is_plain_byte b) (list_all is_plain_byte xs) h in
    ap (λ ys. ys ++ flat_map within_quotes xs) (within-other b (plain-other b both.0).0)
    ∙ ap (λ ys. b ∷ ys) (within-plain xs both.1)

-- ---- the scan for the first `'`

pub run-quote : (text : List ℕ) (i : ℕ) → i < length text → flat_map within_quotes (take i text) ≡ take i text
    → get_or text i 0 ≡ 39
    → flat_map within_quotes text ≡ take i text
    ++ 39 ∷ 92 ∷ 39 ∷ 39 ∷ flat_map within_quotes (drop (i + 1) text)
run-quote text i h front e =
    let cut : text ≡ take i text ++ get_or text i 0 ∷ drop (suc i) text =
    sym (take-append-drop i text) ∙ ap (λ ys. take i text ++ ys) (drop-cons text i 0 h) in
    ap (flat_map within_quotes) (cut ∙ ap (λ b. take i text ++ b ∷ drop (suc i) text) e)
    ∙ flat_map-append within_quotes (take i text) (39 ∷ drop (suc i) text)
    ∙ ap (λ xs. xs ++ 39 ∷ 92 ∷ 39 ∷ 39 ∷ flat_map within_quotes (drop (suc i) text)) front ∙ rw add-one refl

-- ---- how a shell reads it

unquoted-plain : (b : ℕ) (bs : List ℕ) → is_plain_byte b ≡ true
    → word_from Unquoted (b ∷ bs) ≡ joined_words (Some (b ∷ [])) (word_from Unquoted bs)
unquoted-plain b bs e = grind arith

word-plain : (path : List ℕ) → list_all is_plain_byte path ≡ true → word_from Unquoted path ≡ Some path
word-plain [] h = refl
word-plain (b ∷ path) h =
    let both = and_true (is_plain_byte b) (list_all is_plain_byte path) h in
    unquoted-plain b path both.0 ∙ ap (joined_words (Some (b ∷ []))) (word-plain path both.1)

quoted-other : (b : ℕ) (bs : List ℕ) → is_quote b ≡ false
    → word_from InQuotes (b ∷ bs) ≡ joined_words (Some (b ∷ [])) (word_from InQuotes bs)
quoted-other b bs e = rw e refl

word-quoted : (path : List ℕ) → word_from InQuotes (flat_map within_quotes path ++ 39 ∷ []) ≡ Some path
word-quoted [] = refl
word-quoted (b ∷ path) = by_test (is_quote b) refl (word-quoted path)
  where
    by_test : (t : Bool) → is_quote b ≡ t → word_from InQuotes (flat_map within_quotes path ++ 39 ∷ [])
        ≡ Some path → word_from InQuotes (flat_map within_quotes (b ∷ path) ++ 39 ∷ []) ≡ Some (b ∷ path)
    by_test true e rest =
        let quote : b ≡ 39 = grind (arith, nat_tests, e) in
        rw quote (ap (λ (w : Option (List ℕ)). joined_words (Some [])
        (joined_words (Some []) (joined_words (Some (39 ∷ [])) (joined_words (Some []) w)))) rest)
    by_test false e rest =
        ap (λ xs. word_from InQuotes ((xs ++ flat_map within_quotes path) ++ 39 ∷ [])) (within-other b e)
        ∙ quoted-other b (flat_map within_quotes path ++ 39 ∷ []) e ∙ ap (joined_words (Some (b ∷ []))) rest

some_word : (text : List ℕ) → text ≢ [] → shell_word text ≡ word_from Unquoted text
some_word text h = grind arith

pub takes_the_path : ShellTakesThePath
unfolding quoted
takes_the_path path h = grind (arith, some_word, word-plain, word-quoted)

-- ---- the loop over the runs

abbrev pub bytes_left : Option (List ℕ) → ℕ
bytes_left None = 0
bytes_left (Some text) = suc (length text)

-- some runs are written, and the others are left
pub record IsQuoting (base front rest : List ℕ) (left : Option (List ℕ)) (out : List ℕ) : Type 0 where
  pub written : List ℕ
  pub out_is : out ≡ base ++ 39 ∷ written
  pub left_is : written ++ left_in_quotes left ≡ flat_map within_quotes (front ++ rest)

-- the quotes are open, and the plain front is written
pub quoting-none : (base front rest : List ℕ) (opened out : List ℕ) → opened ≡ base ++ 39 ∷ []
    → out ≡ opened ++ front → list_all is_plain_byte front ≡ true → IsQuoting base front rest (Some rest) out
quoting-none base front rest opened out o e h = grind (arith, append_assoc, within-plain, flat_map-append)

-- ---- the whole

pub quoted-plain : (path : List ℕ) (n : ℕ) → n ≡ length path → list_all is_plain_byte (take n path) ≡ true
    → path ≡ quoted path
unfolding quoted
quoted-plain path n e h = grind (arith, common_steps)

pub quoted-in_quotes : (path : List ℕ) (n : ℕ) → list_all is_plain_byte path ≡ false
    → in_quotes (take n path ++ drop n path) ≡ quoted path
unfolding quoted
quoted-in_quotes path n h = rw h (ap in_quotes (take-append-drop n path))
