-- Words and operators of a command, byte by byte.
use Rattle.std.proofs.Common.{◌≡◌, ℕ, ◌==◌, ◌||◌, length, inl, inr, arith, true≢false, true, false}
use Rattle.std.proofs.Common.{cond}
use Rattle.std.proofs.Common.{List, [], ◌∷◌, ◌++◌, map, refl, sym, ap, ◌∙◌, append-nil}
use Rattle.std.proofs.Common.{append_assoc}
use Rattle.std.proofs.lemmas.Bool.Decides.{eqb_tells}
use Rattle.nj_audit.specs.declared.shell_words.Quoting.{Quoting}
use Rattle.nj_audit.specs.declared.shell_words.Quoting.TheVariants.{Between, Bare, Escaped, Single, Double}
use Rattle.nj_audit.specs.declared.shell_words.Quoting.TheVariants.{DoubleEscaped, Comment}
use Rattle.nj_audit.specs.ShellWords.{ReadByte, TokenModel, ends_at, is_cut, is_gap, kept, next_bare}
use Rattle.nj_audit.specs.ShellWords.{next_quoting}
use Rattle.nj_audit.specs.ShellWords.{read_text, tokens_after, tokens_of, with_cut, with_word}
use Rattle.nj_audit.specs.ShellWords.ReadByte.{Kept, Cut}
use Rattle.nj_audit.specs.ShellWords.TokenModel.{Word, Operator}

is-nothing : (text : List ℕ) → (length text == 0) ≡ true → text ≡ []
is-nothing [] is = refl
is-nothing (b ∷ text) is = elim (eqb_tells (length (b ∷ text)) 0) [
  | inl same ↦ let none = same.1 in absurd (omega (arith, none))
  | inr other ↦ absurd (true≢false (sym is ∙ other.0))
]

pub no-length : (text : List ℕ) → length text ≡ 0 → text ≡ []
no-length [] is = refl
no-length (b ∷ text) is = absurd (omega (arith, is))

-- ---- the start

pub tokens-begin : (text : List ℕ) → tokens_after [] (read_text Between text) ≡ tokens_of text
unfolding tokens_of
tokens-begin text = refl

-- ---- a byte of a word

words-kept : (word bytes : List ℕ) (read : List ReadByte)
    → tokens_after word (map Kept bytes ++ read) ≡ tokens_after (word ++ bytes) read
unfolding tokens_after
words-kept word [] read = ap (λ w. tokens_after w read) (sym (append-nil word))
words-kept word (b ∷ bytes) read = words-kept (word ++ b ∷ []) bytes read
    ∙ ap (λ w. tokens_after w read) (append_assoc word (b ∷ []) bytes)

pub words-inside : (quoting : Quoting) (word : List ℕ) (b : ℕ) (text : List ℕ) → ends_at quoting b ≡ false
    → tokens_after word (read_text quoting (b ∷ text))
    ≡ tokens_after (word ++ kept quoting b) (read_text (next_quoting quoting b) text)
unfolding read_text
words-inside quoting word b text inside =
    ap (λ e. tokens_after word (cond e (Cut b ∷ []) (map Kept (kept quoting b))
    ++ read_text (next_quoting quoting b) text)) inside
    ∙ words-kept word (kept quoting b) (read_text (next_quoting quoting b) text)

-- ---- the end of a word

pub ends-cut : (quoting : Quoting) (b : ℕ) → ends_at quoting b ≡ true → is_cut b ≡ true
ends-cut Between b ends = ends
ends-cut Bare b ends = ends
ends-cut Escaped b ends = absurd (true≢false (sym ends))
ends-cut Single b ends = absurd (true≢false (sym ends))
ends-cut Double b ends = absurd (true≢false (sym ends))
ends-cut DoubleEscaped b ends = absurd (true≢false (sym ends))
ends-cut Comment b ends = elim (eqb_tells b 10) [
  | inl same ↦ ap is_cut same.1
  | inr other ↦ absurd (true≢false (sym ends ∙ other.0))
]

other-byte : (b n : ℕ) → is_cut n ≡ false → is_cut b ≡ true → (b == n) ≡ false
other-byte b n stays ends = elim (eqb_tells b n) [
  | inl same ↦ absurd (true≢false (sym ends ∙ ap is_cut same.1 ∙ stays))
  | inr other ↦ other.0
]

bare-after : (b : ℕ) → is_cut b ≡ true → next_bare b ≡ Between
bare-after b ends =
    ap (λ e. cond e Escaped (cond (b == 39) Single (cond (b == 34) Double (cond (is_cut b) Between Bare))))
    (other-byte b 92 refl ends)
    ∙ ap (λ e. cond e Single (cond (b == 34) Double (cond (is_cut b) Between Bare)))
    (other-byte b 39 refl ends)
    ∙ ap (λ e. cond e Double (cond (is_cut b) Between Bare)) (other-byte b 34 refl ends)
    ∙ ap (λ e. cond e Between Bare) ends

between-after : (quoting : Quoting) (b : ℕ) → ends_at quoting b ≡ true → next_quoting quoting b ≡ Between
between-after Between b ends =
    ap (λ e. cond e Comment (next_bare b)) (other-byte b 35 refl ends) ∙ bare-after b ends
between-after Bare b ends = bare-after b ends
between-after Escaped b ends = absurd (true≢false (sym ends))
between-after Single b ends = absurd (true≢false (sym ends))
between-after Double b ends = absurd (true≢false (sym ends))
between-after DoubleEscaped b ends = absurd (true≢false (sym ends))
between-after Comment b ends = ap (λ e. cond e Between Comment) ends

pub words-end : (quoting : Quoting) (word : List ℕ) (b : ℕ) (text : List ℕ) → ends_at quoting b ≡ true
    → tokens_after word (read_text quoting (b ∷ text)) ≡ with_word word (with_cut b (tokens_of text))
unfolding read_text tokens_after tokens_of
words-end quoting word b text ends =
    ap (λ e. tokens_after word (cond e (Cut b ∷ []) (map Kept (kept quoting b))
    ++ read_text (next_quoting quoting b) text)) ends
    ∙ ap (λ q. with_word word (with_cut b (tokens_after [] (read_text q text))))
    (between-after quoting b ends)

-- a byte between words
pub tokens-cut : (quoting : Quoting) (b : ℕ) (text : List ℕ) → ends_at quoting b ≡ true
    → tokens_of (b ∷ text) ≡ with_cut b (tokens_of text)
tokens-cut quoting b text ends =
    sym (tokens-begin (b ∷ text)) ∙ words-end Between [] b text (ends-cut quoting b ends)

-- no bytes are left
pub words-last : (quoting : Quoting) (word : List ℕ)
    → tokens_after word (read_text quoting []) ≡ with_word word []
unfolding read_text tokens_after
words-last quoting word = refl

pub no-tokens : tokens_of [] ≡ []
unfolding tokens_of read_text tokens_after
no-tokens = refl

-- ---- a word that is empty, or is not

pub with-some : (word : List ℕ) (tokens : List TokenModel) → (length word == 0) ≡ false
    → with_word word tokens ≡ Word word ∷ tokens
with-some [] tokens some = absurd (true≢false some)
with-some (b ∷ word) tokens some = refl

pub with-none : (word : List ℕ) (tokens : List TokenModel) → (length word == 0) ≡ true
    → with_word word tokens ≡ tokens
with-none word tokens none = ap (λ w. with_word w tokens) (is-nothing word none)

-- ---- a byte between words

pub with-operator : (b : ℕ) (tokens : List TokenModel) → is_gap b ≡ false
    → with_cut b tokens ≡ Operator b ∷ tokens
with-operator b tokens is = ap (λ g. cond g tokens (Operator b ∷ tokens)) is

pub with-gap : (b : ℕ) (tokens : List TokenModel) → is_gap b ≡ true → with_cut b tokens ≡ tokens
with-gap b tokens is = ap (λ g. cond g tokens (Operator b ∷ tokens)) is

pub after-gap : (b : ℕ) (text : List ℕ) → is_gap b ≡ true → tokens_of (b ∷ text) ≡ tokens_of text
after-gap b text is =
    tokens-cut Bare b text (ap (λ g. g || b == 10 || b == 38 || b == 40 || b == 41 || b == 59 || b ==
    60 || b == 62
    || b == 124) is)
    ∙ with-gap b (tokens_of text) is

-- a word that has ended
pub word-ended : (quoting : Quoting) (word : List ℕ) (b : ℕ) (text : List ℕ) → ends_at quoting b ≡ true
    → (length word == 0) ≡ false
    → tokens_after word (read_text quoting (b ∷ text)) ≡ Word word ∷ tokens_of (b ∷ text)
word-ended quoting word b text ends some =
    words-end quoting word b text ends ∙ with-some word (with_cut b (tokens_of text)) some
    ∙ ap (λ ts. Word word ∷ ts) (sym (tokens-cut quoting b text ends))

-- an operator, before a word
pub operator-read : (quoting : Quoting) (word : List ℕ) (b : ℕ) (text : List ℕ) → ends_at quoting b ≡ true
    → (length word == 0) ≡ true → is_gap b ≡ false
    → tokens_after word (read_text quoting (b ∷ text)) ≡ Operator b ∷ tokens_of text
operator-read quoting word b text ends none other =
    words-end quoting word b text ends ∙ with-none word (with_cut b (tokens_of text)) none
    ∙ with-operator b (tokens_of text) other

-- a space before a word
pub gap-read : (quoting : Quoting) (word : List ℕ) (b : ℕ) (text : List ℕ) → ends_at quoting b ≡ true
    → (length word == 0) ≡ true → is_gap b ≡ true
    → tokens_after word (read_text Between text) ≡ tokens_after word (read_text quoting (b ∷ text))
gap-read quoting word b text ends none gap =
    ap (λ w. tokens_after w (read_text Between text)) (is-nothing word none)
    ∙ tokens-begin text
    ∙ sym (words-end quoting word b text ends ∙ with-none word (with_cut b (tokens_of text)) none
    ∙ with-gap b (tokens_of text) gap)
