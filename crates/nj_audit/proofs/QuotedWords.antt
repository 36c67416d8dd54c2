-- Words of quoted paths.
use Rattle.std.proofs.Common.{◌≡◌, ◌≢◌, ℕ, ◌==◌, Bool, true, false, cond, List, [], ◌∷◌, ◌++◌, map, refl, sym}
use Rattle.std.proofs.Common.{ap, ◌∙◌, append-nil, append_assoc, true≢false, inl, inr}
use Rattle.std.specs.Prelude.{◌&&◌, ◌||◌}
use Rattle.std.specs.List.{AllByRecursion, filter_map, flat_map, join_with_byte, list_all}
use Rattle.std.proofs.lemmas.Bool.Decides.{eqb_tells}
use Rattle.nj_text.specs.Quotes.{in_quotes, is_plain_byte, is_quote, quoted, within_quotes}
use Rattle.nj_audit.specs.Laws.{QuotedPathsAreWords}
use Rattle.nj_audit.specs.declared.shell_words.Quoting.{Quoting}
use Rattle.nj_audit.specs.declared.shell_words.Quoting.TheVariants.{Between, Bare, Escaped, Single, Double}
use Rattle.nj_audit.specs.ShellWords.{TokenModel, is_cut, kept, next_quoting, read_text, tokens_after}
use Rattle.nj_audit.specs.ShellWords.{tokens_of, with_word, word_in}
use Rattle.nj_audit.specs.ShellWords.TokenModel.{Word}
use Rattle.nj_audit.proofs.PlainLemmas.{between-bare}
use Rattle.nj_audit.proofs.ShellLemmas.{no-tokens, tokens-begin, words-end, words-inside, words-last}

both-true : (s t : Bool) → (s && t) ≡ true → (s ≡ true) × (t ≡ true)
both-true true t is = (refl, is)
both-true false t is = absurd cc

-- a byte with a property differs from a byte without it
differs : (p : ℕ → Bool) (b n : ℕ) → p n ≡ false → p b ≡ true → (b == n) ≡ false
differs p b n lacks has = elim (eqb_tells b n) [
  | inl same ↦ absurd (true≢false (sym has ∙ ap p same.1 ∙ lacks))
  | inr other ↦ other.0
]

abbrev read : (word : List ℕ) → Quoting → (text : List ℕ) → List TokenModel
read word quoting text = tokens_after word (read_text quoting text)

-- ---- plain bytes

or-false : (a b : Bool) → a ≡ false → b ≡ false → (a || b) ≡ false
or-false a b first second = ap (λ c. c || b) first ∙ second

plain-stays : (b : ℕ) → is_plain_byte b ≡ true → is_cut b ≡ false
plain-stays b plain =
    let other : (n : ℕ) → is_plain_byte n ≡ false → (b == n) ≡ false =
    λ n lacks. differs is_plain_byte b n lacks plain in
    or-false (b == 32 || b == 9 || b == 10 || b == 38 || b == 40 || b == 41 || b == 59 || b == 60 || b == 62)
    (b == 124)
    (or-false (b == 32 || b == 9 || b == 10 || b == 38 || b == 40 || b == 41 || b == 59 || b == 60) (b == 62)
    (or-false (b == 32 || b == 9 || b == 10 || b == 38 || b == 40 || b == 41 || b == 59) (b == 60)
    (or-false (b == 32 || b == 9 || b == 10 || b == 38 || b == 40 || b == 41) (b == 59)
    (or-false (b == 32 || b == 9 || b == 10 || b == 38 || b == 40) (b == 41)
    (or-false (b == 32 || b == 9 || b == 10 || b == 38) (b == 40)
    (or-false (b == 32 || b == 9 || b == 10) (b == 38)
    (or-false (b == 32 || b == 9) (b == 10) (or-false (b == 32) (b == 9) (other 32 refl) (other 9 refl))
    (other 10 refl))
    (other 38 refl)) (other 40 refl)) (other 41 refl)) (other 59 refl)) (other 60 refl)) (other 62 refl))
    (other 124 refl)

module _ (b : ℕ) (plain : is_plain_byte b ≡ true) where
  abbrev other : (n : ℕ) → is_plain_byte n ≡ false → (b == n) ≡ false
  other n lacks = differs is_plain_byte b n lacks plain

  plain-kept : kept Bare b ≡ b ∷ []
  plain-kept =
      ap (λ d. cond d [] (b ∷ [])) (or-false (b == 92 || b == 39) (b == 34)
      (or-false (b == 92) (b == 39) (other 92 refl) (other 39 refl)) (other 34 refl))

  plain-next : next_quoting Bare b ≡ Bare
  plain-next =
      ap (λ e. cond e Escaped (cond (b == 39) Single (cond (b == 34) Double (cond (is_cut b) Between Bare))))
      (other 92 refl)
      ∙ ap (λ e. cond e Single (cond (b == 34) Double (cond (is_cut b) Between Bare))) (other 39 refl)
      ∙ ap (λ e. cond e Double (cond (is_cut b) Between Bare)) (other 34 refl)
      ∙ ap (λ e. cond e Between Bare) (plain-stays b plain)

plain-byte : (word : List ℕ) (b : ℕ) (text : List ℕ) → is_plain_byte b ≡ true
    → read word Bare (b ∷ text) ≡ read (word ++ b ∷ []) Bare text
plain-byte word b text plain =
    words-inside Bare word b text (plain-stays b plain)
    ∙ ap (λ k. read (word ++ k) (next_quoting Bare b) text) (plain-kept b plain)
    ∙ ap (λ q. read (word ++ b ∷ []) q text) (plain-next b plain)

plain-path : (path word text : List ℕ) → list_all is_plain_byte path ≡ true
    → read word Bare (path ++ text) ≡ read (word ++ path) Bare text
plain-path [] word text plain = ap (λ w. read w Bare text) (sym (append-nil word))
plain-path (b ∷ path) word text plain =
    let all = both-true (is_plain_byte b) (list_all is_plain_byte path) plain in
    plain-byte word b (path ++ text) all.0 ∙ plain-path path (word ++ b ∷ []) text all.1
    ∙ ap (λ w. read w Bare text) (append_assoc word (b ∷ []) path)

-- ---- bytes in quotes

module _ (word text : List ℕ) where
  opens : read word Bare (39 ∷ text) ≡ read word Single text
  opens = words-inside Bare word 39 text refl ∙ ap (λ w. read w Single text) (append-nil word)

  closes : read word Single (39 ∷ text) ≡ read word Bare text
  closes = words-inside Single word 39 text refl ∙ ap (λ w. read w Bare text) (append-nil word)

  escapes : read word Bare (92 ∷ text) ≡ read word Escaped text
  escapes = words-inside Bare word 92 text refl ∙ ap (λ w. read w Escaped text) (append-nil word)

  escaped-quote : read word Escaped (39 ∷ text) ≡ read (word ++ 39 ∷ []) Bare text
  escaped-quote = words-inside Escaped word 39 text refl

other-in-quotes : (word : List ℕ) (b : ℕ) (text : List ℕ) → is_quote b ≡ false
    → read word Single (b ∷ text) ≡ read (word ++ b ∷ []) Single text
other-in-quotes word b text other =
    words-inside Single word b text refl
    ∙ ap (λ d. read (word ++ cond d [] (b ∷ [])) (next_quoting Single b) text) other
    ∙ ap (λ e. read (word ++ b ∷ []) (cond e Bare Single) text) other

byte-in-quotes : (word : List ℕ) (b : ℕ) (text : List ℕ) (is : Bool) → is_quote b ≡ is
    → read word Single (within_quotes b ++ text) ≡ read (word ++ b ∷ []) Single text
byte-in-quotes word b text true quote =
    ap (λ e. read word Single (cond e (39 ∷ 92 ∷ 39 ∷ 39 ∷ []) (b ∷ []) ++ text)) quote
    ∙ closes word (92 ∷ 39 ∷ 39 ∷ text) ∙ escapes word (39 ∷ 39 ∷ text) ∙ escaped-quote word (39 ∷ text)
    ∙ opens (word ++ 39 ∷ []) text
    ∙ ap (λ n. read (word ++ n ∷ []) Single text) (sym (quote-is b quote))
  where
    quote-is : (b : ℕ) → is_quote b ≡ true → b ≡ 39
    quote-is b is = elim (eqb_tells b 39) [
      | inl same ↦ same.1
      | inr differs ↦ absurd (true≢false (sym is ∙ differs.0))
    ]
byte-in-quotes word b text false other =
    ap (λ e. read word Single (cond e (39 ∷ 92 ∷ 39 ∷ 39 ∷ []) (b ∷ []) ++ text)) other
    ∙ other-in-quotes word b text other

path-in-quotes : (path word text : List ℕ)
    → read word Single (flat_map within_quotes path ++ text) ≡ read (word ++ path) Single text
path-in-quotes [] word text = ap (λ w. read w Single text) (sym (append-nil word))
path-in-quotes (b ∷ path) word text =
    ap (read word Single) (append_assoc (within_quotes b) (flat_map within_quotes path) text)
    ∙ byte-in-quotes word b (flat_map within_quotes path ++ text) (is_quote b) refl
    ∙ path-in-quotes path (word ++ b ∷ []) text
    ∙ ap (λ w. read w Single text) (append_assoc word (b ∷ []) path)

-- ---- quoted paths

quoted-path : (path word text : List ℕ) (plain : Bool) → list_all is_plain_byte path ≡ plain
    → read word Bare (quoted path ++ text) ≡ read (word ++ path) Bare text
unfolding quoted
quoted-path path word text true plain =
    ap (λ p. read word Bare (cond p path (in_quotes path) ++ text)) plain ∙ plain-path path word text plain
quoted-path path word text false other =
    ap (λ p. read word Bare (cond p path (in_quotes path) ++ text)) other
    ∙ opens word ((flat_map within_quotes path ++ 39 ∷ []) ++ text)
    ∙ ap (read word Single) (append_assoc (flat_map within_quotes path) (39 ∷ []) text)
    ∙ path-in-quotes path word (39 ∷ text) ∙ closes (word ++ path) text

with-path : (path : List ℕ) (tokens : List TokenModel) → path ≢ []
    → with_word path tokens ≡ Word path ∷ tokens
with-path [] tokens some = absurd (some refl)
with-path (b ∷ path) tokens some = refl

-- a quoted path begins a word, not a comment
begins-plain : (path text : List ℕ) → list_all is_plain_byte path ≡ true → path ≢ []
    → tokens_of (path ++ text) ≡ read [] Bare (path ++ text)
begins-plain [] text plain some = absurd (some refl)
begins-plain (b ∷ path) text plain some =
    sym (tokens-begin (b ∷ (path ++ text)))
    ∙ ap (tokens_after []) (between-bare b (path ++ text) (differs is_plain_byte b 35 refl
    (both-true (is_plain_byte b) (list_all is_plain_byte path) plain).0))

begins : (path text : List ℕ) (plain : Bool) → list_all is_plain_byte path ≡ plain → path ≢ []
    → tokens_of (quoted path ++ text) ≡ read [] Bare (quoted path ++ text)
unfolding quoted
begins path text true plain some =
    ap (λ p. tokens_of (cond p path (in_quotes path) ++ text)) plain ∙ begins-plain path text plain some
    ∙ sym (ap (λ p. read [] Bare (cond p path (in_quotes path) ++ text)) plain)
begins path text false other some =
    ap (λ p. tokens_of (cond p path (in_quotes path) ++ text)) other
    ∙ sym (tokens-begin (in_quotes path ++ text))
    ∙ ap (tokens_after []) (between-bare 39 ((flat_map within_quotes path ++ 39 ∷ []) ++ text) refl)
    ∙ sym (ap (λ p. read [] Bare (cond p path (in_quotes path) ++ text)) other)

tokens-of-all : (paths : List (List ℕ)) → AllByRecursion (λ path. path ≢ []) paths
    → tokens_of (join_with_byte 32 (map quoted paths)) ≡ map Word paths
tokens-of-all [] all = no-tokens
tokens-of-all (path ∷ []) all =
    ap tokens_of (sym (append-nil (quoted path)))
    ∙ begins path [] (list_all is_plain_byte path) refl all.0
    ∙ quoted-path path [] [] (list_all is_plain_byte path) refl ∙ words-last Bare path
    ∙ with-path path [] all.0
tokens-of-all (path ∷ next ∷ paths) all =
    let rest = join_with_byte 32 (map quoted (next ∷ paths)) in
    begins path (32 ∷ rest) (list_all is_plain_byte path) refl all.0
    ∙ quoted-path path [] (32 ∷ rest) (list_all is_plain_byte path) refl
    ∙ words-end Bare path 32 rest refl
    ∙ ap (with_word path) (tokens-of-all (next ∷ paths) all.1)
    ∙ with-path path (map Word (next ∷ paths)) all.0

words-in-all : (paths : List (List ℕ)) → filter_map word_in (map Word paths) ≡ paths
words-in-all [] = refl
words-in-all (path ∷ paths) = ap (λ ps. path ∷ ps) (words-in-all paths)

pub quoted-paths-are-words : QuotedPathsAreWords
quoted-paths-are-words paths all = ap (filter_map word_in) (tokens-of-all paths all) ∙ words-in-all paths
