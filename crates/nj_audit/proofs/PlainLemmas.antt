-- The bytes of a word that are taken at once.
use Rattle.std.proofs.Common.{◌≡◌, ◌||◌, ◌==◌, arith, not, ℕ, suc, ◌+◌, ◌-◌, ◌≤◌, Bool, true, false, cond}
use Rattle.std.proofs.Common.{true≢false, Some, None, List, [], ◌∷◌, ◌++◌, take, drop, length, refl, sym, ap}
use Rattle.std.proofs.Common.{map, subst, ◌∙◌, append-nil, append_assoc}
use Rattle.std.specs.Prelude.{position, nat_lt}
use Rattle.std.proofs.lemmas.Bool.{ltb-false}
use Rattle.std.proofs.lemmas.List.{length-drop, take_all}
use Rattle.std.specs.List.{position_or_len}
use Rattle.nj_audit.specs.declared.shell_words.Quoting.TheVariants.{Between, Bare, Escaped, Single, Double}
use Rattle.nj_audit.specs.declared.shell_words.Quoting.TheVariants.{Comment}
use Rattle.nj_audit.specs.ShellWords.{is_cut, is_dropped, kept, next_bare, next_quoting, read_text}
use Rattle.nj_audit.specs.ShellWords.{tokens_after, tokens_of}
use Rattle.nj_audit.specs.ShellWords.ReadByte.{Kept, Cut}
use Rattle.nj_audit.specs.Inside.PlainBytes.{is_special}
use Rattle.nj_audit.proofs.ShellLemmas.{tokens-begin, words-inside}

neither : (x y : Bool) → (x || y) ≡ false → (x ≡ false) × (y ≡ false)
neither false y none = (refl, none)
neither true y none = absurd (true≢false none)

stays-bare : (x y z cut : Bool) → x ≡ false → y ≡ false → z ≡ false → cut ≡ false
    → cond x Escaped (cond y Single (cond z Double (cond cut Between Bare))) ≡ Bare
stays-bare true y z cut bad _ _ _ = absurd (true≢false bad)
stays-bare false true z cut _ bad _ _ = absurd (true≢false bad)
stays-bare false false true cut _ _ bad _ = absurd (true≢false bad)
stays-bare false false false true _ _ _ bad = absurd (true≢false bad)
stays-bare false false false false _ _ _ _ = refl

either-none : (x y z : Bool) → x ≡ false → y ≡ false → z ≡ false → (x || y || z) ≡ false
either-none true y z bad _ _ = absurd (true≢false bad)
either-none false true z _ bad _ = absurd (true≢false bad)
either-none false false true _ _ bad = absurd (true≢false bad)
either-none false false false _ _ _ = refl

module _ (b : ℕ) (plain : is_special b ≡ false) where
  both : (is_cut b ≡ false) × (is_dropped Between b ≡ false)
  both = neither (is_cut b) (is_dropped Between b) plain

  no-double : (b == 35 || b == 92 || b == 39 ≡ false) × ((b == 34) ≡ false)
  no-double = neither (b == 35 || b == 92 || b == 39) (b == 34) both.1

  no-single : (b == 35 || b == 92 ≡ false) × ((b == 39) ≡ false)
  no-single = neither (b == 35 || b == 92) (b == 39) no-double.0

  no-sign : ((b == 35) ≡ false) × ((b == 92) ≡ false)
  no-sign = neither (b == 35) (b == 92) no-single.0

  keeps : kept Bare b ≡ b ∷ []
  keeps = ap (λ e. cond e [] (b ∷ []))
      (either-none (b == 92) (b == 39) (b == 34) no-sign.1 no-single.1 no-double.1)

  stays : next_quoting Bare b ≡ Bare
  stays = stays-bare (b == 92) (b == 39) (b == 34) (is_cut b) no-sign.1 no-single.1 no-double.1 both.0

  plain-byte : (word text : List ℕ) → tokens_after word (read_text Bare (b ∷ text))
      ≡ tokens_after (word ++ b ∷ []) (read_text Bare text)
  plain-byte word text =
      words-inside Bare word b text both.0 ∙ ap
      (λ bytes. tokens_after (word ++ bytes) (read_text (next_quoting Bare b) text)) keeps
      ∙ ap (λ q. tokens_after (word ++ b ∷ []) (read_text q text)) stays

-- outside of words only a `#` is read otherwise
pub between-bare : (b : ℕ) (text : List ℕ) → (b == 35) ≡ false
    → read_text Between (b ∷ text) ≡ read_text Bare (b ∷ text)
unfolding read_text
between-bare b text other = ap (λ h. cond (is_cut b) (Cut b ∷ [])
    (map Kept (cond (h || b == 92 || b == 39 || b == 34) [] (b ∷ [])))
    ++ read_text (cond h Comment (next_bare b)) text) other

pub plain-bytes : (word text : List ℕ)
    → tokens_after (word ++ take (position_or_len is_special text) text)
    (read_text Bare (drop (position_or_len is_special text) text)) ≡ tokens_after word (read_text Bare text)
plain-bytes word [] = ap (λ w. tokens_after w (read_text Bare [])) (append-nil word)
plain-bytes word (b ∷ text) = by (is_special b) refl (plain-bytes (word ++ b ∷ []) text) where
  Next : ℕ → Type 0
  Next n = tokens_after ((word ++ b ∷ []) ++ take n text) (read_text Bare (drop n text))
      ≡ tokens_after (word ++ b ∷ []) (read_text Bare text)

  Plain : ℕ → Type 0
  Plain n = tokens_after (word ++ take n (b ∷ text)) (read_text Bare (drop n (b ∷ text)))
      ≡ tokens_after word (read_text Bare (b ∷ text))

  one-more : suc (position_or_len is_special text) ≡ 1 + position_or_len is_special text
  one-more = omega arith

  by : (special : Bool) → is_special b ≡ special → Next (position_or_len is_special text)
      → Plain (cond (not special) (1 + position_or_len is_special text) 0)
  by true is next = ap (λ w. tokens_after w (read_text Bare (b ∷ text))) (append-nil word)
  by false is next =
      subst Plain one-more
      (ap (λ w. tokens_after w (read_text Bare (drop (position_or_len is_special text) text)))
      (sym (append_assoc word (b ∷ []) (take (position_or_len is_special text) text)))
      ∙ next ∙ sym (plain-byte b is word text))

-- some bytes of a word at the beginning
pub begun : (text : List ℕ) → (position_or_len is_special text ≡ 0 → ⊥)
    → tokens_after (take (position_or_len is_special text) text)
    (read_text Bare (drop (position_or_len is_special text) text)) ≡ tokens_of text
begun [] some = absurd (some refl)
begun (b ∷ text) some = by (is_special b) refl some (plain-bytes [] (b ∷ text)) where
  by : (special : Bool) → is_special b ≡ special
      → (cond (not special) (1 + position_or_len is_special text) 0 ≡ 0 → ⊥)
      → tokens_after (take (position_or_len is_special (b ∷ text)) (b ∷ text))
      (read_text Bare (drop (position_or_len is_special (b ∷ text)) (b ∷ text)))
      ≡ tokens_after [] (read_text Bare (b ∷ text))
      → tokens_after (take (position_or_len is_special (b ∷ text)) (b ∷ text))
      (read_text Bare (drop (position_or_len is_special (b ∷ text)) (b ∷ text))) ≡ tokens_of (b ∷ text)
  by true is some bytes = absurd (some refl)
  by false is some bytes =
      bytes ∙ ap (tokens_after []) (sym (between-bare b text (no-sign b is).0)) ∙ tokens-begin (b ∷ text)

-- what is left of a text after some bytes
pub rest-is : (n : ℕ) (text : List ℕ) → take (length text - n) (drop n text) ≡ drop n text
rest-is n text = take_all (length text - n) (drop n text)
    (subst (λ k. length (drop n text) ≤ k) (length-drop n text) (omega arith))

-- ---- the first byte that is not plain

within : (text : List ℕ) → position_or_len is_special text ≤ length text
within [] = omega arith
within (b ∷ text) = by (not (is_special b)) (within text) where
  by : (plain : Bool) → position_or_len is_special text ≤ length text
      → cond plain (1 + position_or_len is_special text) 0 ≤ length (b ∷ text)
  by true more = omega (arith, more)
  by false more = omega arith

pub at-special : (text : List ℕ) (i : ℕ) → position is_special text ≡ Some i
    → i ≡ position_or_len is_special text
at-special text i = by (nat_lt (position_or_len is_special text) (length text)) where
  by : (there : Bool) → cond there (Some (position_or_len is_special text)) None ≡ Some i
      → i ≡ position_or_len is_special text
  by true is = cc
  by false is = cc

pub all-plain : (text : List ℕ) → position is_special text ≡ None
    → length text ≡ position_or_len is_special text
all-plain text = by (nat_lt (position_or_len is_special text) (length text)) refl where
  by : (there : Bool) → nat_lt (position_or_len is_special text) (length text) ≡ there
      → cond there (Some (position_or_len is_special text)) None ≡ None
      → length text ≡ position_or_len is_special text
  by true test is = cc
  by false test is =
      let most = within text in
      let past = ltb-false (position_or_len is_special text) (length text) test in
      omega (arith, most, past)

pub special-within : (text : List ℕ) (i : ℕ) → position is_special text ≡ Some i → i ≤ length text
special-within text i is = subst (λ k. k ≤ length text) (sym (at-special text i is)) (within text)
