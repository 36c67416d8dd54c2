-- The words of a text.
use Rattle.std.proofs.Common.{◌≡◌, ◌≢◌, ℕ, suc, ◌+◌, ◌<◌, Bool, true, false, not, cond, List, [], ◌∷◌, ◌++◌}
use Rattle.std.proofs.Common.{All, append_assoc, length, refl, sym, ap, ◌∙◌, arith}
use Rattle.std.specs.List.{flat_map, slice_split, onto_first, position_or_len, before_first, after_first}
use Rattle.std.proofs.lemmas.List.Elements.{All-head, All-tail}
use Rattle.std.proofs.lemmas.List.Splits.{slice_split-cons_no, slice_split_at, slice_split_first}
use Rattle.nj_c.specs.Runs.{is_zero, without_empty_last, given_words}

-- a text without a zero byte is one part
whole : (xs : List ℕ) → position_or_len is_zero xs ≡ length xs → slice_split is_zero xs ≡ xs ∷ []
whole [] e = refl
whole (x ∷ xs) e = by_test (is_zero x) refl (whole xs)
  where
    by_test : (t : Bool) → is_zero x ≡ t → (position_or_len is_zero xs ≡ length xs
        → slice_split is_zero xs ≡ xs ∷ []) → slice_split is_zero (x ∷ xs) ≡ (x ∷ xs) ∷ []
    by_test true d rest = let z : 0 ≡ suc (length xs) =
        sym (ap (λ (t : Bool). cond (not t) (1 + position_or_len is_zero xs) 0) d) ∙ e in absurd (omega arith)
    by_test false d rest =
        let z : 1 + position_or_len is_zero xs ≡ suc (length xs) =
        sym (ap (λ (t : Bool). cond (not t) (1 + position_or_len is_zero xs) 0) d) ∙ e in
        slice_split-cons_no is_zero x xs d ∙ ap (onto_first x) (rest (omega arith))

pub last-word : (xs : List ℕ) → xs ≢ [] → position_or_len is_zero xs ≡ length xs → given_words xs ≡ xs ∷ []
last-word [] some e = absurd (some refl)
last-word (x ∷ xs) some e = ap without_empty_last (whole (x ∷ xs) e)

-- each text has a first part
record Parts (xs : List ℕ) : Type 0 where
  first : List ℕ
  more : List (List ℕ)
  are : slice_split is_zero xs ≡ first ∷ more

parts : (xs : List ℕ) → Parts xs
parts [] = record { first = []; more = []; are = refl }
parts (x ∷ xs) = by_test (is_zero x) refl (parts xs)
  where
    by_test : (t : Bool) → is_zero x ≡ t → Parts xs → Parts (x ∷ xs)
    by_test true d p = record {
      first = [];
      more = slice_split is_zero xs;
      are =
          ap (λ t. cond t ([] ∷ slice_split is_zero xs) (onto_first x (slice_split is_zero xs))) d;
    }
    by_test false d p = record {
      first = x ∷ p.first;
      more = p.more;
      are =
          slice_split-cons_no is_zero x xs d ∙ ap (onto_first x) p.are;
    }

more-words : (word : List ℕ) (xs : List ℕ)
    → without_empty_last (word ∷ slice_split is_zero xs) ≡ word ∷ given_words xs
more-words word xs = let p = parts xs in rw (p.are) refl

pub first-word : (xs word after : List ℕ) → position_or_len is_zero xs < length xs
    → word ≡ before_first is_zero xs → after ≡ after_first is_zero xs
    → given_words xs ≡ word ∷ given_words after
first-word xs word after below is left =
    let one : slice_split is_zero xs ≡ word ∷ slice_split is_zero after =
    slice_split_first is_zero xs 0 below ∙ rw (is, left) refl in
    ap without_empty_last one ∙ more-words word after

abbrev has-no-zero : List ℕ → Type 0
has-no-zero word = All (λ byte. is_zero byte ≡ false) word

ended : (word rest : List ℕ) → has-no-zero word → given_words (word ++ 0 ∷ rest) ≡ word ∷ given_words rest
ended word rest none = ap without_empty_last (slice_split_at is_zero word 0 rest none refl)
    ∙ more-words word rest

pub given-words : (words : List (List ℕ)) → All has-no-zero words
    → given_words (flat_map (λ word. word ++ 0 ∷ []) words) ≡ words
given-words [] none = refl
given-words (word ∷ words) none =
    ap given_words (append_assoc word (0 ∷ []) (flat_map (λ w. w ++ 0 ∷ []) words))
    ∙ ended word (flat_map (λ w. w ++ 0 ∷ []) words) (All-head has-no-zero word words none)
    ∙ ap (λ ws. word ∷ ws) (given-words words (All-tail has-no-zero word words none))
