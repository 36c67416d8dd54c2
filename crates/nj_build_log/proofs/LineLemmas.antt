-- Lines and fields, from the first line feed or tab on.
use Rattle.std.proofs.Common.{◌≡◌, ℕ, suc, ◌+◌, ◌-◌, ◌<◌, ◌≤◌, Bool, true, false, cond, ◌⊎◌, inl, inr, ap₂}
use Rattle.std.proofs.Common.{true≢false, Option, Some, None, List, [], ◌∷◌, length, take, drop, refl, sym}
use Rattle.std.proofs.Common.{ap, ◌∙◌, subst, arith, length-drop, append_assoc, ◌++◌}
use Rattle.std.specs.Prelude.{ℤ, All, is_some, unwrap_or, option_to_list, filter_map}
use Rattle.std.specs.List.{before_first, after_first, list_any, position_or_len, slice_split, cons_option}
use Rattle.std.proofs.lemmas.Bool.{cases_lt}
use Rattle.std.proofs.lemmas.List.{take_all, drop_all, append-nil}
use Rattle.std.proofs.lemmas.List.Folds.{list_any_none, list_any_at}
use Rattle.std.proofs.lemmas.List.Splits.{slice_split_none, slice_split_first, length-slice_split}
use Rattle.std.proofs.lemmas.List.Sums.{position_or_len_is, fails_before_first}
use Rattle.std.proofs.lemmas.Grind.{get_or_default_zero}
use Rattle.memchr.specs.Find.{IsFirstByte}
use Rattle.nj_build_log.specs.Logs.{LineModel, is_line_feed, is_tab, lines_of, counted_part, fields_of}
use Rattle.nj_build_log.specs.Logs.{line_in, line_of, logged_lines}
use Rattle.nj_build_log.specs.Numbers.{int_of, long_of, hash_of}
use Rattle.nj_build_log.specs.Inside.LinesHeld.{split_at_first}

-- ---- the first byte that passes

is_false : (b : Bool) → ¬ (b ≡ true) → b ≡ false
is_false true f = absurd (f refl)
is_false false f = refl

pub none_passes : (test : ℕ → Bool) (text : List ℕ) → IsFirstByte test text None
    → All (λ byte. test byte ≡ false) text
none_passes test text none = λ k d lt. ap test (get_or_default_zero text k d lt)
    ∙ is_false _ (none k (omega arith) lt)

pub split_none : (test : ℕ → Bool) (text : List ℕ) → IsFirstByte test text None
    → None ≡ split_at_first test text
split_none test text none =
    ap (λ b. cond b (Some (before_first test text, after_first test text)) None)
    (sym (list_any_none test text (none_passes test text none)))

pub split_some : (test : ℕ → Bool) (text : List ℕ) (k : ℕ) → IsFirstByte test text (Some k)
    → Some (take k text, drop (k + 1) text) ≡ split_at_first test text
split_some test text k first =
    let some = list_any_at test text k 0 first.0.high first.1 in
    let at : position_or_len test text ≡ k =
    position_or_len_is test text k 0 (let s : k ≤ length text = omega (arith, first.0.high) in s)
    (λ j lt. is_false _ (first.0.before j (omega arith) lt)) (λ _. first.1) in
    ap (λ i. Some (take i text, drop (i + 1) text)) (sym at)
    ∙ ap (λ b. cond b (Some (before_first test text, after_first test text)) None) (sym some)

-- ---- properties of texts that are cut so

pub two_ways : (b : Bool) → (b ≡ true) ⊎ (b ≡ false)
two_ways true = inl refl
two_ways false = inr refl

no_byte : (test : ℕ → Bool) (text : List ℕ) → split_at_first test text ≡ None → list_any test text ≡ false
no_byte test text e = elim (two_ways (list_any test text)) [
  | inl some ↦ absurd (true≢false (ap is_some
      (sym (ap (λ b. cond b (Some (before_first test text, after_first test text)) None) some) ∙ e)))
  | inr none ↦ none
]

some_byte : (test : ℕ → Bool) (text front rest : List ℕ) → split_at_first test text ≡ Some (front, rest)
    → (list_any test text ≡ true) × (before_first test text ≡ front) × (after_first test text ≡ rest)
some_byte test text front rest e = elim (two_ways (list_any test text)) [
  | inl some ↦
      (let is = sym (ap (λ b. cond b (Some (before_first test text, after_first test text)) None) some)
      ∙ e in (
        some,
        ap (λ (o : Option (List ℕ × List ℕ)). (unwrap_or {T = List ℕ × List ℕ} o ([], [])).0) is,
        ap (λ (o : Option (List ℕ × List ℕ)). (unwrap_or {T = List ℕ × List ℕ} o ([], [])).1) is,
      ))
  | inr none ↦ absurd (true≢false (ap is_some
      (sym e ∙ ap (λ b. cond b (Some (before_first test text, after_first test text)) None) none)))
]

pub all_fail : (test : ℕ → Bool) (text : List ℕ) → list_any test text ≡ false
    → All (λ byte. test byte ≡ false) text
all_fail test text e = λ k d lt. is_false _ (λ t. true≢false (sym (list_any_at test text k d lt t) ∙ e))

pub first_within : (test : ℕ → Bool) (text : List ℕ) → list_any test text ≡ true
    → position_or_len test text < length text
first_within test text e = elim (cases_lt (position_or_len test text) (length text)) [
  | inl within ↦ within
  | inr past ↦ absurd (true≢false (sym e ∙ list_any_none test text
      (λ k d lt. fails_before_first test text k d
      (let s : k < position_or_len test text = omega arith in s))))
]

-- ---- lines

pub no_line : (text : List ℕ) → split_at_first is_line_feed text ≡ None → lines_of text ≡ []
no_line text e =
    ap (λ (ps : List (List ℕ)). take (length ps - 1) ps)
    (slice_split_none is_line_feed text (all_fail is_line_feed text (no_byte is_line_feed text e)))

cut_last : (piece : List ℕ) (pieces : List (List ℕ)) → 0 < length pieces
    → take (length (piece ∷ pieces) - 1) (piece ∷ pieces) ≡ piece ∷ take (length pieces - 1) pieces
cut_last piece [] some = absurd (omega arith)
cut_last piece (next ∷ pieces) some =
    let n = length pieces in
    let two : suc (suc n) - 1 ≡ suc n = omega arith in
    let one : suc n - 1 ≡ n = omega arith in
    ap (λ k. take k (piece ∷ next ∷ pieces)) two ∙ ap (λ k. piece ∷ take k (next ∷ pieces)) (sym one)

pub a_line : (text front rest : List ℕ) → split_at_first is_line_feed text ≡ Some (front, rest)
    → (lines_of text ≡ front ∷ lines_of rest) × (length rest < length text)
a_line text front rest e =
    let known = some_byte is_line_feed text front rest e in
    let within = first_within is_line_feed text known.0 in
    let pieces = slice_split is_line_feed (after_first is_line_feed text) in
    let some : 0 < length pieces = omega (
      arith,
      length-slice_split is_line_feed (after_first is_line_feed text),
    ) in
    let shorter : length (after_first is_line_feed text) < length text =
    omega (arith, length-drop (position_or_len is_line_feed text + 1) text, within) in (
      ap (λ (ps : List (List ℕ)). take (length ps - 1) ps) (slice_split_first is_line_feed text 0 within)
          ∙ cut_last (before_first is_line_feed text) pieces some
          ∙ ap₂ (λ f r. f ∷ lines_of r) known.1 known.2,
      subst (λ (r : List ℕ). length r < length text) known.2 shorter,
    )

-- the first line of a text with one line
pub whole_line : (text : List ℕ) → split_at_first is_line_feed text ≡ None
    → (text ≡ before_first is_line_feed text) × (after_first is_line_feed text ≡ [])
whole_line text e =
    let at : position_or_len is_line_feed text ≡ length text =
    position_or_len_is is_line_feed text (length text) 0 (omega arith)
    (λ k lt. all_fail is_line_feed text (no_byte is_line_feed text e) k 0 lt) (λ lt. absurd (omega arith))
    in (
      sym (ap (λ n. take n text) at ∙ take_all (length text) text (omega arith)),
      ap (λ n. drop (n + 1) text) at ∙ drop_all (length text + 1) text (omega arith),
    )

pub first_cut : (text front rest : List ℕ) → split_at_first is_line_feed text ≡ Some (front, rest)
    → (front ≡ before_first is_line_feed text) × (rest ≡ after_first is_line_feed text)
first_cut text front rest e = let known = some_byte is_line_feed text front rest e
    in (sym known.1, sym known.2)

-- ---- fields

field_more : (cuts : ℕ) (text front rest : List ℕ) → split_at_first is_tab text ≡ Some (front, rest)
    → fields_of (suc cuts) text ≡ front ∷ fields_of cuts rest
field_more cuts text front rest e =
    let known = some_byte is_tab text front rest e in
    ap (λ b. cond b (before_first is_tab text ∷ fields_of cuts (after_first is_tab text)) (text ∷ [])) known.0
    ∙ ap₂ (λ f r. f ∷ fields_of cuts r) known.1 known.2

field_last : (cuts : ℕ) (text : List ℕ) → split_at_first is_tab text ≡ None
    → fields_of (suc cuts) text ≡ text ∷ []
field_last cuts text e =
    ap (λ b. cond b (before_first is_tab text ∷ fields_of cuts (after_first is_tab text)) (text ∷ []))
    (no_byte is_tab text e)

pub five_fields : (line start rest_1 end rest_2 time rest_3 output hash : List ℕ)
    → split_at_first is_tab line ≡ Some (start, rest_1) → split_at_first is_tab rest_1 ≡ Some (end, rest_2)
    → split_at_first is_tab rest_2 ≡ Some (time, rest_3) → split_at_first is_tab rest_3 ≡ Some (output, hash)
    → fields_of 4 line ≡ start ∷ end ∷ time ∷ output ∷ hash ∷ []
five_fields line start rest_1 end rest_2 time rest_3 output hash a b c d =
    field_more 3 line start rest_1 a
    ∙ ap (λ fs. start ∷ fs) (field_more 2 rest_1 end rest_2 b
    ∙ ap (λ fs. end ∷ fs) (field_more 1 rest_2 time rest_3 c
    ∙ ap (λ fs. time ∷ fs) (field_more 0 rest_3 output hash d)))

-- the line with the given fields, with the numbers that they write
pub line_read : (line counted start rest_1 end rest_2 time rest_3 output hash : List ℕ)
    (started ended timed : ℤ) (hashed : ℕ)
    → counted ≡ counted_part line
    → Some (start, rest_1) ≡ split_at_first is_tab counted → Some (end, rest_2) ≡ split_at_first is_tab rest_1
    → Some (time, rest_3) ≡ split_at_first is_tab rest_2 → Some (output, hash) ≡ split_at_first is_tab rest_3
    → started ≡ int_of start → ended ≡ int_of end → timed ≡ long_of time → hashed ≡ hash_of hash
    → Some (record {
      output = output;
      entry =
          record { start = started; end = ended; time = timed; hash = hashed };
    }) ≡ line_of line
line_read line counted start rest_1 end rest_2 time rest_3 output hash started ended timed hashed is a b c d s
    e t h =
    let made : ℤ → ℤ → ℤ → ℕ → Option LineModel =
    λ (x y z : ℤ) (n : ℕ). Some (record {
      output = output;
      entry =
          record { start = x; end = y; time = z; hash = n };
    }) in
    ap (λ x. made x ended timed hashed) s ∙ ap (λ y. made (int_of start) y timed hashed) e
    ∙ ap (λ z. made (int_of start) (int_of end) z hashed) t
    ∙ ap (made (int_of start) (int_of end) (long_of time)) h
    ∙ sym (ap line_in (ap (fields_of 4) (sym is)
    ∙ five_fields counted start rest_1 end rest_2 time rest_3 output hash (sym a) (sym b) (sym c) (sym d)))

-- ---- the lines that count

one_more : (o : Option LineModel) (lines : List LineModel) → option_to_list o ++ lines ≡ cons_option o lines
one_more None lines = refl
one_more (Some line) lines = refl

-- a line is read
pub one_line : (table new : List LineModel) (line rest after all : List ℕ)
    → lines_of rest ≡ line ∷ lines_of after
    → new ≡ table ++ option_to_list (line_of line) → table ++ logged_lines rest ≡ logged_lines all
    → new ++ logged_lines after ≡ logged_lines all
one_line table new line rest after all first added read =
    ap (λ n. n ++ logged_lines after) added
    ∙ append_assoc table (option_to_list (line_of line)) (logged_lines after)
    ∙ ap (λ ls. table ++ ls) (one_more (line_of line) (logged_lines after))
    ∙ ap (λ ls. table ++ filter_map line_of ls) (sym first) ∙ read

-- the lines are exhausted
pub all_lines : (table : List LineModel) (rest all : List ℕ) → lines_of rest ≡ []
    → table ++ logged_lines rest ≡ logged_lines all → table ≡ logged_lines all
all_lines table rest all none read =
    sym (append-nil table) ∙ ap (λ ls. table ++ filter_map line_of ls) (sym none) ∙ read
