-- Marks, written and read.
use Rattle.std.proofs.Common.{◌≡◌, ℕ, ◌^◌, ◌<◌, Bool, true, false, Option, Some, None, List, [], ◌∷◌, ◌++◌}
use Rattle.std.proofs.Common.{length, get_or, refl, sym, ap, ◌∙◌, subst, arith}
use Rattle.std.specs.Prelude.{map, codes, decimal, ◌||◌, option_map, option_and_then}
use Rattle.std.specs.List.{slice_split, onto_first, join_with_byte, list_any, All, AllByRecursion}
use Rattle.std.specs.Str.{bytes_eq}
use Rattle.std.proofs.lemmas.List.{append-nil, get_or_default}
use Rattle.std.proofs.lemmas.List.Elements.{recursion_from_All, All-from_recursion}
use Rattle.std.proofs.lemmas.List.Splits.{slice_split-cons_yes, slice_split-cons_no, length-slice_split}
use Rattle.std.proofs.lemmas.List.Splits.{join_with_byte-slice_split}
use Rattle.std.proofs.lemmas.Slice.Eq.{bytes_eq-Decides}
use Rattle.nj_needs.specs.MarkLaws.{WrittenMarksAreGiven, GivenMarksAreWritten}
use Rattle.nj_needs.specs.MarkTexts.{mark_text, number_of, numbers_in, given_mark}
use Rattle.nj_needs.specs.Inside.MarkScanning.{is_dot}
use Rattle.nj_needs.proofs.MarkNumerals.{number-written, number-decimal, numeral-decimal, no_dot-decimal}
use Rattle.nj_needs.proofs.MarkNumerals.{not_start}
use Rattle.nj_needs.proofs.MarkTextLemmas.{given_start, given_address}

-- ---- a text is cut at its dots

or_false : (s t : Bool) → s || t ≡ false → (s ≡ false) × (t ≡ false)
or_false s t e = grind arith

parts-at : (xs ys : List ℕ) → list_any is_dot xs ≡ false
    → slice_split is_dot (xs ++ 46 ∷ ys) ≡ xs ∷ slice_split is_dot ys
parts-at [] ys h = slice_split-cons_yes is_dot 46 ys refl
parts-at (x ∷ xs) ys h =
    let none = or_false (is_dot x) (list_any is_dot xs) h in
    slice_split-cons_no is_dot x (xs ++ 46 ∷ ys) none.0 ∙ ap (onto_first x) (parts-at xs ys none.1)

parts-one : (xs : List ℕ) → list_any is_dot xs ≡ false → slice_split is_dot xs ≡ xs ∷ []
parts-one [] h = refl
parts-one (x ∷ xs) h =
    let none = or_false (is_dot x) (list_any is_dot xs) h in
    slice_split-cons_no is_dot x xs none.0 ∙ ap (onto_first x) (parts-one xs none.1)

parts-written : (n : ℕ) (ns : List ℕ) → AllByRecursion (λ k. k < 2 ^ 64) (n ∷ ns)
    → slice_split is_dot (mark_text (n ∷ ns)) ≡ map decimal (n ∷ ns)
parts-written n [] h = parts-one (decimal n) (no_dot-decimal n h.0)
parts-written n (m ∷ ns) h = parts-at (decimal n) (mark_text (m ∷ ns)) (no_dot-decimal n h.0)
    ∙ ap (λ ps. decimal n ∷ ps) (parts-written m ns h.1)

-- ---- a written mark is read

-- the number of a part, before the numbers of the other parts
abbrev and_then : Option ℕ → Option (List ℕ) → Option (List ℕ)
and_then one others = option_and_then (λ number. option_map (λ numbers. number ∷ numbers) others) one

numbers-written : (ns : List ℕ) → AllByRecursion (λ k. k < 2 ^ 64) ns → numbers_in (map decimal ns) ≡ Some ns
numbers-written [] h = refl
numbers-written (n ∷ ns) h = grind (arith, number-decimal n h.0, numbers-written ns h.1)

no_start : (n : ℕ) (ns : List ℕ) → n < 2 ^ 64 → mark_text (n ∷ ns) ≡ codes "start" → ⊥
no_start n [] h e = not_start (decimal n) [] (numeral-decimal n h) (append-nil (decimal n) ∙ e)
no_start n (m ∷ ns) h e = not_start (decimal n) (46 ∷ mark_text (m ∷ ns)) (numeral-decimal n h) e

start_given : given_mark (codes "start") ≡ Some []
unfolding given_mark
start_given = refl

meant : (ns : List ℕ) → AllByRecursion (λ k. k < 2 ^ 64) ns → given_mark (mark_text ns) ≡ Some ns
meant [] h = start_given
meant (n ∷ ns) h = by_test (bytes_eq (mark_text (n ∷ ns)) (codes "start")) refl
  where
    by_test : (t : Bool) → bytes_eq (mark_text (n ∷ ns)) (codes "start") ≡ t
        → given_mark (mark_text (n ∷ ns)) ≡ Some (n ∷ ns)
    by_test true e = absurd (no_start n ns h.0 ((bytes_eq-Decides (mark_text (n ∷ ns)) (codes "start")).0 e))
    by_test false e = given_address (mark_text (n ∷ ns)) e ∙ ap numbers_in (parts-written n ns h)
        ∙ numbers-written (n ∷ ns) h

pub written_given : WrittenMarksAreGiven
written_given numbers h = meant numbers (recursion_from_All (λ k. k < 2 ^ 64) numbers h)

-- numbers that fit one by one
pub all-fit : (numbers : List ℕ) → ((k : ℕ) → get_or numbers k 0 < 2 ^ 64) → All (λ n. n < 2 ^ 64) numbers
all-fit numbers h k d lt = subst (λ n. n < 2 ^ 64) (get_or_default numbers k 0 d lt) (h k)

-- ---- a mark that is read was written

parts-meant : (ps : List (List ℕ)) (ns : List ℕ) → numbers_in ps ≡ Some ns → map decimal ns ≡ ps
parts-meant [] ns e = let x : ns ≡ [] = cc in rw x refl
parts-meant (p ∷ ps) ns e = by_parts (number_of p) (numbers_in ps) refl refl (parts-meant ps)
  where
    by_parts : (o : Option ℕ) (more : Option (List ℕ)) → number_of p ≡ o → numbers_in ps ≡ more
        → ((ms : List ℕ) → numbers_in ps ≡ Some ms → map decimal ms ≡ ps) → map decimal ns ≡ p ∷ ps
    by_parts None more a b rest = let x : numbers_in (p ∷ ps) ≡ None =
        ap (λ (o : Option ℕ). and_then o (numbers_in ps)) a in absurd (cc)
    by_parts (Some n) None a b rest = let x : numbers_in (p ∷ ps) ≡ None =
        ap (λ (o : Option ℕ). and_then o (numbers_in ps)) a ∙ ap (and_then (Some n)) b in absurd (cc)
    by_parts (Some n) (Some ms) a b rest =
        let x : numbers_in (p ∷ ps) ≡ Some (n ∷ ms) =
        ap (λ (o : Option ℕ). and_then o (numbers_in ps)) a ∙ ap (and_then (Some n)) b in
        let same : ns ≡ n ∷ ms = cc in
        ap (map decimal) same ∙ ap (λ q. q ∷ map decimal ms) (number-written p n a).0
        ∙ ap (λ qs. p ∷ qs) (rest ms b)

text_of : (ns : List ℕ) → 0 < length (map decimal ns) → mark_text ns ≡ join_with_byte 46 (map decimal ns)
text_of ns h = grind arith

pub given_written : GivenMarksAreWritten
given_written text numbers e = by_test (bytes_eq text (codes "start")) refl
  where
    by_test : (t : Bool) → bytes_eq text (codes "start") ≡ t → mark_text numbers ≡ text
    by_test true b =
        let x : given_mark text ≡ Some [] = given_start text b in
        let none : numbers ≡ [] = cc in
        ap mark_text none ∙ sym ((bytes_eq-Decides text (codes "start")).0 b)
    by_test false b =
        let parts : map decimal numbers ≡ slice_split is_dot text =
        parts-meant (slice_split is_dot text) numbers (sym (given_address text b) ∙ e) in
        let some : 0 < length (map decimal numbers) =
        omega (arith, ap length parts, length-slice_split is_dot text) in
        text_of numbers some ∙ ap (join_with_byte 46) parts ∙ join_with_byte-slice_split 46 text

-- ---- the numbers in a mark fit

parts-fit : (ps : List (List ℕ)) (ns : List ℕ) → numbers_in ps ≡ Some ns → AllByRecursion (λ n. n < 2 ^ 64) ns
parts-fit [] ns e = let x : [] ≡ ns = cc in subst (AllByRecursion (λ n. n < 2 ^ 64)) x tt
parts-fit (p ∷ ps) ns e = by_parts (number_of p) (numbers_in ps) refl refl (parts-fit ps)
  where
    by_parts : (o : Option ℕ) (more : Option (List ℕ)) → number_of p ≡ o → numbers_in ps ≡ more
        → ((ms : List ℕ) → numbers_in ps ≡ Some ms → AllByRecursion (λ n. n < 2 ^ 64) ms)
        → AllByRecursion (λ n. n < 2 ^ 64) ns
    by_parts None more a b rest = let x : numbers_in (p ∷ ps) ≡ None =
        ap (λ (o : Option ℕ). and_then o (numbers_in ps)) a in absurd (cc)
    by_parts (Some n) None a b rest = let x : numbers_in (p ∷ ps) ≡ None =
        ap (λ (o : Option ℕ). and_then o (numbers_in ps)) a ∙ ap (and_then (Some n)) b in absurd (cc)
    by_parts (Some n) (Some ms) a b rest =
        let x : numbers_in (p ∷ ps) ≡ Some (n ∷ ms) =
        ap (λ (o : Option ℕ). and_then o (numbers_in ps)) a ∙ ap (and_then (Some n)) b in
        let same : n ∷ ms ≡ ns = cc in
        subst (AllByRecursion (λ n. n < 2 ^ 64)) same ((number-written p n a).1, rest ms b)

pub given_fit : (ps : List (List ℕ)) (ns : List ℕ) → numbers_in ps ≡ Some ns → All (λ n. n < 2 ^ 64) ns
given_fit ps ns e = All-from_recursion (λ n. n < 2 ^ 64) ns (parts-fit ps ns e)
