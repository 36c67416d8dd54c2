-- How the marks of runs are written.
use Rattle.std.proofs.Common.{◌≡◌, ◌≢◌, ℕ, Bool, true, false, Option, Some, None, List, [], ◌∷◌, refl, sym}
use Rattle.std.proofs.Common.{ap, ◌∙◌, arith}
use Rattle.std.specs.Prelude.{◌==◌, if◌then◌else◌, MatchOption, IfNone, option_map, option_and_then}
use Rattle.std.specs.Borrow.{Bor}
use Rattle.std.proofs.lemmas.Bool.Decides.{nat_tests}
use Rattle.std.specs.List.{slice_split, onto_first}
use Rattle.std.proofs.lemmas.List.Splits.{slice_split-cons_no}
use Rattle.nj_needs.specs.MarkTexts.{given_mark, number_of, numbers_in, ReadsBack}
use Rattle.nj_needs.specs.Inside.MarkScanning.{is_dot}
use Rattle.nj_args.specs.RunMarks.{run_mark_text, given_run_mark, RunMarksAreApart}

-- a mark that can be read back from its text can be read back as the mark of a run of either kind
pub run-mark_reads_back : (validations : Bool) (mark : List ℕ) → ReadsBack mark
    → given_run_mark validations (run_mark_text validations mark) ≡ Some mark
run-mark_reads_back false mark back = back
run-mark_reads_back true mark back = back

-- ---- marks do not begin with `v`

no_number : (part : List ℕ) → number_of (118 ∷ part) ≡ None
no_number [] = refl
no_number (digit ∷ digits) = refl

no_numbers : (parts : List (List ℕ)) → numbers_in (onto_first 118 parts) ≡ None
no_numbers [] = refl
no_numbers (part ∷ parts) =
    ap (option_and_then (λ number. option_map (λ numbers. number ∷ numbers) (numbers_in parts)))
    (no_number part)

pub no_mark : (text : List ℕ) → given_mark (118 ∷ text) ≡ None
unfolding given_mark
no_mark text = ap numbers_in (slice_split-cons_no is_dot 118 text refl) ∙ no_numbers (slice_split is_dot text)

-- ---- and the text of a mark is the rest after the `v`

by_letter : (letter : ℕ) (b : Bool) (text : List ℕ) → (letter == 118) ≡ b
    → ((rest : List ℕ) → (letter ∷ text) ≢ (118 ∷ rest))
    → (if b then given_mark text else None) ≡ None
by_letter letter true text is other =
    let same : letter ≡ 118 = grind (arith, nat_tests, is) in
    absurd (other text (ap (λ (l : ℕ). l ∷ text) same))
by_letter letter false text is other = refl

without_letter : (text : List ℕ) → ((rest : List ℕ) → text ≢ (118 ∷ rest)) → given_run_mark true text ≡ None
without_letter [] other = refl
without_letter (letter ∷ text) other = by_letter letter (letter == 118) text refl other

pub no_mark-without_letter : (validations : Bool) (text : List ℕ) (result : Option (Bor (List ℕ)))
    → validations ≡ true
    → MatchOption result ((rest : List ℕ) → text ≢ (118 ∷ rest)) (λ x. text ≡ 118 ∷ x.now)
    → IfNone result (given_run_mark validations text ≡ None)
no_mark-without_letter true text None is other = without_letter text other
no_mark-without_letter true text (Some mark) is other = tt
no_mark-without_letter false text result is other = absurd cc

apart-from : (letter : ℕ) (b : Bool) (text mark other : List ℕ) → (letter == 118) ≡ b
    → (if b then given_mark text else None) ≡ Some mark
    → given_mark (letter ∷ text) ≡ Some other → ⊥
apart-from letter true text mark other is followed plain =
    let same : letter ≡ 118 = grind (arith, nat_tests, is) in
    let none : None ≡ Some other = sym (no_mark text) ∙ ap (λ (l : ℕ). given_mark (l ∷ text)) (sym same)
    ∙ plain in
    absurd cc
apart-from letter false text mark other is followed plain = absurd cc

pub run_marks-apart : RunMarksAreApart
run_marks-apart [] mark other followed plain = absurd cc
run_marks-apart (letter ∷ text) mark other followed plain =
    apart-from letter (letter == 118) text mark other refl followed plain
