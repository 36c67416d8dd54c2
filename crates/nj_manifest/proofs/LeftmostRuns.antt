-- Units cut at the longest front that passes a test, and blanks above all.
use Rattle.std.proofs.Common.{arith, ◌≡◌, ℕ, Bool, true, false, cond, eqb, List, [], ◌∷◌, ◌++◌, refl, ap}
use Rattle.std.proofs.Common.{◌∙◌}
use Rattle.std.specs.List.{take_while}
use Rattle.nj_text.specs.Bytes.{drop_while, begins_with}
use Rattle.nj_text.specs.Units.{Meaning, Ordinary}
use Rattle.nj_text.specs.Units.{TextUnit, is_ordinary_in}
use Rattle.nj_text.specs.Words.{is_blank}
use Rattle.nj_text.proofs.Lists.{AllIn, AllIn-take_while, take_while-cons_yes, take_while-cons_no}
use Rattle.nj_text.proofs.Lists.{drop_while-append}

-- the front and the rest
pub both_parts : (p : TextUnit → Bool) (us : List TextUnit) → us ≡ take_while p us ++ drop_while p us
both_parts p [] = refl
both_parts p (u ∷ us) = by_test (p u) refl (both_parts p us)
  where
    by_test : (t : Bool) → p u ≡ t → us ≡ take_while p us ++ drop_while p us
        → u ∷ us ≡ take_while p (u ∷ us) ++ cond t (drop_while p us) (u ∷ us)
    by_test true e rest = rw (take_while-cons_yes p u us e) (ap (λ (vs : List TextUnit). u ∷ vs) rest)
    by_test false e rest = rw (take_while-cons_no p u us e) refl

pub after_stops : (p : TextUnit → Bool) (us : List TextUnit) → begins_with p (drop_while p us) ≡ false
after_stops p [] = refl
after_stops p (u ∷ us) = grind (arith, after_stops p us)

pub none_passed : (p : TextUnit → Bool) (us : List TextUnit) → begins_with p us ≡ false → drop_while p us ≡ us
none_passed p us h = grind arith

pub none_taken : (p : TextUnit → Bool) (us : List TextUnit) → begins_with p us ≡ false → take_while p us ≡ []
none_taken p us h = grind arith

-- a run that is as long as can be
pub run_passed : (p : TextUnit → Bool) (run us : List TextUnit) → AllIn p run → begins_with p us ≡ false
    → drop_while p (run ++ us) ≡ us
run_passed p run us h n = drop_while-append p run us h ∙ none_passed p us n

pub run_taken : (p : TextUnit → Bool) (run us : List TextUnit) → AllIn p run → begins_with p us ≡ false
    → take_while p (run ++ us) ≡ run
run_taken p [] us h n = none_taken p us n
run_taken p (u ∷ run) us h n = take_while-cons_yes p u (run ++ us) h.0
    ∙ ap (λ (vs : List TextUnit). u ∷ vs) (run_taken p run us h.1 n)

-- ---- blanks

-- the units after the blanks
abbrev pub skip : List TextUnit → List TextUnit
skip us = drop_while is_blank us

abbrev pub gap_of : List TextUnit → List TextUnit
gap_of us = take_while is_blank us

pub skip_stops : (us : List TextUnit) → begins_with is_blank (skip us) ≡ false
skip_stops us = after_stops is_blank us

pub skip_again : (us : List TextUnit) → skip (skip us) ≡ skip us
skip_again us = none_passed is_blank (skip us) (skip_stops us)

pub gap_passes : (us : List TextUnit) → AllIn is_blank (gap_of us)
gap_passes us = AllIn-take_while is_blank us

pub gap_cut : (us : List TextUnit) → us ≡ gap_of us ++ skip us
gap_cut us = both_parts is_blank us

pub skip_gap : (gap us : List TextUnit) → AllIn is_blank gap → skip (gap ++ us) ≡ skip us
skip_gap gap us h = drop_while-append is_blank gap us h

-- ---- tests on the meaning of a unit

-- an ordinary byte that passes one test and so fails another
pub no_other : (p : ℕ → Bool) (test : Meaning → Bool) → ((b : ℕ) → p b ≡ true → test (Ordinary b) ≡ false)
    → (m : Meaning) → is_ordinary_in p m ≡ true → test m ≡ false
no_other p test f m h = grind arith

-- a byte that passes differs from a byte that does not pass
pub not_byte : (p : ℕ → Bool) (n : ℕ) → p n ≡ false → (b : ℕ) → p b ≡ true → eqb b n ≡ false
not_byte p n e b h = grind arith
