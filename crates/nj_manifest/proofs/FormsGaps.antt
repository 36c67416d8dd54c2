-- Units cut at the longest front that passes, and blanks above all.
use Rattle.std.proofs.Common.{arith, ◌≡◌, Bool, true, false, cond, List, [], ◌∷◌, ◌++◌, refl, ap, ◌∙◌}
use Rattle.std.specs.List.{list_all, take_while}
use Rattle.std.proofs.lemmas.Bool.{and_parts}
use Rattle.nj_text.specs.Bytes.{drop_while, begins_with}
use Rattle.nj_text.specs.Units.{TextUnit}
use Rattle.nj_text.specs.Words.{is_blank}
use Rattle.nj_text.proofs.Lists.{take_while-cons_yes, take_while-cons_no}
use Rattle.nj_manifest.specs.Grammar.{AreBlanks}

-- the front and the rest
pub both_parts : (p : TextUnit → Bool) (us : List TextUnit) → us ≡ take_while p us ++ drop_while p us
both_parts p [] = refl
both_parts p (u ∷ us) = by_test (p u) refl (both_parts p us)
  where
    by_test : (t : Bool) → p u ≡ t → us ≡ take_while p us ++ drop_while p us
        → u ∷ us ≡ take_while p (u ∷ us) ++ cond t (drop_while p us) (u ∷ us)
    by_test true e rest = rw (take_while-cons_yes p u us e) (ap (λ (vs : List TextUnit). u ∷ vs) rest)
    by_test false e rest = rw (take_while-cons_no p u us e) refl

pub front_passes : (p : TextUnit → Bool) (us : List TextUnit) → list_all p (take_while p us) ≡ true
front_passes p [] = refl
front_passes p (u ∷ us) = by_test (p u) refl (front_passes p us)
  where
    by_test : (t : Bool) → p u ≡ t → list_all p (take_while p us) ≡ true
        → list_all p (take_while p (u ∷ us)) ≡ true
    by_test true e rest = rw (take_while-cons_yes p u us e, e) rest
    by_test false e rest = rw (take_while-cons_no p u us e) refl

pub after_stops : (p : TextUnit → Bool) (us : List TextUnit) → begins_with p (drop_while p us) ≡ false
after_stops p [] = refl
after_stops p (u ∷ us) = grind (arith, after_stops p us)

-- units that pass are passed over
pub passed_over : (p : TextUnit → Bool) (run us : List TextUnit) → list_all p run ≡ true
    → drop_while p (run ++ us) ≡ drop_while p us
passed_over p [] us h = refl
passed_over p (u ∷ run) us h =
    let both = and_parts (p u) (list_all p run) h in
    rw both.0 (passed_over p run us both.1)

pub none_passed : (p : TextUnit → Bool) (us : List TextUnit) → begins_with p us ≡ false → drop_while p us ≡ us
none_passed p us h = grind arith

pub none_taken : (p : TextUnit → Bool) (us : List TextUnit) → begins_with p us ≡ false → take_while p us ≡ []
none_taken p us h = grind arith

-- a run that is as long as can be
pub run_passed : (p : TextUnit → Bool) (run us : List TextUnit) → list_all p run ≡ true
    → begins_with p us ≡ false → drop_while p (run ++ us) ≡ us
run_passed p run us h n = passed_over p run us h ∙ none_passed p us n

pub run_taken : (p : TextUnit → Bool) (run us : List TextUnit) → list_all p run ≡ true
    → begins_with p us ≡ false → take_while p (run ++ us) ≡ run
run_taken p [] us h n = none_taken p us n
run_taken p (u ∷ run) us h n =
    let both = and_parts (p u) (list_all p run) h in
    take_while-cons_yes p u (run ++ us) both.0
    ∙ ap (λ (vs : List TextUnit). u ∷ vs) (run_taken p run us both.1 n)

-- ---- blanks

-- the units after the blanks
abbrev pub skip : List TextUnit → List TextUnit
skip us = drop_while is_blank us

pub skip_again : (us : List TextUnit) → skip (skip us) ≡ skip us
skip_again us = none_passed is_blank (skip us) (after_stops is_blank us)

pub skip_stops : (us : List TextUnit) → begins_with is_blank (skip us) ≡ false
skip_stops us = after_stops is_blank us

pub skip_gap : (us gap others : List TextUnit) → us ≡ gap ++ others → AreBlanks gap
    → begins_with is_blank others ≡ false → skip us ≡ others
skip_gap us gap others e h n = ap skip e ∙ run_passed is_blank gap others h n

abbrev pub gap_of : List TextUnit → List TextUnit
gap_of us = take_while is_blank us

pub gap_passes : (us : List TextUnit) → AreBlanks (gap_of us)
gap_passes us = front_passes is_blank us

pub gap_cut : (us : List TextUnit) → us ≡ gap_of us ++ skip us
gap_cut us = both_parts is_blank us

-- a line of blanks alone
pub blanks_end : (us : List TextUnit) → AreBlanks us → skip us ≡ []
blanks_end [] h = refl
blanks_end (u ∷ us) h =
    let both = and_parts (is_blank u) (list_all is_blank us) h in
    rw both.0 (blanks_end us both.1)

pub end_of_blanks : (us : List TextUnit) → skip us ≡ [] → AreBlanks us
end_of_blanks [] h = refl
end_of_blanks (u ∷ us) h = grind (arith, end_of_blanks us)
