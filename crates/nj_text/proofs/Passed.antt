-- Blanks that are passed.
use Rattle.std.proofs.Common.{arith, ◌≡◌, ℕ, true, false, List, [], ◌∷◌, ◌++◌, length, refl}
use Rattle.std.proofs.Common.{ap}
use Rattle.std.proofs.Common.{◌∙◌}
use Rattle.std.specs.List.{take_while}
use Rattle.std.proofs.lemmas.Bool.{eqb-true}
use Rattle.nj_text.specs.declared.spot.Spot.{Spot}
use Rattle.nj_text.specs.Bytes.{is_space, is_ordinary_byte, drop_while}
use Rattle.nj_text.specs.Units.{Meaning, Join, TextUnit, cut}
use Rattle.nj_text.specs.Inside.Scans.{advance, units_within, Begins, BeginsBadly, begins_with_space_byte}
use Rattle.nj_text.specs.Inside.Scans.{is_first}
use Rattle.nj_text.specs.Words.{is_blank}
use Rattle.nj_text.specs.Inside.Meanings.{is_blank_meaning}
use Rattle.nj_text.proofs.Lists.{AllIn, AllIn-weaker, AllIn-take_while, drop_while-append}
use Rattle.nj_text.proofs.Cuts.{plain_units, cut-run}

-- a unit that is not a blank ends the blanks
pub blanks_stop : (spot : Spot) (bytes : List ℕ) (m : Meaning) (n : ℕ) (remainder : List TextUnit)
    → Begins spot bytes m n remainder → is_blank_meaning m ≡ false
    → drop_while is_blank (units_within spot bytes) ≡ units_within spot bytes
blanks_stop spot bytes m n remainder e h = rw e (rw h refl)

pub blanks_stop_badly : (spot : Spot) (bytes : List ℕ) (m : Meaning) → BeginsBadly spot bytes m
    → is_blank_meaning m ≡ false → drop_while is_blank (units_within spot bytes) ≡ units_within spot bytes
blanks_stop_badly spot bytes m b h = blanks_stop spot bytes m b.0 b.1 b.2 h

pub blanks_stop_at_end : (spot : Spot) (bytes : List ℕ) → bytes ≡ []
    → drop_while is_blank (units_within spot bytes) ≡ units_within spot bytes
unfolding cut
blanks_stop_at_end spot bytes e = rw e refl

pub first_is_not_space : (b : ℕ) (bytes : List ℕ) → is_first b bytes ≡ true
    → begins_with_space_byte bytes ≡ false → is_space b ≡ false
first_is_not_space b bytes e h = grind arith

-- a join is a blank
pub blanks_over_join : (spot : Spot) (bytes : List ℕ) (n : ℕ) (remainder : List TextUnit)
    → Begins spot bytes Join n remainder → drop_while is_blank (units_within spot bytes)
    ≡ drop_while is_blank remainder
blanks_over_join spot bytes n remainder e = rw e refl

space_is_ordinary : (b : ℕ) → is_space b ≡ true → is_ordinary_byte b ≡ true
space_is_ordinary b h = rw (eqb-true b 32 h) refl

spaces_are_blanks : (spot : Spot) (xs : List ℕ) → AllIn is_space xs → AllIn is_blank (plain_units spot xs)
spaces_are_blanks spot [] h = tt
spaces_are_blanks spot (x ∷ xs) h = (h.0, spaces_are_blanks (advance 1 spot) xs h.1)

-- and so are spaces
pub blanks_over_spaces : (spot : Spot) (bytes xs ys : List ℕ) → bytes ≡ xs ++ ys → AllIn is_space xs
    → drop_while is_blank (units_within spot bytes)
    ≡ drop_while is_blank (units_within (advance (length xs) spot) ys)
blanks_over_spaces spot bytes xs ys e h =
    ap (λ bs. drop_while is_blank (units_within spot bs)) e
    ∙ ap (drop_while is_blank) (cut-run spot xs ys
    (AllIn-weaker is_space is_ordinary_byte xs space_is_ordinary h))
    ∙ drop_while-append is_blank (plain_units spot xs) (units_within (advance (length xs) spot) ys)
    (spaces_are_blanks spot xs h)

pub no_space_after : (bytes : List ℕ) → begins_with_space_byte (drop_while is_space bytes) ≡ false
no_space_after [] = refl
no_space_after (b ∷ bs) = grind (arith, no_space_after bs)

pub blanks_over_run : (spot : Spot) (bytes xs ys : List ℕ) (there : Spot) → bytes ≡ xs ++ ys
    → xs ≡ take_while is_space bytes → there ≡ advance (length xs) spot
    → drop_while is_blank (units_within spot bytes) ≡ drop_while is_blank (units_within there ys)
blanks_over_run spot bytes xs ys there whole run e = grind (
  arith,
  blanks_over_spaces spot bytes xs ys whole (rw run (AllIn-take_while is_space bytes)),
)
