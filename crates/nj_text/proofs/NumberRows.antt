-- Worked rows of numbers and versions, computed on the definitions.
use Rattle.std.proofs.Common.{◌≡◌, Some, None, [], refl}
use Rattle.std.specs.Prelude.{codes}
use Rattle.nj_text.specs.Numbers.{leading_number_of, version_pair_of}

-- ---- numbers

digits_alone : leading_number_of (codes "451") ≡ Some 451
digits_alone = refl

digits_in_front : leading_number_of (codes "2x") ≡ Some 2
digits_in_front = refl

zeros_in_front : leading_number_of (codes "007") ≡ Some 7
zeros_in_front = refl

zero : leading_number_of (codes "0") ≡ Some 0
zero = refl

digits_after_others : leading_number_of (codes "12 34") ≡ Some 12
digits_after_others = refl

no_text : leading_number_of [] ≡ None
no_text = refl

minus : leading_number_of (codes "-1") ≡ None
minus = refl

plus : leading_number_of (codes "+1") ≡ None
plus = refl

space : leading_number_of (codes " 1") ≡ None
space = refl

letter : leading_number_of (codes "x1") ≡ None
letter = refl

-- the bytes beside `0` and `9`
beside_the_digits : leading_number_of (codes "/1") ≡ None
beside_the_digits = refl

beside_the_digits_above : leading_number_of (codes "9:") ≡ Some 9
beside_the_digits_above = refl

below_the_greatest : leading_number_of (codes "18446744073709551614") ≡ Some 18446744073709551614
below_the_greatest = refl

the_greatest : leading_number_of (codes "18446744073709551615") ≡ Some 18446744073709551615
the_greatest = refl

above_the_greatest : leading_number_of (codes "18446744073709551616") ≡ Some 18446744073709551615
above_the_greatest = refl

far_above_the_greatest : leading_number_of (codes "100000000000000000000000000007")
    ≡ Some 18446744073709551615
far_above_the_greatest = refl

-- ---- versions

three_parts : version_pair_of (codes "1.8.2") ≡ (1, 8)
three_parts = refl

two_parts : version_pair_of (codes "1.11") ≡ (1, 11)
two_parts = refl

one_part : version_pair_of (codes "1") ≡ (1, 0)
one_part = refl

nothing_after_the_dot : version_pair_of (codes "1.") ≡ (1, 0)
nothing_after_the_dot = refl

nothing_before_the_dot : version_pair_of (codes ".5") ≡ (0, 5)
nothing_before_the_dot = refl

two_dots_at_once : version_pair_of (codes "1..5") ≡ (1, 0)
two_dots_at_once = refl

letter_before_the_dot : version_pair_of (codes "x.5") ≡ (0, 5)
letter_before_the_dot = refl

digits_and_letters : version_pair_of (codes "1rc.5git") ≡ (1, 5)
digits_and_letters = refl

space_in_front : version_pair_of (codes " 1.5") ≡ (0, 5)
space_in_front = refl

space_after_the_dot : version_pair_of (codes "1. 5") ≡ (1, 0)
space_after_the_dot = refl

no_version : version_pair_of [] ≡ (0, 0)
no_version = refl

great_parts : version_pair_of (codes "18446744073709551616.18446744073709551617")
    ≡ (18446744073709551615, 18446744073709551615)
great_parts = refl
