-- Worked rows of marks, computed on the definitions.
use Rattle.std.proofs.Common.{◌≡◌, Some, None, [], ◌∷◌, refl}
use Rattle.std.specs.Prelude.{codes}
use Rattle.std.specs.Fmt.{digits}
use Rattle.nj_needs.specs.MarkTexts.{given_mark, mark_text}

zero : given_mark (codes "0") ≡ Some (0 ∷ [])
unfolding given_mark
zero = refl

zero_written : mark_text (0 ∷ []) ≡ codes "0"
unfolding digits
zero_written = refl

three : given_mark (codes "0.1.0") ≡ Some (0 ∷ 1 ∷ 0 ∷ [])
unfolding given_mark
three = refl

three_written : mark_text (0 ∷ 1 ∷ 0 ∷ []) ≡ codes "0.1.0"
unfolding digits
three_written = refl

greatest : given_mark (codes "18446744073709551615") ≡ Some (18446744073709551615 ∷ [])
unfolding given_mark
greatest = refl

greatest_written : mark_text (18446744073709551615 ∷ []) ≡ codes "18446744073709551615"
unfolding digits
greatest_written = refl

start : given_mark (codes "start") ≡ Some ([])
unfolding given_mark
start = refl

start_written : mark_text ([]) ≡ codes "start"
unfolding digits
start_written = refl

dot_at_the_end : given_mark (codes "0.") ≡ None
unfolding given_mark
dot_at_the_end = refl

dot_in_front : given_mark (codes ".0") ≡ None
unfolding given_mark
dot_in_front = refl

leading_zero : given_mark (codes "01") ≡ None
unfolding given_mark
leading_zero = refl

two_dots : given_mark (codes "0..1") ≡ None
unfolding given_mark
two_dots = refl

letter : given_mark (codes "v0") ≡ None
unfolding given_mark
letter = refl

great_letter : given_mark (codes "Start") ≡ None
unfolding given_mark
great_letter = refl

above_the_greatest : given_mark (codes "18446744073709551616") ≡ None
unfolding given_mark
above_the_greatest = refl

two_zeros : given_mark (codes "00") ≡ None
unfolding given_mark
two_zeros = refl

plus : given_mark (codes "+1") ≡ None
unfolding given_mark
plus = refl

no_text : given_mark [] ≡ None
unfolding given_mark
no_text = refl
