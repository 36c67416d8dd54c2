-- Worked rows of the words of a text, computed on the definition.
use Rattle.std.proofs.Common.{◌≡◌, [], ◌∷◌, refl}
use Rattle.nj_c.specs.Runs.{given_words}

nothing : given_words [] ≡ []
nothing = refl

one : given_words (45 ∷ 116 ∷ []) ≡ (45 ∷ 116 ∷ []) ∷ []
one = refl

one_ended : given_words (45 ∷ 116 ∷ 0 ∷ []) ≡ (45 ∷ 116 ∷ []) ∷ []
one_ended = refl

two : given_words (97 ∷ 0 ∷ 98 ∷ []) ≡ (97 ∷ []) ∷ (98 ∷ []) ∷ []
two = refl

one_empty : given_words (0 ∷ []) ≡ [] ∷ []
one_empty = refl

empty_at_the_end : given_words (97 ∷ 0 ∷ 0 ∷ []) ≡ (97 ∷ []) ∷ [] ∷ []
empty_at_the_end = refl

empty_in_front : given_words (0 ∷ 97 ∷ []) ≡ [] ∷ (97 ∷ []) ∷ []
empty_in_front = refl
