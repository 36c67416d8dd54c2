-- The marks of runs in their written form. A run that follows validations has marks of its own, which begin with a `v`.
use Rattle.std.specs.Prelude.{◌≡◌, ℕ, ◌==◌, Bool, true, false, if◌then◌else◌, Option, Some, None, List, [], ◌∷◌, ◌++◌, codes}
use Rattle.nj_needs.specs.MarkTexts.{mark_text, given_mark}

-- a mark of a run as text; a `v` indicates that validations are followed
abbrev pub run_mark_text : (validations : Bool) → (mark : List ℕ) → List ℕ
run_mark_text false mark = mark_text mark
run_mark_text true mark = codes "v" ++ mark_text mark

-- the mark that a text denotes, in a run that follows validations or in a run that does not
abbrev pub given_run_mark : (validations : Bool) → (text : List ℕ) → Option (List ℕ)
given_run_mark false text = given_mark text
given_run_mark true [] = None
given_run_mark true (letter ∷ text) = if letter == 118 then given_mark text else None

-- a text never denotes a mark for both kinds of runs
abbrev pub RunMarksAreApart : Type 0
RunMarksAreApart = (text mark other : List ℕ) → given_run_mark true text ≡ Some mark → given_run_mark false text ≡ Some other → ⊥
