-- Laws of the written form of marks.
use Rattle.std.specs.Prelude.{◌≡◌, ◌<◌, ◌^◌, ℕ, List, Some}
use Rattle.std.specs.List.{All}
use Rattle.nj_needs.specs.MarkTexts.{mark_text, given_mark, ReadsBack}

-- the text that is written for a mark denotes that mark
abbrev pub WrittenMarksAreGiven : Type 0
WrittenMarksAreGiven = (numbers : List ℕ) → All (λ n. n < 2 ^ 64) numbers → ReadsBack numbers

-- no other text denotes it
abbrev pub GivenMarksAreWritten : Type 0
GivenMarksAreWritten = (text numbers : List ℕ) → given_mark text ≡ Some numbers → mark_text numbers ≡ text
