-- How a text lists changed paths.
use Rattle.std.specs.Prelude.{ℕ, ◌==◌, not, List, map}
use Rattle.std.specs.List.{filter, slice_split}
use Rattle.std.specs.Str.Lines.{strip_carriage_return}
use Rattle.nj_text.specs.Calls.{is_empty}

-- the pieces of a text that each end in the given byte, without the byte and without empty pieces; the last may lack
-- the byte
abbrev pub ended_by : (end : ℕ) → (text : List ℕ) → List (List ℕ)
ended_by end text = filter (λ piece. not (is_empty piece)) (slice_split (λ byte. byte == end) text)

-- paths that each end in a zero byte, verbatim
abbrev pub zero_ended : (text : List ℕ) → List (List ℕ)
zero_ended text = ended_by 0 text

-- the lines of a text that are not empty, without their ends, LF or CR LF
abbrev pub lines_of : (text : List ℕ) → List (List ℕ)
lines_of text = filter (λ line. not (is_empty line)) (map strip_carriage_return (ended_by 10 text))
