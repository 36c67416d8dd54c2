-- How patterns are read. Nothing here has to be believed.
use Rattle.std.specs.Prelude.{◌≡◌, ◌⊎◌, ℕ, ◌+◌, Bool, true, ◌&&◌, if◌then◌else◌, Option, Some, None, Result, Ok, Err, List, [], ◌∷◌, ◌++◌, map, take, drop, find, position}
use Rattle.nj_globs.specs.declared.letters.Letter.{Letter}
use Rattle.nj_globs.specs.declared.parts.ByteRange.{ByteRange}
use Rattle.nj_globs.specs.declared.glob_fault.GlobFault.{GlobFault}
use Rattle.nj_globs.specs.declared.glob_fault.GlobFault.TheVariants.{UnclosedSet, ReversedRange, OutOfMemory}
use Rattle.nj_globs.specs.Globs.{GlobPart}
use Rattle.nj_globs.specs.Globs.GlobPart.{one_byte, any_byte, star, double_star, directories, byte_set}
use Rattle.nj_globs.specs.Patterns.{is_sign, has_mark, ranges_of, is_reversed, byte_range, AreParts, BeginWrong}

-- ---- sets

-- the letters after a mark
abbrev pub without_mark : List Letter → List Letter
without_mark letters = if has_mark letters then drop 1 letters else letters

-- the letters of a set whose `]` is at the given index after the first letter, and the letters after it
abbrev pub split_at_end : (first : Letter) → (others : List Letter) → Option ℕ → Option (List Letter × List Letter)
split_at_end first others None = None
split_at_end first others (Some count) = Some (first ∷ take count others, drop (count + 1) others)

-- the letters of a set and the letters after it, or `None` without a `]`
abbrev pub split_set : List Letter → Option (List Letter × List Letter)
split_set [] = None
split_set (first ∷ others) = split_at_end first others (position (is_sign 93) others)

-- the last letter of the range that begins with the given letter, and the letters after it
abbrev pub range_end : (first : Letter) → List Letter → Letter × List Letter
range_end first [] = (first, [])
range_end first (second ∷ []) = (first, second ∷ [])
range_end first (second ∷ third ∷ letters) =
    if is_sign 45 second then (third, letters) else (first, second ∷ third ∷ letters)

-- ranges so far, and the letters that are left
pub record AreRangesSoFar (letters rest : List Letter) (ranges : List ByteRange) : Type 0 where
  pub before : List (Letter × Letter)
  pub cut : ranges_of letters ≡ before ++ ranges_of rest
  pub are : ranges ≡ map byte_range before
  pub fine : find is_reversed before ≡ None

-- the first reversed range, or memory ran out
abbrev pub IsRangeFault : List Letter → GlobFault → Type 0
IsRangeFault letters fault = (fault ≡ OutOfMemory)
    ⊎ ((range : Letter × Letter) × (find is_reversed (ranges_of letters) ≡ Some range)
    × (fault ≡ ReversedRange range.0.at))

-- ---- parts

-- a part and the letters after it
abbrev pub Read : Type 0
Read = Result (GlobPart × List Letter) GlobFault

-- a part, unless a range is reversed
abbrev pub set_unless : (reversed : Option (Letter × Letter)) → GlobPart → (after : List Letter) → Read
set_unless (Some range) part after = Err (ReversedRange range.0.at)
set_unless None part after = Ok (part, after)

-- a set whose letters were split from the letters after it, if its `]` was found
abbrev pub set_of : (at : ℕ) → (is_negated : Bool) → Option (List Letter × List Letter) → Read
set_of at is_negated None = Err (UnclosedSet at)
set_of at is_negated (Some split) = set_unless (find is_reversed (ranges_of split.0))
    (byte_set is_negated (map byte_range (ranges_of split.0))) split.1

-- a set whose `[` is at the given offset, before the given letters
abbrev pub read_set : (at : ℕ) → List Letter → Read
read_set at letters = set_of at (has_mark letters) (split_set (without_mark letters))

-- `*`, `**` or, where a directory begins, `**/`: a `*` before the given letters
abbrev pub read_stars : (begins : Bool) → List Letter → GlobPart × List Letter
read_stars begins [] = (star, [])
read_stars begins (second ∷ []) = if is_sign 42 second then (double_star, []) else (star, second ∷ [])
read_stars begins (second ∷ third ∷ letters) =
    if is_sign 42 second
    then (if begins && is_sign 47 third then (directories, letters) else (double_star, third ∷ letters))
    else (star, second ∷ third ∷ letters)

-- the part at the front of letters
abbrev pub read_part : (begins : Bool) → (first : Letter) → (others : List Letter) → Read
read_part begins first others =
    if is_sign 91 first then read_set first.at others
    else (if is_sign 42 first then Ok (read_stars begins others)
    else (if is_sign 63 first then Ok (any_byte, others) else Ok (one_byte first.byte, others)))

-- the same, if there is a letter
abbrev pub read_front : (begins : Bool) → List Letter → Option Read
read_front begins [] = None
read_front begins (first ∷ others) = Some (read_part begins first others)

-- a fault is the one that is read, or memory ran out
abbrev pub Gives : Read → GlobFault → Type 0
Gives read fault = (fault ≡ OutOfMemory) ⊎ (read ≡ Err fault)

-- letters are parts without a rest
abbrev pub AreAllParts : List Letter → List GlobPart → Type 0
AreAllParts letters parts = (begins : Bool) × AreParts true parts letters [] begins

-- after some parts the letters do not begin with a part, or memory ran out
abbrev pub FailsBy : List Letter → GlobFault → Type 0
FailsBy letters fault = (fault ≡ OutOfMemory)
    ⊎ ((parts : List GlobPart) × (rest : List Letter) × (begins : Bool) × AreParts true parts letters rest begins
    × BeginWrong rest fault)
