-- How a pattern writes its parts: its bytes are letters, and letters are parts.
use Rattle.std.specs.Prelude.{◌≡◌, ◌≢◌, ℕ, ◌+◌, Bool, true, false, not, ◌&&◌, ◌||◌, if◌then◌else◌, ◌==◌, nat_lt, Some, None, List, [], ◌∷◌, ◌++◌, map, find}
use Rattle.std.specs.List.{list_any}
use Rattle.nj_globs.specs.declared.letters.Letter.{Letter}
use Rattle.nj_globs.specs.declared.parts.ByteRange.{ByteRange}
use Rattle.nj_globs.specs.declared.glob_fault.GlobFault.{GlobFault}
use Rattle.nj_globs.specs.declared.glob_fault.GlobFault.TheVariants.{UnclosedSet, BackslashAtEnd, ReversedRange, OutOfMemory}
use Rattle.nj_globs.specs.Globs.{GlobPart, is_slash}
use Rattle.nj_globs.specs.Globs.GlobPart.{one_byte, any_byte, star, double_star, directories, byte_set}

-- ---- letters

-- a byte at the given offset, and whether a `\` precedes it, so that it is not a sign
abbrev pub letter : (byte : ℕ) → (is_literal : Bool) → (at : ℕ) → Letter
letter byte is_literal at = record { byte = byte; is_literal = is_literal; at = at }

-- the letters of bytes from an offset on: a `\` and the byte after it are one letter, and any other byte is one
abbrev pub letters_from : (at : ℕ) → List ℕ → List Letter
letters_from at [] = []
letters_from at (byte ∷ []) = letter byte false at ∷ []
letters_from at (byte ∷ next ∷ bytes) =
    if byte == 92 then letter next true at ∷ letters_from (at + 2) bytes
    else letter byte false at ∷ letters_from (at + 1) (next ∷ bytes)

-- a letter is this sign
abbrev pub is_sign : (sign : ℕ) → Letter → Bool
is_sign sign l = not l.is_literal && l.byte == sign

-- `*`, `?` or `[`, unless it is literal
abbrev pub is_special : Letter → Bool
is_special l = is_sign 42 l || is_sign 63 l || is_sign 91 l

-- a `\` without a byte after it
abbrev pub is_lone : Letter → Bool
is_lone l = is_sign 92 l

-- the first letter is this sign
abbrev pub begins_with : (sign : ℕ) → List Letter → Bool
begins_with sign [] = false
begins_with sign (l ∷ letters) = is_sign sign l

-- ---- sets

-- `!` or `^`
abbrev pub is_mark : Letter → Bool
is_mark l = is_sign 33 l || is_sign 94 l

-- the first letter is a mark
abbrev pub has_mark : List Letter → Bool
has_mark [] = false
has_mark (l ∷ letters) = is_mark l

-- a set is negated by a mark before its letters; otherwise they do not begin with a mark
abbrev pub IsMarked : (is_negated : Bool) → (mark inside : List Letter) → Type 0
IsMarked true mark inside = (l : Letter) × (mark ≡ l ∷ []) × (is_mark l ≡ true)
IsMarked false mark inside = (mark ≡ []) × (has_mark inside ≡ false)

-- a `]` after the first letter
abbrev pub has_end : List Letter → Bool
has_end [] = false
has_end (first ∷ others) = list_any (is_sign 93) others

-- Letters after a `[` are those inside a set, with its mark, then the first `]` that is not the first letter of the set,
-- and the rest.
pub record IsSet (is_negated : Bool) (letters inside after : List Letter) : Type 0 where
  pub mark : List Letter
  pub close : Letter
  pub cut : letters ≡ mark ++ (inside ++ close ∷ after)
  pub is_marked : IsMarked is_negated mark inside
  pub some : inside ≢ []
  pub no_end : has_end inside ≡ false
  pub closes : is_sign 93 close ≡ true

-- the ranges of a set, each by its first and its last letter: a `-` between two letters joins them, and any other letter is a range
abbrev pub ranges_of : List Letter → List (Letter × Letter)
ranges_of [] = []
ranges_of (first ∷ []) = (first, first) ∷ []
ranges_of (first ∷ second ∷ []) = (first, first) ∷ (second, second) ∷ []
ranges_of (first ∷ second ∷ third ∷ letters) =
    if is_sign 45 second then (first, third) ∷ ranges_of letters
    else (first, first) ∷ ranges_of (second ∷ third ∷ letters)

-- its bytes
abbrev pub byte_range : Letter × Letter → ByteRange
byte_range range = record { low = range.0.byte; high = range.1.byte }

-- a range ends below its start
abbrev pub is_reversed : Letter × Letter → Bool
is_reversed range = nat_lt range.1.byte range.0.byte

-- letters are ranges, none of which is reversed
pub record HaveRanges (letters : List Letter) (ranges : List ByteRange) : Type 0 where
  pub are : ranges ≡ map byte_range (ranges_of letters)
  pub fine : find is_reversed (ranges_of letters) ≡ None

-- ---- parts

-- letters begin with a part, where a directory begins or not, and the given letters are after it
abbrev pub BeginWith : (begins : Bool) → GlobPart → (letters after : List Letter) → Type 0
BeginWith begins (one_byte byte) letters after =
    (l : Letter) × (letters ≡ l ∷ after) × (l.byte ≡ byte) × (is_special l ≡ false)
BeginWith begins any_byte letters after = (l : Letter) × (letters ≡ l ∷ after) × (is_sign 63 l ≡ true)
BeginWith begins star letters after =
    (l : Letter) × (letters ≡ l ∷ after) × (is_sign 42 l ≡ true) × (begins_with 42 after ≡ false)
BeginWith begins double_star letters after = (l m : Letter) × (letters ≡ l ∷ m ∷ after)
    × (is_sign 42 l ≡ true) × (is_sign 42 m ≡ true) × ((begins && begins_with 47 after) ≡ false)
BeginWith begins directories letters after = (l m n : Letter) × (letters ≡ l ∷ m ∷ n ∷ after)
    × (is_sign 42 l ≡ true) × (is_sign 42 m ≡ true) × (is_sign 47 n ≡ true) × (begins ≡ true)
BeginWith begins (byte_set is_negated ranges) letters after = (l : Letter) × (others inside : List Letter)
    × (letters ≡ l ∷ others) × (is_sign 91 l ≡ true) × IsSet is_negated others inside after × HaveRanges inside ranges

-- letters do not begin with a part, for the given reason
abbrev pub BeginWrong : (letters : List Letter) → GlobFault → Type 0
BeginWrong letters (UnclosedSet at) = (l : Letter) × (others : List Letter) × (letters ≡ l ∷ others)
    × (is_sign 91 l ≡ true) × (l.at ≡ at)
    × ((is_negated : Bool) (inside after : List Letter) → IsSet is_negated others inside after → ⊥)
BeginWrong letters (ReversedRange at) = (l : Letter) × (others inside after : List Letter) × (is_negated : Bool)
    × (range : Letter × Letter) × (letters ≡ l ∷ others) × (is_sign 91 l ≡ true)
    × IsSet is_negated others inside after × (find is_reversed (ranges_of inside) ≡ Some range) × (range.0.at ≡ at)
BeginWrong letters (BackslashAtEnd at) = ⊥
BeginWrong letters OutOfMemory = ⊥

-- a directory begins after a part
abbrev pub begins_after : GlobPart → Bool
begins_after (one_byte byte) = is_slash byte
begins_after any_byte = false
begins_after star = false
begins_after double_star = false
begins_after directories = true
begins_after (byte_set is_negated ranges) = false

-- Letters are the given parts, one after another, and a rest. A directory begins before each of the two or not.
abbrev pub AreParts : (begins : Bool) → List GlobPart → (letters rest : List Letter) → (begins_rest : Bool) → Type 0
AreParts begins [] letters rest begins_rest = (letters ≡ rest) × (begins ≡ begins_rest)
AreParts begins (part ∷ parts) letters rest begins_rest = (after : List Letter)
    × BeginWith begins part letters after × AreParts (begins_after part) parts after rest begins_rest

-- ---- patterns

-- no `\` of a pattern is alone, and its letters are the given parts
pub record ArePartsOf (pattern : List ℕ) (parts : List GlobPart) : Type 0 where
  pub whole : list_any is_lone (letters_from 0 pattern) ≡ false
  pub begins_rest : Bool
  pub are_parts : AreParts true parts (letters_from 0 pattern) [] begins_rest

-- no `\` of a pattern is alone, and after some parts its letters do not begin with a part
pub record Fails (pattern : List ℕ) (fault : GlobFault) : Type 0 where
  pub whole : list_any is_lone (letters_from 0 pattern) ≡ false
  pub parts : List GlobPart
  pub rest : List Letter
  pub begins_rest : Bool
  pub before : AreParts true parts (letters_from 0 pattern) rest begins_rest
  pub wrong : BeginWrong rest fault

-- why a pattern is not a glob
abbrev pub IsGlobFault : (pattern : List ℕ) → GlobFault → Type 0
IsGlobFault pattern (BackslashAtEnd at) = find is_lone (letters_from 0 pattern) ≡ Some (letter 92 false at)
IsGlobFault pattern (UnclosedSet at) = Fails pattern (UnclosedSet at)
IsGlobFault pattern (ReversedRange at) = Fails pattern (ReversedRange at)
IsGlobFault pattern OutOfMemory = Unit {0}
