-- Laws of globs.
use Rattle.std.specs.Prelude.{◌≡◌, ◌≢◌, ◌↔◌, ℕ, Bool, false, ◌||◌, ◌==◌, if◌then◌else◌, List, [], ◌∷◌, flat_map, codes}
use Rattle.std.specs.List.{list_any}
use Rattle.nj_globs.specs.declared.letters.Letter.{Letter}
use Rattle.nj_globs.specs.declared.glob_fault.GlobFault.{GlobFault}
use Rattle.nj_globs.specs.declared.glob_fault.GlobFault.TheVariants.{OutOfMemory}
use Rattle.nj_globs.specs.Globs.{GlobPart, Matches}
use Rattle.nj_globs.specs.Patterns.{letters_from, ArePartsOf, IsGlobFault}

-- the bytes that write a letter
abbrev pub letter_bytes : Letter → List ℕ
letter_bytes l = if l.is_literal then 92 ∷ l.byte ∷ [] else l.byte ∷ []

-- the letters of a pattern, written one after another, are the pattern
abbrev pub LettersWriteThePattern : Type 0
LettersWriteThePattern = (pattern : List ℕ) → flat_map letter_bytes (letters_from 0 pattern) ≡ pattern

-- two readings of a pattern are the same
abbrev pub OneReading : Type 0
OneReading = (pattern : List ℕ) (one other : List GlobPart)
    → ArePartsOf pattern one → ArePartsOf pattern other → one ≡ other

-- a pattern with parts is not refused, unless memory runs out
abbrev pub GoodPatternsAreRead : Type 0
GoodPatternsAreRead = (pattern : List ℕ) (parts : List GlobPart) (fault : GlobFault)
    → ArePartsOf pattern parts → IsGlobFault pattern fault → fault ≡ OutOfMemory

-- a pattern is refused for one reason, and at one byte, unless memory runs out
abbrev pub OneFault : Type 0
OneFault = (pattern : List ℕ) (one other : GlobFault) → IsGlobFault pattern one → IsGlobFault pattern other
    → one ≢ OutOfMemory → other ≢ OutOfMemory → one ≡ other

-- `**` matches every path
abbrev pub DoubleStarMatchesAll : Type 0
DoubleStarMatchesAll = (parts : List GlobPart) × ArePartsOf (codes "**") parts × ((path : List ℕ) → Matches parts path)

-- `*`, `?`, `[` or `\`
abbrev pub is_special_byte : ℕ → Bool
is_special_byte byte = byte == 42 || byte == 63 || byte == 91 || byte == 92

-- a pattern without special bytes matches only itself
abbrev pub PlainPatternsMatchThemselves : Type 0
PlainPatternsMatchThemselves = (pattern : List ℕ) → list_any is_special_byte pattern ≡ false
    → (parts : List GlobPart) × ArePartsOf pattern parts × ((path : List ℕ) → Matches parts path ↔ (path ≡ pattern))
