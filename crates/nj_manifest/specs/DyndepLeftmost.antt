-- Where the first fault of an entry of a dyndep file is: some entry begins with the elements before it, and no entry
-- begins with these elements and the one at the fault.
use Rattle.std.specs.Prelude.{◌≡◌, ℕ, Bool, true, ◌&&◌, not, Option, Some, Ok, Err, List, [], ◌∷◌, ◌++◌, map, ◌⊎◌}
use Rattle.std.specs.List.{list_all}
use Rattle.nj_text.specs.Units.{TextUnit}
use Rattle.nj_text.specs.Lines.{Line, text_lines, line_spot, is_space_unit}
use Rattle.nj_manifest.specs.declared.cause.SyntaxCause.TheVariants as cause
use Rattle.nj_manifest.specs.Faults.{Fault, Placed}
use Rattle.nj_manifest.specs.Grammar.{AreBlanks}
use Rattle.nj_manifest.specs.Leftmost.{continues, element, written, are_plain, NamesThePlaceOf, met_before, offers}
use Rattle.nj_manifest.specs.Dyndeps.{EntryModel, is_same_spot, version_next, next_entry}

-- Units each with a place of its own, as the units of a text have.
abbrev pub are_apart : List TextUnit → Bool
are_apart [] = true
are_apart (u ∷ us) = list_all (λ v. not (is_same_spot v.spot u.spot)) us && are_apart us

-- the elements of each of the given lines are apart
abbrev pub AreApart : List Line → Type 0
AreApart ls = list_all (λ l. are_apart l.units) ls ≡ true

-- the place that a fault of an entry names, where it comes before this rest of a line
abbrev pub NamesPlaceInEntry : Fault → Line → Type 0
NamesPlaceInEntry (Placed spot cause.DyndepShape) l = spot ≡ line_spot l
NamesPlaceInEntry fault l = NamesThePlaceOf fault l

-- From this front an entry continues: in the same line with `bytes`, which begin with an element that the fault names
-- as expected, and then with `lines`. Each byte stands for itself.
pub record SomeEntry (before : List Line) (begun : List TextUnit) (fault : Fault) : Type 0 where
  pub bytes : List ℕ
  pub lines : List (List ℕ)
  pub plain_bytes : are_plain bytes ≡ true
  pub offered : offers fault bytes ≡ true
  pub plain_lines : list_all are_plain lines ≡ true
  pub entry : EntryModel
  pub rest : List Line
  pub reads : next_entry (continues before begun (written bytes) (map written lines)) ≡ Ok (Some entry, rest)

-- If the line has only the spaces with which it begins, an entry is complete: the line is one too many in the entry's
-- block. (Between the spaces and the element there may be a join, and blanks after it.)
pub record LineTooMany (before : List Line) (begun : List TextUnit) : Type 0 where
  pub spaces : List TextUnit
  pub gap : List TextUnit
  pub cut : begun ≡ spaces ++ gap
  pub of_spaces : list_all is_space_unit spaces ≡ true
  pub of_blanks : AreBlanks gap
  pub entry : EntryModel
  pub rest : List Line
  pub reads : next_entry (continues before spaces (written []) []) ≡ Ok (Some entry, rest)

-- From this front, with the given element after it, no entry continues: whatever follows, if each unit of the line has its
-- own place, the result is the given fault. A departure from the form names the first unit of the element, and so keeps its
-- place.
abbrev pub RefusesEntry : (before : List Line) → (begun element : List TextUnit) → Fault → Type 0
RefusesEntry before begun here fault =
    (l : Line) (ls : List Line) → element l.units ≡ here → are_apart (begun ++ l.units) ≡ true
    → next_entry (continues before begun l ls) ≡ Err (met_before l fault)

-- The lines, cut before the element at which the fault is.
pub record EntryComesLeftmost (ls : List Line) (fault : Fault) : Type 0 where
  pub before : List Line
  pub begun : List TextUnit
  pub line : Line
  pub others : List Line
  pub cut : ls ≡ continues before begun line others
  pub place : NamesPlaceInEntry fault line
  pub some : SomeEntry before begun fault ⊎ LineTooMany before begun
  pub refuses : RefusesEntry before begun (element line.units) fault

-- Each fault of an entry is the leftmost.
abbrev pub DyndepFaultsAreLeftmost : Type 0
DyndepFaultsAreLeftmost =
    (ls : List Line) (fault : Fault) → AreApart ls → next_entry ls ≡ Err fault → EntryComesLeftmost ls fault

-- Each unit of a text has a place of its own, and so has each unit of the lines that are left after the version, and after
-- an entry.
abbrev pub UnitsOfStringsAreApart : Type 0
UnitsOfStringsAreApart =
    ((text : List ℕ) → AreApart (text_lines text))
    × ((ls rest : List Line) → AreApart ls → version_next ls ≡ Ok rest → AreApart rest)
    × ((ls : List Line) (found : Option EntryModel) (rest : List Line) → AreApart ls → next_entry ls ≡ Ok (found, rest) → AreApart rest)
