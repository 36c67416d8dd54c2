-- Laws of the paths that a word may name.
use Rattle.std.specs.Prelude.{◌≡◌, ◌≢◌, ◌⊎◌, ℕ, Bool, true, false, Option, Some, List, [], ◌∷◌, ◌++◌, Contains}
use Rattle.std.specs.List.{list_any}
use Rattle.nj_text.specs.Bytes.{begins_with}
use Rattle.nj_text.specs.Paths.{IsName, clean_path_of, is_absolute}
use Rattle.nj_tests.specs.Words.{is_sign, is_cut, path_of, pieces_of}

-- Two spellings with the same clean path name the same path, whichever directory the test runs in: for example `./a`, `b/../a`
-- and `a`.
abbrev pub SpellingsNameTheSame : Type 0
SpellingsNameTheSame = (build : List ℕ) (folder : Option (List ℕ)) (one other : List ℕ)
    → clean_path_of one ≡ clean_path_of other → path_of build folder one ≡ path_of build folder other

-- a path names the same path as its absolute form
abbrev pub AbsolutePathsNameTheSame : Type 0
AbsolutePathsNameTheSame = (build : List ℕ) (folder : Option (List ℕ)) (path : List ℕ) → is_absolute build ≡ true
    → path_of build folder (path_of build folder path) ≡ path_of build folder path

-- in a directory `name`, `../name/a` names the same path as `a`
abbrev pub WayRoundNamesTheSame : Type 0
WayRoundNamesTheSame = (build above name path : List ℕ) → IsName name → is_absolute path ≡ false
    → path_of build (Some (above ++ 47 ∷ name)) (46 ∷ 46 ∷ 47 ∷ name ++ 47 ∷ path) ≡ path_of build (Some (above ++ 47 ∷ name)) path

-- a whole word is a piece, unless it is empty
abbrev pub WordsArePieces : Type 0
WordsArePieces = (word : List ℕ) → word ≢ [] → Contains (pieces_of word) word

-- the rest of a word after a sign is a piece, unless it is empty
abbrev pub RestsArePieces : Type 0
RestsArePieces = (before piece : List ℕ) (sign : ℕ) → is_sign sign ≡ true → piece ≢ []
    → Contains (pieces_of (before ++ sign ∷ piece)) piece

-- A text without bytes of a kind lies between two of them: it follows a byte of the kind or the start of the word, and precedes a
-- byte of the kind or the end of the word.
pub record IsBetween (is : ℕ → Bool) (piece word : List ℕ) : Type 0 where
  pub before : List ℕ
  pub after : List ℕ
  pub is_there : word ≡ before ++ piece ++ after
  pub begins : (before ≡ []) ⊎ ((front : List ℕ) × (b : ℕ) × (is b ≡ true) × (before ≡ front ++ b ∷ []))
  pub ends : (after ≡ []) ⊎ (begins_with is after ≡ true)
  pub has_none : list_any is piece ≡ false

-- the text between two successive signs is a piece, unless it is empty
abbrev pub PiecesBetweenSigns : Type 0
PiecesBetweenSigns = (piece word : List ℕ) → piece ≢ [] → IsBetween is_sign piece word → Contains (pieces_of word) piece

-- the text between two successive signs, blanks or quotes is a piece, unless it is empty
abbrev pub PiecesBetweenCuts : Type 0
PiecesBetweenCuts = (piece word : List ℕ) → piece ≢ [] → IsBetween is_cut piece word → Contains (pieces_of word) piece
