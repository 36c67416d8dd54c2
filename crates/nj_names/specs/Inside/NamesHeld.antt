-- How names are held and found.
use Rattle.std.specs.Prelude.{◌≡◌, ℕ, zero, suc, ◌<◌, ◌≤◌, ◌==◌, false, if◌then◌else◌, Option, None, Some, unwrap_or, List, [], ◌∷◌, length}
use Rattle.std.specs.Prelude.{bytes_eq, nat_eq, slice_get, slice_index_or, slice_range}
use Rattle.std.specs.List.{IsDistinct, list_any}
use Rattle.indexmap.specs.IndexMap.{IndexMap, get}

-- ---- as one text

-- the names with the given ends, where the first name starts at `start`
abbrev pub names_in : (text : List ℕ) → (start : ℕ) → (ends : List ℕ) → List (List ℕ)
names_in text start [] = []
names_in text start (end ∷ ends) = slice_range text start end ∷ names_in text end ends

abbrev pub held_names : (text ends : List ℕ) → List (List ℕ)
held_names text ends = names_in text 0 ends

-- the ends of names rise from the start to the end of a text
abbrev pub EndsRise : (start : ℕ) → (ends : List ℕ) → (length : ℕ) → Type 0
EndsRise start [] length = start ≡ length
EndsRise start (end ∷ ends) length = (start ≤ end) × EndsRise end ends length

-- where the name with the given number starts
abbrev pub start_in : (start : ℕ) → (ends : List ℕ) → (number : ℕ) → ℕ
start_in start ends zero = start
start_in start [] (suc number) = start
start_in start (end ∷ ends) (suc number) = start_in end ends number

-- ---- found by their hashes

abbrev pub Hash : Type 0
Hash = List ℕ → ℕ

abbrev pub name_of : (names : List (List ℕ)) → (number : ℕ) → List ℕ
name_of names number = slice_index_or names number []

-- the last of the first `count` names with the given hash, counted from 1; 0 for none
abbrev pub newest_below : Hash → (names : List (List ℕ)) → (wanted count : ℕ) → ℕ
newest_below hash names wanted zero = 0
newest_below hash names wanted (suc number) =
    if hash (name_of names number) == wanted then suc number else newest_below hash names wanted number

-- each name leads to the last one before it with the same hash
pub record AreChained (hash : Hash) (names : List (List ℕ)) (earlier : List ℕ) : Type 0 where
  pub count : length earlier ≡ length names
  pub leads : (number : ℕ) → number < length names
      → slice_index_or earlier number 0 ≡ newest_below hash names (hash (name_of names number)) number

-- the newest name with the hash of a name is where its search begins
abbrev pub IsStart : Hash → (names : List (List ℕ)) → (name : List ℕ) → (at : ℕ) → Type 0
IsStart hash names name at = at ≡ newest_below hash names (hash name) (length names)

-- by some hash
abbrev pub CanBeFound : (names : List (List ℕ)) → (earlier : List ℕ) → (name : List ℕ) → (at : ℕ) → Type 0
CanBeFound names earlier name at = (hash : Hash) × AreChained hash names earlier × IsStart hash names name at

abbrev pub IsFound : (names : List (List ℕ)) → (name : List ℕ) → Option ℕ → Type 0
IsFound names name None = list_any (bytes_eq name) names ≡ false
IsFound names name (Some number) = slice_get names number ≡ Some name

-- the newest name of each hash is known
abbrev pub newest_in : {S : Type 0} → IndexMap ℕ ℕ S → (hash : ℕ) → ℕ
newest_in newest hash = unwrap_or (get nat_eq newest hash) 0

abbrev pub AreNewest : {S : Type 0} → Hash → (names : List (List ℕ)) → IndexMap ℕ ℕ S → Type 0
AreNewest hash names newest = (wanted : ℕ) → newest_in newest wanted ≡ newest_below hash names wanted (length names)

-- how the text, the ends and the links between names go together
pub record AreHeld {S : Type 0} (hash : Hash) (text ends earlier : List ℕ) (newest : IndexMap ℕ ℕ S) : Type 0 where
  pub rise : EndsRise 0 ends (length text)
  pub distinct : IsDistinct bytes_eq (held_names text ends)
  pub chained : AreChained hash (held_names text ends) earlier
  pub are_newest : AreNewest hash (held_names text ends) newest
