-- The paths that a word may name: a word of a test's command, or another text of a test.
use Rattle.std.specs.Prelude.{ℕ, nat_eq, ◌==◌, ◌||◌, Bool, not, if◌then◌else◌, Option, Some, None, List, [], ◌∷◌, ◌++◌, codes, drop, map}
use Rattle.std.specs.List.{filter, flat_map, list_any, slice_split, starts_with}
use Rattle.nj_text.specs.Paths.{clean_path_of, is_absolute}
use Rattle.nj_text.specs.Calls.{is_empty}

-- ---- pieces

-- `=`, `:`, `,` and `;`: the signs between an option or a variable and its value, and between the values of a list
abbrev pub is_sign : ℕ → Bool
is_sign b = b == 61 || b == 58 || b == 44 || b == 59

-- a space, a tab, a line feed or a quote, where a word holds several words
abbrev pub is_blank_or_quote : ℕ → Bool
is_blank_or_quote b = b == 32 || b == 9 || b == 10 || b == 34 || b == 39

-- a piece may end before the byte, and another piece begin after it
abbrev pub is_cut : ℕ → Bool
is_cut b = is_sign b || is_blank_or_quote b

-- the rest of a word after each of its signs
abbrev pub rests_of : (word : List ℕ) → List (List ℕ)
rests_of [] = []
rests_of (b ∷ word) = (if is_sign b then word ∷ [] else []) ++ rests_of word

-- The stretches of a word: the whole word; the rest after each sign; the parts between two signs; and the parts between two signs,
-- blanks or quotes. The ends of the word count as signs.
abbrev pub stretches_of : (word : List ℕ) → List (List ℕ)
stretches_of word =
    if list_any is_cut word then word ∷ rests_of word ++ slice_split is_sign word ++ slice_split is_cut word else word ∷ []

-- the value that is attached to an option of one letter, as in `-Idata`, or to an `@`
abbrev pub attached_to : (stretch : List ℕ) → List (List ℕ)
attached_to stretch =
    if starts_with nat_eq stretch (codes "-") then drop 2 stretch ∷ []
    else if starts_with nat_eq stretch (codes "@") then drop 1 stretch ∷ [] else []

-- a stretch and the value in it, unless they are empty
abbrev pub pieces_in : (stretch : List ℕ) → List (List ℕ)
pieces_in stretch = filter (λ piece. not (is_empty piece)) (stretch ∷ attached_to stretch)

-- the pieces of a word, any of which may be a path
abbrev pub pieces_of : (word : List ℕ) → List (List ℕ)
pieces_of word = flat_map pieces_in (stretches_of word)

-- ---- paths

-- a path that is resolved against a directory
abbrev pub path_in : (folder path : List ℕ) → List ℕ
path_in folder path = if is_absolute path then path else folder ++ 47 ∷ path

-- the directory that a test runs in; `build` is the absolute path of the directory that the build runs in
abbrev pub folder_of : (build : List ℕ) → (folder : Option (List ℕ)) → List ℕ
folder_of build None = build
folder_of build (Some folder) = path_in build folder

-- the path that a piece names for a test that runs in a directory: clean, and absolute if `build` is absolute
abbrev pub path_of : (build : List ℕ) → (folder : Option (List ℕ)) → (piece : List ℕ) → List ℕ
path_of build folder piece = clean_path_of (path_in (folder_of build folder) piece)

-- the paths that a word may name
abbrev pub names_of : (build : List ℕ) → (folder : Option (List ℕ)) → (word : List ℕ) → List (List ℕ)
names_of build folder word = map (path_of build folder) (pieces_of word)
