-- The meaning of a command's words.
use Rattle.std.specs.Prelude.{◌≡◌, ◌≢◌, ℕ, true, false, List, [], map, Contains}
use Rattle.std.specs.List.{AllByRecursion, join_with_byte, list_any}
use Rattle.nj_text.specs.Quotes.{quoted}
use Rattle.nj_audit.specs.ShellWords.{words_of}
use Rattle.nj_audit.specs.WordNames.{is_sign, word_names}

-- Paths that Ninja quotes, as in the value of `$in`, with blanks between them, are cut back into the same paths.
abbrev pub QuotedPathsAreWords : Type 0
QuotedPathsAreWords = (paths : List (List ℕ)) → AllByRecursion (λ path. path ≢ []) paths
    → words_of (join_with_byte 32 (map quoted paths)) ≡ paths

-- Texts without a sign, joined to a list by a sign, are names in the word of the list.
abbrev pub ListedTextsAreNames : Type 0
ListedTextsAreNames = (sign : ℕ) (texts : List (List ℕ)) → is_sign sign ≡ true
    → AllByRecursion (λ text. list_any is_sign text ≡ false) texts
    → (text : List ℕ) → Contains texts text → Contains (word_names (join_with_byte sign texts)) text
