-- The paths that a test may name.
use Rattle.std.specs.Prelude.{ℕ, Bool, false, ◌||◌, if◌then◌else◌, Option, Some, None, option_map, unwrap_or, List, [], ◌∷◌, ◌++◌, nat_eq, is_none}
use Rattle.std.specs.List.{filter, flat_map, list_any, starts_with}
use Rattle.nj_text.specs.Calls.{is_empty}
use Rattle.nj_names.specs.NameTables.{is_among}
use Rattle.nj_tests.specs.Tests.{TestModel}
use Rattle.nj_tests.specs.Words.{names_of, path_of}

-- the words of a test: those of its command, if that is known, and its other texts
abbrev pub words_of_test : TestModel → List (List ℕ)
words_of_test test = unwrap_or test.command [] ++ test.texts

-- The full paths that the words of a test may name. Spellings of the same path are not distinguished.
abbrev pub names_of_test : (build : List ℕ) → TestModel → List (List ℕ)
names_of_test build test = flat_map (names_of build test.folder) (words_of_test test)

-- those of the given full paths that words of tests may name
abbrev pub named_by_tests : (build : List ℕ) → (paths : List (List ℕ)) → List TestModel → List (List ℕ)
named_by_tests build paths tests = filter (is_among paths) (flat_map (names_of_test build) tests)

-- ---- the program of a test

-- the first of some words, unless it is empty
abbrev pub first_word : (words : List (List ℕ)) → Option (List ℕ)
first_word [] = None
first_word (word ∷ words) = if is_empty word then None else Some word

-- the program of a test: the first word of its command, as a path; none if the command is not known, or the word is empty
abbrev pub program_of_test : (build : List ℕ) → TestModel → Option (List ℕ)
program_of_test build test = option_map (path_of build test.folder) (first_word (unwrap_or test.command []))

-- ---- tests of which too little is known

-- a text has U+FFFD, which CTest writes for bytes that are not UTF-8: they are lost
abbrev pub has_lost_bytes : (text : List ℕ) → Bool
has_lost_bytes [] = false
has_lost_bytes (byte ∷ text) = starts_with nat_eq (byte ∷ text) (239 ∷ 191 ∷ 189 ∷ []) || has_lost_bytes text

-- the directory that a test names has lost bytes
abbrev pub is_lost : (folder : Option (List ℕ)) → Bool
is_lost None = false
is_lost (Some folder) = has_lost_bytes folder

-- What a test runs is not known: it has no command, or bytes of its texts are lost.
abbrev pub is_unknown : TestModel → Bool
is_unknown test = is_none test.command || list_any has_lost_bytes (words_of_test test) || is_lost test.folder
