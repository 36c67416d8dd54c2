-- The tests that are chosen, as text.
use Rattle.std.specs.Prelude.{ℕ, ◌+◌, Bool, ◌||◌, ◌==◌, if◌then◌else◌, Option, Some, None, List, [], ◌∷◌, ◌++◌, codes, drop}
use Rattle.std.specs.List.{flat_map}
use Rattle.std.specs.Str.Lossy.{utf8_lossy}
use Rattle.serde_json.specs.Data.{Data, member, no_members, object, string}
use Rattle.serde_json.specs.Written.{compact_text}
use Rattle.nj_text.specs.Calls.{is_empty}
use Rattle.nj_tests.specs.Tests.{TestModel}
use Rattle.nj_chosen.specs.Choices.{ChosenModel, WhyChosen, Own, Follows, Needed, why_chosen}
use Rattle.nj_chosen.specs.Reasons.{Why, Named, UnknownCommand, Unnamed}
use Rattle.nj_chosen.specs.declared.reason.Link.{Link}
use Rattle.nj_chosen.specs.declared.reason.Link.TheVariants.{AffectedOutput, ChangedFile, Directory, NeedsAffected}
use Rattle.nj_test_texts.specs.declared.style.Style.{Style}
use Rattle.nj_test_texts.specs.declared.style.Style.TheVariants.{Names, Reasons, Objects, CTest, Meson}

-- ---- the tests that are written

-- A test that is written: its name, and why it is chosen. If all tests are written, some of them are not chosen.
pub record NamedTest : Type 0 where
  pub name : List ℕ
  pub why : Option WhyChosen

-- the test with the given name and reason
abbrev pub named_test : (name : List ℕ) → (why : Option WhyChosen) → NamedTest
named_test name why = record { name = name; why = why }

-- the test with the given name, if it is written: it is chosen, or all tests are written
abbrev pub written : (all : Bool) → (name : List ℕ) → (why : Option WhyChosen) → List NamedTest
written all name (Some why) = named_test name (Some why) ∷ []
written all name None = if all then named_test name None ∷ [] else []

-- the given tests that are written, where the first test has the given number
abbrev pub written_from : (all : Bool) → ChosenModel → (number : ℕ) → List TestModel → List NamedTest
written_from all chosen number [] = []
written_from all chosen number (test ∷ tests) =
    written all test.name (why_chosen chosen number) ++ written_from all chosen (number + 1) tests

-- ---- reasons

-- the word of a link to a change
abbrev pub link_word : Link → List ℕ
link_word AffectedOutput = codes "affected-output"
link_word ChangedFile = codes "changed-file"
link_word Directory = codes "directory"
link_word NeedsAffected = codes "needs-affected"

-- the word of a test's own reason
abbrev pub own_word : Why → List ℕ
own_word (Named link path) = link_word link
own_word UnknownCommand = codes "unknown-command"
own_word Unnamed = codes "unnamed"

-- the path of a test's own reason, if any
abbrev pub own_path : Why → List ℕ
own_path (Named link path) = path
own_path UnknownCommand = []
own_path Unnamed = []

-- the word of the reason for which a test is written
abbrev pub reason_word : Option WhyChosen → List ℕ
reason_word (Some (Own why)) = own_word why
reason_word (Some Follows) = codes "follows"
reason_word (Some Needed) = codes "needed"
reason_word None = codes "uncertain"

-- the path of the reason for which a test is written, if any
abbrev pub reason_path : Option WhyChosen → List ℕ
reason_path (Some (Own why)) = own_path why
reason_path (Some Follows) = []
reason_path (Some Needed) = []
reason_path None = []

-- ---- lines

-- a text as a line
abbrev pub line : List ℕ → List ℕ
line text = text ++ 10 ∷ []

-- a path after a space, if any
abbrev pub spaced : (path : List ℕ) → List ℕ
spaced path = if is_empty path then [] else 32 ∷ path

-- the name of a test, a tab and its reason
abbrev pub reason_line : NamedTest → List ℕ
reason_line test = line (test.name ++ 9 ∷ (reason_word test.why ++ spaced (reason_path test.why)))

-- a test as an object in JSON; U+FFFD replaces invalid UTF-8
abbrev pub test_object : NamedTest → Data
test_object test = object (
    member (codes "name") (string test.name) (
    member (codes "reason") (string (reason_word test.why)) (
    member (codes "path") (string (utf8_lossy (reason_path test.why))) no_members)))

-- ---- patterns

-- `$()*+.?[\]^|`, the signs in regular expressions of CMake
abbrev pub is_regex_sign : ℕ → Bool
is_regex_sign b = b == 36 || b == 40 || b == 41 || b == 42 || b == 43 || b == 46 || b == 63 || b == 91 || b == 92 || b == 93 || b == 94
    || b == 124

-- a byte in a regular expression: a sign has a `\` before it
abbrev pub regex_part : ℕ → List ℕ
regex_part b = if is_regex_sign b then 92 ∷ b ∷ [] else b ∷ []

-- a regular expression that matches the given name
abbrev pub regex_of : (name : List ℕ) → List ℕ
regex_of name = flat_map regex_part name

-- `*`, `?` and `[`, the signs in patterns of Python's `fnmatch`, by which `meson test` matches names
abbrev pub is_glob_sign : ℕ → Bool
is_glob_sign b = b == 42 || b == 63 || b == 91

-- a byte in a pattern: a sign is in brackets
abbrev pub glob_part : ℕ → List ℕ
glob_part b = if is_glob_sign b then 91 ∷ b ∷ 93 ∷ [] else b ∷ []

-- a pattern that matches the given name
abbrev pub glob_of : (name : List ℕ) → List ℕ
glob_of name = flat_map glob_part name

-- ---- texts

-- What is written of a test. In the expression for CTest a bar is before each name; a pattern for Meson begins with a colon, after an
-- empty project name, which stands for all projects.
abbrev pub entry_of : Style → NamedTest → List ℕ
entry_of Names test = line test.name
entry_of Reasons test = reason_line test
entry_of Objects test = line (compact_text (test_object test))
entry_of CTest test = 124 ∷ regex_of test.name
entry_of Meson test = line (58 ∷ glob_of test.name)

-- what is written of each test
abbrev pub body_of : Style → List NamedTest → List ℕ
body_of style tests = flat_map (entry_of style) tests

-- one of the given alternatives, from the front to the end of a name; the bar before the first alternative is dropped
abbrev pub enclosed : (alternatives : List ℕ) → List ℕ
enclosed alternatives = codes "^(" ++ drop 1 alternatives ++ codes ")$\n"

-- the text of the given tests
abbrev pub tests_text : Style → List NamedTest → List ℕ
tests_text CTest tests = enclosed (body_of CTest tests)
tests_text Names tests = body_of Names tests
tests_text Reasons tests = body_of Reasons tests
tests_text Objects tests = body_of Objects tests
tests_text Meson tests = body_of Meson tests
