-- The files that options name beside the graph: a list of tests, and files whose contents go into keys.
use Rattle.std.specs.Prelude.{◌≡◌, ℕ, Option, Some, None, List, [], ◌∷◌, ◌++◌}
use Rattle.nj_scope.specs.Sources.{SourceState}
use Rattle.nj_tests.specs.Tests.{TestModel}
use Rattle.nj_keys.specs.Keys.{content_addition}
use Rattle.nj_questions.specs.Questions.{SubjectModel, affected, keys, tests}
use Rattle.nj_ask.specs.LogsRead.{ReadsBytes}
use Rattle.nj_ask.specs.TestLists.{LacksTests, LacksText, ReadsTests}

-- what was read from them: the tests of a list, the additions for the contents of files, and the text of `--since`
pub record NamedFiles : Type 0 where
  pub tests : List TestModel
  pub additions : List (List ℕ)
  pub since : Option (List ℕ)

-- ---- contents that go into keys

-- the file at a path was read: the addition for its content
pub record ReadsAdditionAt (path : List ℕ) (before after : SourceState) (addition : List ℕ) : Type 0 where
  pub content : List ℕ
  pub reads : ReadsBytes before after path (Some content)
  pub addition_is : addition ≡ content_addition content

-- the files at the given paths were read, in their order: the additions for their contents
pub data ReadsContents (before : SourceState) : (paths : List (List ℕ)) → (after : SourceState) → (additions : List (List ℕ)) → Type 0 where
  none : ReadsContents before [] before []
  last : {paths additions : List (List ℕ)} {between after : SourceState} {path addition : List ℕ}
      → ReadsContents before paths between additions → ReadsAdditionAt path between after addition
      → ReadsContents before (paths ++ path ∷ []) after (additions ++ addition ∷ [])

-- one of the files has no text: the first such file, after the files before it
pub data LacksContent (paths : List (List ℕ)) (before after : SourceState) (line : List ℕ) : Type 0 where
  lacks : {some additions : List (List ℕ)} {path : List ℕ} {between : SourceState} (others : List (List ℕ))
      → paths ≡ some ++ path ∷ others → ReadsContents before some between additions → LacksText path between after line
      → LacksContent paths before after line

-- `keys` reads the files that its options name; others read none
abbrev pub ReadsAdditions : SubjectModel → (before after : SourceState) → (additions : List (List ℕ)) → Type 0
ReadsAdditions (keys options) before after additions = ReadsContents before options.files after additions
ReadsAdditions other before after additions = (after ≡ before) × (additions ≡ [])

-- and lacks one
abbrev pub LacksAdditions : SubjectModel → (before after : SourceState) → (line : List ℕ) → Type 0
LacksAdditions (keys options) before after line = LacksContent options.files before after line
LacksAdditions other before after line = ⊥

-- ---- the keys of an older manifest

-- the file of `--since`, if one is named
abbrev pub since_path : SubjectModel → Option (List ℕ)
since_path (affected options) = options.since
since_path (tests options) = options.change.since
since_path other = None

-- its text was read
abbrev pub ReadsText : (path : Option (List ℕ)) → (before after : SourceState) → (text : Option (List ℕ)) → Type 0
ReadsText None before after text = (after ≡ before) × (text ≡ None)
ReadsText (Some path) before after text = (read : List ℕ) × ReadsBytes before after path (Some read) × (text ≡ Some read)

-- there is none
abbrev pub LacksNamedText : (path : Option (List ℕ)) → (before after : SourceState) → (line : List ℕ) → Type 0
LacksNamedText None before after line = ⊥
LacksNamedText (Some path) before after line = LacksText path before after line

-- ---- the files of a question

-- they were read: first the list of tests, and then the contents that go into keys
pub record ReadsNamedFiles (subject : SubjectModel) (folder : List ℕ) (before after : SourceState) (named : NamedFiles) : Type 0 where
  pub listed : SourceState
  pub between : SourceState
  pub tests : ReadsTests subject folder before listed named.tests
  pub additions : ReadsAdditions subject listed between named.additions
  pub since : ReadsText (since_path subject) between after named.since

-- one of them is lacking
pub data LacksNamedFiles (subject : SubjectModel) (folder : List ℕ) (before after : SourceState) (line : List ℕ) : Type 0 where
  no_tests : LacksTests subject folder before after line → LacksNamedFiles subject folder before after line
  no_content : (between : SourceState) (tests : List TestModel) → ReadsTests subject folder before between tests
      → LacksAdditions subject between after line → LacksNamedFiles subject folder before after line
  no_keys : (listed between : SourceState) (tests : List TestModel) (additions : List (List ℕ))
      → ReadsTests subject folder before listed tests → ReadsAdditions subject listed between additions
      → LacksNamedText (since_path subject) between after line → LacksNamedFiles subject folder before after line
