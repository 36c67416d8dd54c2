-- How a POSIX shell reads a quoted path.
use Rattle.std.specs.Prelude.{◌≡◌, ◌≢◌, ℕ, ◌==◌, if◌then◌else◌, Option, Some, None, List, [], ◌∷◌, ◌++◌}
use Rattle.nj_text.specs.Quotes.{is_plain_byte, is_quote, quoted}

-- where the shell is in a word
pub data ShellState : Type 0 where
  Unquoted : ShellState
  InQuotes : ShellState
  AfterBackslash : ShellState

-- the bytes that a byte adds to the word, where it has a meaning here: outside quotes plain bytes, `'` and `\`; after a
-- `\` a `'`; in quotes every byte
abbrev pub added : ShellState → ℕ → Option (List ℕ)
added Unquoted b = if is_quote b then Some [] else if b == 92 then Some [] else if is_plain_byte b then Some (b ∷ []) else None
added InQuotes b = if is_quote b then Some [] else Some (b ∷ [])
added AfterBackslash b = if is_quote b then Some (b ∷ []) else None

-- the state of a shell after one more byte of a word
abbrev pub state_after : ShellState → ℕ → ShellState
state_after Unquoted b = if is_quote b then InQuotes else if b == 92 then AfterBackslash else Unquoted
state_after InQuotes b = if is_quote b then Unquoted else InQuotes
state_after AfterBackslash b = Unquoted

-- two pieces of a word, one after the other; `None` if either piece is `None`
abbrev pub joined_words : Option (List ℕ) → Option (List ℕ) → Option (List ℕ)
joined_words None rest = None
joined_words (Some bytes) None = None
joined_words (Some bytes) (Some more) = Some (bytes ++ more)

-- a word ends outside quotes
abbrev pub ends : ShellState → Option (List ℕ)
ends Unquoted = Some []
ends InQuotes = None
ends AfterBackslash = None

-- The word that a shell reads from the given bytes; `None` if a byte has another meaning, or a quote stays open.
abbrev pub word_from : ShellState → List ℕ → Option (List ℕ)
word_from state [] = ends state
word_from state (b ∷ bs) = joined_words (added state b) (word_from (state_after state b) bs)

-- the word that a shell makes of a text; `None` for the empty text
abbrev pub shell_word : List ℕ → Option (List ℕ)
shell_word [] = None
shell_word (b ∷ bs) = word_from Unquoted (b ∷ bs)

-- a shell reads the quote of a path as the path
abbrev pub ShellTakesThePath : Type 0
ShellTakesThePath = (path : List ℕ) → path ≢ [] → shell_word (quoted path) ≡ Some path
