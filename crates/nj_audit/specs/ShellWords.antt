-- The words and the operators of a command, as `sh` cuts them ("Quoting" and "Token Recognition" in its standard). Nothing is expanded.
use Rattle.std.specs.Prelude.{ℕ, ◌==◌, Bool, true, false, ◌||◌, not, if◌then◌else◌, Option, Some, None, List, [], ◌∷◌, ◌++◌, map}
use Rattle.std.specs.List.{filter_map}
use Rattle.nj_audit.specs.declared.shell_words.Quoting.{Quoting}
use Rattle.nj_audit.specs.declared.shell_words.Quoting.TheVariants.{Between, Bare, Escaped, Single, Double, DoubleEscaped, Comment}

-- ---- a byte, by how it is read

-- a space or a tab
abbrev pub is_gap : ℕ → Bool
is_gap b = b == 32 || b == 9

-- the bytes that end a word outside quotes: a space, a tab, the end of a line, and `&`, `(`, `)`, `;`, `<`, `>` and `|`
abbrev pub is_cut : ℕ → Bool
is_cut b = b == 32 || b == 9 || b == 10 || b == 38 || b == 40 || b == 41 || b == 59 || b == 60 || b == 62 || b == 124

-- a byte ends a word; a comment ends with its line
abbrev pub ends_at : Quoting → ℕ → Bool
ends_at Between b = is_cut b
ends_at Bare b = is_cut b
ends_at Comment b = b == 10
ends_at quoting b = false

-- how the byte after one outside quotes is read: a backslash is `\`, and quotes are `'` and `"`
abbrev pub next_bare : ℕ → Quoting
next_bare b =
    if b == 92 then Escaped else (if b == 39 then Single else (if b == 34 then Double else (if is_cut b then Between else Bare)))

-- how the byte after it is read; a `#` at the beginning of a word begins a comment
abbrev pub next_quoting : Quoting → ℕ → Quoting
next_quoting Between b = if b == 35 then Comment else next_bare b
next_quoting Bare b = next_bare b
next_quoting Escaped b = Bare
next_quoting Single b = if b == 39 then Bare else Single
next_quoting Double b = if b == 92 then DoubleEscaped else (if b == 34 then Bare else Double)
next_quoting DoubleEscaped b = Double
next_quoting Comment b = if b == 10 then Between else Comment

-- a word drops a byte: a quote, a backslash that quotes the byte after it, the end of a line after a backslash, or a byte of a comment
abbrev pub is_dropped : Quoting → ℕ → Bool
is_dropped Between b = b == 35 || b == 92 || b == 39 || b == 34
is_dropped Bare b = b == 92 || b == 39 || b == 34
is_dropped Escaped b = b == 10
is_dropped Single b = b == 39
is_dropped Double b = b == 92 || b == 34
is_dropped DoubleEscaped b = b == 10
is_dropped Comment b = true

-- in double quotes a backslash quotes `$`, a backquote, `"` and `\`; before other bytes it is kept
abbrev pub keeps_backslash : Quoting → ℕ → Bool
keeps_backslash DoubleEscaped b = not (b == 36 || b == 96 || b == 34 || b == 92)
keeps_backslash quoting b = false

-- the bytes that a word keeps of a byte
abbrev pub kept : Quoting → ℕ → List ℕ
kept quoting b = if is_dropped quoting b then [] else (if keeps_backslash quoting b then 92 ∷ b ∷ [] else b ∷ [])

-- ---- a text

-- what a shell reads: a byte of a word, or a byte that ends a word
pub data ReadByte : Type 0 where
  Kept : (byte : ℕ) → ReadByte
  Cut : (byte : ℕ) → ReadByte

-- what a shell reads of a byte
abbrev pub read_byte : Quoting → ℕ → List ReadByte
read_byte quoting b = if ends_at quoting b then Cut b ∷ [] else map Kept (kept quoting b)

-- how a shell reads a text
unfoldable pub read_text : Quoting → (text : List ℕ) → List ReadByte
read_text quoting [] = []
read_text quoting (b ∷ text) = read_byte quoting b ++ read_text (next_quoting quoting b) text

-- a token: a word, or a byte of an operator, including the end of a line
pub data TokenModel : Type 0 where
  Word : (text : List ℕ) → TokenModel
  Operator : (byte : ℕ) → TokenModel

-- the tokens with a word in front, unless it is empty
abbrev pub with_word : (word : List ℕ) → List TokenModel → List TokenModel
with_word [] tokens = tokens
with_word (b ∷ word) tokens = Word (b ∷ word) ∷ tokens

-- the tokens with a byte between words in front, unless it is a space or a tab
abbrev pub with_cut : (byte : ℕ) → List TokenModel → List TokenModel
with_cut b tokens = if is_gap b then tokens else Operator b ∷ tokens

-- the tokens; the first word begins with the bytes that were read of it
unfoldable pub tokens_after : (word : List ℕ) → (read : List ReadByte) → List TokenModel
tokens_after word [] = with_word word []
tokens_after word (Cut b ∷ read) = with_word word (with_cut b (tokens_after [] read))
tokens_after word (Kept b ∷ read) = tokens_after (word ++ b ∷ []) read

-- the words and the operators of a command
unfoldable pub tokens_of : (command : List ℕ) → List TokenModel
tokens_of command = tokens_after [] (read_text Between command)

-- the text of a token, if it is a word
abbrev pub word_in : TokenModel → Option (List ℕ)
word_in (Word text) = Some text
word_in (Operator b) = None

-- the words of a command
abbrev pub words_of : (command : List ℕ) → List (List ℕ)
words_of command = filter_map word_in (tokens_of command)
