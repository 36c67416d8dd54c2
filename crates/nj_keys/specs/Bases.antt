-- Base directories: directories that differ between places where the same build lies. In a text a zero byte and a number
-- stand for them.
use Rattle.std.specs.Prelude.{◌≡◌, ◌≢◌, ◌<◌, ◌^◌, ℕ, zero, suc, ◌-◌, ◌==◌, Bool, true, false, ◌&&◌, ◌||◌, not, if◌then◌else◌}
use Rattle.std.specs.Prelude.{unwrap_or, List, [], ◌∷◌, ◌++◌, length, take, drop, reverse, max, position, bytes_eq, nat_eq}
use Rattle.std.specs.Prelude.{decimal, All}
use Rattle.std.specs.List.{list_any, starts_with, take_while}
use Rattle.nj_text.specs.Paths.{is_slash}

-- `"` or `'`
abbrev pub is_quote : ℕ → Bool
is_quote b = b == 34 || b == 39

-- a blank (also a tab, and the end of a line), a quote, `=`, `:` or `,`: after it a path may begin
abbrev pub is_separator : ℕ → Bool
is_separator b = b == 32 || b == 9 || b == 10 || b == 13 || is_quote b || b == 61 || b == 58 || b == 44

-- a byte of a path: neither a separator, nor `&`, `(`, `)`, `;`, `<`, `>` or `|`, which end a word of `sh`
abbrev pub is_path_byte : ℕ → Bool
is_path_byte b = not (is_separator b || b == 38 || b == 40 || b == 41 || b == 59 || b == 60 || b == 62 || b == 124)

-- ---- where a directory counts

-- a path may begin after the text: no `/` stands after its last separator
abbrev pub may_begin : (before : List ℕ) → Bool
may_begin before = not (list_any is_slash (take_while (λ b. not (is_separator b)) (reverse before)))

-- a text begins with a quote
abbrev pub begins_with_quote : List ℕ → Bool
begins_with_quote [] = false
begins_with_quote (b ∷ text) = is_quote b

-- The path of a directory ends before the text: at a `/`, at a byte that is not part of a path, at a `\` before a quote, or at
-- the end.
abbrev pub ends_before : (text : List ℕ) → Bool
ends_before [] = true
ends_before (b ∷ text) = is_slash b || not (is_path_byte b) || b == 92 && begins_with_quote text

-- a directory stands at the front of a text
abbrev pub stands_at : (text folder : List ℕ) → Bool
stands_at text folder = starts_with nat_eq text folder && ends_before (drop (length folder) text)

-- the length of the longest directory at the front of a text; 0 if no directory is there
abbrev pub longest_at : (folders : List (List ℕ)) → (text : List ℕ) → ℕ
longest_at [] text = 0
longest_at (folder ∷ folders) text = max (if stands_at text folder then length folder else 0) (longest_at folders text)

-- the length of the directory that counts at the front of a text, after the text before it
abbrev pub counted : (folders : List (List ℕ)) → (before text : List ℕ) → ℕ
counted folders before text = if may_begin before then longest_at folders text else 0

-- ---- the mapped text

-- a zero byte, and the number of a directory, from 0
abbrev pub token : (folders : List (List ℕ)) → (folder : List ℕ) → List ℕ
token folders folder = 0 ∷ decimal (unwrap_or (position (bytes_eq folder) folders) 0)

-- the text that stands for the front of a text, where a directory of the given length counts: its token, or the first byte if
-- the length is 0
abbrev pub front_mapped : (folders : List (List ℕ)) → (length : ℕ) → (text : List ℕ) → List ℕ
front_mapped folders zero text = take 1 text
front_mapped folders (suc more) text = token folders (take (suc more) text)

-- the text that stands for a text, after the text before it; the first `left` bytes are the rest of a directory that
-- counts
abbrev pub mapped_after : (folders : List (List ℕ)) → (before : List ℕ) → (left : ℕ) → (text : List ℕ) → List ℕ
mapped_after folders before left [] = []
mapped_after folders before (suc left) (b ∷ text) = mapped_after folders (before ++ b ∷ []) left text
mapped_after folders before zero (b ∷ text) =
    front_mapped folders (counted folders before (b ∷ text)) (b ∷ text)
    ++ mapped_after folders (before ++ b ∷ []) (counted folders before (b ∷ text) - 1) text

-- a text with a token in place of each directory that counts
abbrev pub mapped : (folders : List (List ℕ)) → (text : List ℕ) → List ℕ
mapped folders text = mapped_after folders [] 0 text

-- ---- a law

-- a text has no zero byte, like the texts of a manifest and the words of a command line
abbrev pub HasNoZero : (text : List ℕ) → Type 0
HasNoZero text = All (λ b. b ≢ 0) text

-- Different texts are mapped to different texts, whatever the directories are. There are fewer than 2^64 directories, as
-- memory holds.
abbrev pub MappedTells : Type 0
MappedTells = (folders : List (List ℕ)) (one other : List ℕ) → length folders < 2 ^ 64 → HasNoZero one → HasNoZero other
    → mapped folders one ≡ mapped folders other → one ≡ other
