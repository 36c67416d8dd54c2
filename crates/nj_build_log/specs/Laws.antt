-- Laws of build logs: the effect of a line that is appended to a log.
use Rattle.std.specs.Prelude.{◌≡◌, ◌≢◌, ℕ, ◌<◌, ◌^◌, false, pos, Some, Ok, List, [], ◌∷◌, ◌++◌, length, decimal}
use Rattle.std.specs.Fmt.{digits}
use Rattle.std.specs.List.{count_by, list_any}
use Rattle.nj_build_log.specs.Logs.{LineModel, BuildLogModel, buffer_size, build_log_of, entry_of, is_line_feed, is_tab, line_of}

-- ---- words

-- a text of whole lines: its last byte is a line feed
abbrev pub IsEnded : (text : List ℕ) → Type 0
IsEnded text = (front : List ℕ) × (text ≡ front ++ 10 ∷ [])

-- a text without line feeds
abbrev pub IsOneLine : (line : List ℕ) → Type 0
IsOneLine line = list_any is_line_feed line ≡ false

-- a text, and a line after it
abbrev pub with_line : (text line : List ℕ) → List ℕ
with_line text line = text ++ (line ++ 10 ∷ [])

-- a line that counts is added to a log: it becomes the entry of its output, and the entries of other outputs do not
-- change
pub record IsAdded (line : LineModel) (old new : BuildLogModel) : Type 0 where
  pub version : new.version ≡ old.version
  pub lines : new.lines ≡ old.lines ++ line ∷ []
  pub same : entry_of new.lines line.output ≡ Some line.entry
  pub others : (other : List ℕ) → other ≢ line.output → entry_of new.lines other ≡ entry_of old.lines other

-- ---- laws

-- the last line of an output counts
abbrev pub LastLineCounts : Type 0
LastLineCounts = (text line : List ℕ) (log : BuildLogModel) (logged : LineModel) → IsEnded text → IsOneLine line
    → build_log_of text ≡ Ok log → line_of line ≡ Some logged
    → (more : BuildLogModel) × (build_log_of (with_line text line) ≡ Ok more) × IsAdded logged log more

-- a line without its end changes nothing
abbrev pub UnendedLineChangesNothing : Type 0
UnendedLineChangesNothing = (text line : List ℕ) → IsEnded text → IsOneLine line
    → build_log_of (text ++ line) ≡ build_log_of text

-- a line with fewer than four tabs changes nothing
abbrev pub FewTabsChangeNothing : Type 0
FewTabsChangeNothing = (text line : List ℕ) → IsEnded text → IsOneLine line → count_by is_tab line < 4
    → build_log_of (with_line text line) ≡ build_log_of text

-- ---- lines as Ninja writes them

-- the fields of a line, separated by tabs
abbrev pub tabbed : (start end time output hash : List ℕ) → List ℕ
tabbed start end time output hash = start ++ 9 ∷ (end ++ 9 ∷ (time ++ 9 ∷ (output ++ 9 ∷ hash)))

-- the numbers in base ten, and the hash in base sixteen
abbrev pub written_line : (start end time : ℕ) (output : List ℕ) (hash : ℕ) → List ℕ
written_line start end time output hash = tabbed (decimal start) (decimal end) (decimal time) output (digits 16 false hash)

-- numbers of the types that a log has, an output without a tab, and a line that fits into the buffer that Ninja
-- reads at once
pub record IsWritten (start end time : ℕ) (output : List ℕ) (hash : ℕ) : Type 0 where
  pub start_fits : start < 2 ^ 31
  pub end_fits : end < 2 ^ 31
  pub time_fits : time < 2 ^ 63
  pub hash_fits : hash < 2 ^ 64
  pub untabbed : list_any is_tab output ≡ false
  pub short : length (written_line start end time output hash) < buffer_size

-- a line that Ninja writes counts, with the numbers that were written
abbrev pub WrittenLinesAreRead : Type 0
WrittenLinesAreRead = (start end time : ℕ) (output : List ℕ) (hash : ℕ) → IsWritten start end time output hash
    → line_of (written_line start end time output hash)
    ≡ Some (record { output = output; entry = record { start = pos start; end = pos end; time = pos time; hash = hash } })
