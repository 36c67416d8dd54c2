-- The contents of a build log.
use Rattle.std.specs.Prelude.{ℕ, zero, suc, ◌-◌, ◌*◌, ◌/◌, ◌^◌, min, Bool, not, ◌&&◌, if◌then◌else◌, ◌==◌, nat_eq, nat_le, Option, Some, None, Result, Ok, Err, List, [], ◌∷◌, length, map, take, drop, fold, find, reverse, filter_map, bytes_eq, codes, option_map}
use Rattle.std.specs.List.{before_first, after_first, list_any, list_all, slice_split, starts_with}
use Rattle.nj_names.specs.NameTables.{with_name}
use Rattle.nj_build_log.specs.Numbers.{leading_value, int_of, long_of, hash_of}
use Rattle.nj_build_log.specs.declared.build_log_fault.BuildLogFault.{BuildLogFault}
use Rattle.nj_build_log.specs.declared.build_log_fault.BuildLogFault.TheVariants.{NoBuildLog, OtherVersion}
use Rattle.nj_build_log.specs.declared.entry.Entry.{Entry}
use Rattle.nj_build_log.specs.declared.entry.LoggedLine.{LoggedLine}
use Rattle.nj_build_log.specs.declared.log_version.LogVersion.{LogVersion}
use Rattle.nj_build_log.specs.declared.log_version.LogVersion.TheVariants.{Five, Six, Seven}

-- ---- lines

-- the byte LF
abbrev pub is_line_feed : ℕ → Bool
is_line_feed byte = byte == 10

-- a tab
abbrev pub is_tab : ℕ → Bool
is_tab byte = byte == 9

-- a text, cut at its line feeds; the text after the last line feed is not a line
abbrev pub lines_of : List ℕ → List (List ℕ)
lines_of text = let pieces = slice_split is_line_feed text in take (length pieces - 1) pieces

-- how many bytes Ninja reads at once: 256 KiB
abbrev pub buffer_size : ℕ
buffer_size = 262144

-- Ninja ignores a buffer in which no line ends, so only the rest of a longer line after whole buffers counts.
abbrev pub counted_part : (line : List ℕ) → List ℕ
counted_part line = drop (buffer_size * (length line / buffer_size)) line

-- a text, cut at the given number of its first tabs
abbrev pub fields_of : (cuts : ℕ) → List ℕ → List (List ℕ)
fields_of zero text = text ∷ []
fields_of (suc cuts) text =
    if list_any is_tab text then before_first is_tab text ∷ fields_of cuts (after_first is_tab text) else text ∷ []

-- a line that counts: an output, and its entry
pub record LineModel : Type 0 where
  pub output : List ℕ
  pub entry : Entry

-- the value of the code
abbrev pub line_model : LoggedLine → LineModel
line_model line = record { output = line.output.now; entry = line.entry }

-- the fields are the start, the end, the time, the output and the hash; a line with fewer fields does not
-- count
abbrev pub line_in : (fields : List (List ℕ)) → Option LineModel
line_in (start ∷ end ∷ time ∷ output ∷ hash ∷ []) = Some (record {
  output = output;
  entry = record { start = int_of start; end = int_of end; time = long_of time; hash = hash_of hash };
})
line_in fields = None

-- further tabs belong to the hash
abbrev pub line_of : (line : List ℕ) → Option LineModel
line_of line = line_in (fields_of 4 (counted_part line))

-- the lines of a text that count
abbrev pub logged_lines : List ℕ → List LineModel
logged_lines text = filter_map line_of (lines_of text)

-- ---- the version

-- the first line, up to its number
abbrev pub opening : List ℕ
opening = codes "# ninja log v"

-- one of `0` to `9`
abbrev pub is_decimal_digit : ℕ → Bool
is_decimal_digit byte = nat_le 48 byte && nat_le byte 57

-- one or more digits, and nothing else
abbrev pub is_number : List ℕ → Bool
is_number text = not (length text == 0) && list_all is_decimal_digit text

-- the number that a first line states, or the greatest number of 64 bits if it is greater than that
abbrev pub version_number : (line : List ℕ) → Option ℕ
version_number line =
    let digits = drop (length opening) line in
    if starts_with nat_eq line opening && is_number digits then Some (min (leading_value 10 digits) (2 ^ 64 - 1)) else None

-- the versions whose lines are known
abbrev pub known_version : (number : ℕ) → Option LogVersion
known_version number = if number == 5 then Some Five else (if number == 6 then Some Six else (if number == 7 then Some Seven else None))

-- ---- logs

-- the version, unless the log is empty, and the lines that count, in their order
pub record BuildLogModel : Type 0 where
  pub version : Option LogVersion
  pub lines : List LineModel

-- a log whose first line states the given number
abbrev pub log_of_version : Option ℕ → List LineModel → Result BuildLogModel BuildLogFault
log_of_version None lines = Err NoBuildLog
log_of_version (Some number) lines =
    elim (known_version number) [
      | Some version ↦ Ok (record { version = Some version; lines = lines })
      | None ↦ Err (OtherVersion number)
    ]

-- the log that a text holds, or why it does not hold a log. The first line counts even without its line feed.
abbrev pub build_log_of : (text : List ℕ) → Result BuildLogModel BuildLogFault
build_log_of [] = Ok (record { version = None; lines = [] })
build_log_of (byte ∷ more) =
    let text = byte ∷ more in
    log_of_version (version_number (before_first is_line_feed text)) (logged_lines (after_first is_line_feed text))

-- ---- outputs

-- the last line of an output counts
abbrev pub entry_of : List LineModel → (output : List ℕ) → Option Entry
entry_of lines output = option_map (λ line. line.entry) (find (λ line. bytes_eq output line.output) (reverse lines))

-- the outputs, without duplicates, in the order of their first lines
abbrev pub outputs_of : List LineModel → List (List ℕ)
outputs_of lines = fold with_name [] (map (λ line. line.output) lines)
