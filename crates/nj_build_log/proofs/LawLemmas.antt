-- The effect of a line that is appended to a log.
use Rattle.std.proofs.Common.{◌≡◌, ℕ, zero, suc, ◌+◌, ◌-◌, ◌<◌, ◌≤◌, Bool, true, false, cond, ◌⊎◌, inl, inr}
use Rattle.std.proofs.Common.{true≢false, Option, Some, None, List, [], ◌∷◌, ◌++◌, length, take, drop, refl}
use Rattle.std.proofs.Common.{sym, ap, ap₂, ◌∙◌, subst, arith, append_assoc, length-append}
use Rattle.std.specs.Prelude.{not, bytes_eq, Ok, Err, Result, option_to_list, filter_map, ◌≢◌}
use Rattle.std.specs.Prelude.{◌||◌, ◌/◌, ◌*◌}
use Rattle.std.specs.List.{before_first, after_first, list_any, position_or_len, slice_split}
use Rattle.std.specs.List.{onto_first, count_by, cons_option, filter}
use Rattle.std.proofs.lemmas.List.{append-nil, take-append-le, drop-append-le, take_all}
use Rattle.std.proofs.lemmas.List.Elements.{filter_map-append}
use Rattle.std.proofs.lemmas.List.Sums.{length-filter}
use Rattle.std.proofs.lemmas.List.Splits.{slice_split_none, slice_split_first, length-slice_split}
use Rattle.std.proofs.lemmas.Slice.Eq.{bytes_eq-Decides}
use Rattle.nj_build_log.specs.Logs.{LineModel, BuildLogModel, is_line_feed, is_tab, lines_of, counted_part}
use Rattle.nj_build_log.specs.Logs.{fields_of, line_in, line_of, logged_lines, build_log_of, log_of_version}
use Rattle.nj_build_log.specs.Logs.{version_number, known_version, entry_of}
use Rattle.nj_build_log.specs.Laws.{IsEnded, IsOneLine, LastLineCounts}
use Rattle.nj_build_log.specs.Laws.{UnendedLineChangesNothing, FewTabsChangeNothing}
use Rattle.nj_build_log.specs.declared.build_log_fault.BuildLogFault.{BuildLogFault}
use Rattle.nj_build_log.specs.declared.build_log_fault.BuildLogFault.TheVariants.{OtherVersion}
use Rattle.nj_build_log.specs.declared.log_version.LogVersion.{LogVersion}
use Rattle.nj_build_log.proofs.LineLemmas.{all_fail, first_within, two_ways}
use Rattle.nj_build_log.proofs.EntryLemmas.{entry-push}

-- ---- texts that are cut at their line feeds

onto_front : (byte : ℕ) (front back : List (List ℕ)) → 0 < length front
    → onto_first byte (front ++ back) ≡ onto_first byte front ++ back
onto_front byte [] back some = absurd (omega arith)
onto_front byte (piece ∷ front) back some = refl

some_piece : (text : List ℕ) → 0 < length (slice_split is_line_feed text)
some_piece text = omega (arith, length-slice_split is_line_feed text)

-- at a line feed, the pieces before it come first, and then the pieces after it
split_there : (front back : List ℕ)
    → slice_split is_line_feed (front ++ 10 ∷ back)
    ≡ slice_split is_line_feed front ++ slice_split is_line_feed back
split_there [] back = refl
split_there (byte ∷ front) back = by (is_line_feed byte) (split_there front back)
  where
    by : (b : Bool) → slice_split is_line_feed (front ++ 10 ∷ back)
        ≡ slice_split is_line_feed front ++ slice_split is_line_feed back
        → cond b ([] ∷ slice_split is_line_feed (front ++ 10 ∷ back))
        (onto_first byte (slice_split is_line_feed (front ++ 10 ∷ back)))
        ≡ cond b ([] ∷ slice_split is_line_feed front) (onto_first byte (slice_split is_line_feed front))
        ++ slice_split is_line_feed back
    by true e = ap (λ ps. [] ∷ ps) e
    by false e = ap (onto_first byte) e
        ∙ onto_front byte (slice_split is_line_feed front) (slice_split is_line_feed back) (some_piece front)

without_last : (pieces : List (List ℕ)) (last : List ℕ)
    → take (length (pieces ++ last ∷ []) - 1) (pieces ++ last ∷ []) ≡ pieces
without_last pieces last =
    let size : length (pieces ++ last ∷ []) - 1 ≡ length pieces =
    omega (arith, length-append pieces (last ∷ [])) in
    ap (λ n. take n (pieces ++ last ∷ [])) size
    ∙ take-append-le (length pieces) pieces (last ∷ []) (omega arith)
    ∙ take_all (length pieces) pieces (omega arith)

one_piece : (line : List ℕ) → IsOneLine line → slice_split is_line_feed line ≡ line ∷ []
one_piece line one = slice_split_none is_line_feed line (all_fail is_line_feed line one)

-- a text whose last piece is not a line
pieces_but_last : (front last : List ℕ) → IsOneLine last
    → lines_of (front ++ 10 ∷ last) ≡ slice_split is_line_feed front
pieces_but_last front last one =
    ap (λ (ps : List (List ℕ)). take (length ps - 1) ps)
    (split_there front last ∙ ap (λ ps. slice_split is_line_feed front ++ ps) (one_piece last one))
    ∙ without_last (slice_split is_line_feed front) last

-- ---- whole lines: a text that is empty or ends with a line feed

abbrev AreWholeLines : List ℕ → Type 0
AreWholeLines text = (text ≡ []) ⊎ IsEnded text

no_bytes : IsOneLine []
no_bytes = refl

line-added : (text line : List ℕ) → AreWholeLines text → IsOneLine line
    → lines_of (text ++ (line ++ 10 ∷ [])) ≡ lines_of text ++ line ∷ []
line-added text line (inl none) one =
    ap (λ t. lines_of (t ++ (line ++ 10 ∷ []))) none
    ∙ (pieces_but_last line [] no_bytes ∙ one_piece line one)
    ∙ ap (λ t. lines_of t ++ line ∷ []) (sym none)
line-added text line (inr ended) one =
    let front = ended.0 in
    ap (λ t. lines_of (t ++ (line ++ 10 ∷ []))) ended.1
    ∙ ap lines_of (append_assoc front (10 ∷ []) (line ++ 10 ∷ [])
    ∙ sym (append_assoc front (10 ∷ line) (10 ∷ [])))
    ∙ pieces_but_last (front ++ 10 ∷ line) [] no_bytes
    ∙ split_there front line
    ∙ ap (λ ps. slice_split is_line_feed front ++ ps) (one_piece line one)
    ∙ sym (ap (λ ps. ps ++ line ∷ []) (pieces_but_last front [] no_bytes))
    ∙ ap (λ t. lines_of t ++ line ∷ []) (sym ended.1)

line-unended : (text line : List ℕ) → AreWholeLines text → IsOneLine line
    → lines_of (text ++ line) ≡ lines_of text
line-unended text line (inl none) one =
    ap (λ t. lines_of (t ++ line)) none
    ∙ ap (λ (ps : List (List ℕ)). take (length ps - 1) ps) (one_piece line one)
    ∙ ap lines_of (sym none)
line-unended text line (inr ended) one =
    ap (λ t. lines_of (t ++ line)) ended.1
    ∙ ap lines_of (append_assoc ended.0 (10 ∷ []) line)
    ∙ pieces_but_last ended.0 line one
    ∙ sym (pieces_but_last ended.0 [] no_bytes)
    ∙ ap lines_of (sym ended.1)

-- ---- the first line of a text that has a line feed

abbrev has_end : List ℕ → Type 0
has_end text = list_any is_line_feed text ≡ true

-- a text with a line feed at its end has a line feed
end_there : (front : List ℕ) → has_end (front ++ 10 ∷ [])
end_there [] = refl
end_there (byte ∷ front) = by (is_line_feed byte) (end_there front)
  where
    by : (b : Bool) → has_end (front ++ 10 ∷ [])
        → (b || list_any is_line_feed (front ++ 10 ∷ [])) ≡ true
    by true e = refl
    by false e = e

ended_has_end : (text : List ℕ) → IsEnded text → has_end text
ended_has_end text ended = ap (list_any is_line_feed) ended.1 ∙ end_there ended.0

same_end : (text more : List ℕ) → has_end text
    → position_or_len is_line_feed (text ++ more) ≡ position_or_len is_line_feed text
same_end [] more none = absurd (true≢false (sym none))
same_end (byte ∷ text) more some = by (is_line_feed byte) (same_end text more) some
  where
    by : (b : Bool) → (has_end text
        → position_or_len is_line_feed (text ++ more) ≡ position_or_len is_line_feed text)
        → (b || list_any is_line_feed text) ≡ true
        → cond (not b) (1 + position_or_len is_line_feed (text ++ more)) 0
        ≡ cond (not b) (1 + position_or_len is_line_feed text) 0
    by true e some = refl
    by false e some = ap (λ n. 1 + n) (e some)

first_same : (text more : List ℕ) → has_end text
    → before_first is_line_feed (text ++ more) ≡ before_first is_line_feed text
first_same text more some =
    let within = first_within is_line_feed text some in
    ap (λ n. take n (text ++ more)) (same_end text more some)
    ∙ take-append-le (position_or_len is_line_feed text) text more (omega arith)

rest_longer : (text more : List ℕ) → has_end text
    → after_first is_line_feed (text ++ more) ≡ after_first is_line_feed text ++ more
rest_longer text more some =
    let within = first_within is_line_feed text some in
    ap (λ n. drop (n + 1) (text ++ more)) (same_end text more some)
    ∙ drop-append-le (position_or_len is_line_feed text + 1) text more (omega arith)

-- the rest of whole lines after the first line is whole lines
rest_there : (front : List ℕ) → AreWholeLines (after_first is_line_feed (front ++ 10 ∷ []))
rest_there [] = inl refl
rest_there (byte ∷ front) = by (is_line_feed byte) (rest_there front)
  where
    by : (b : Bool) → AreWholeLines (after_first is_line_feed (front ++ 10 ∷ []))
        → AreWholeLines (drop (cond (not b) (1 + position_or_len is_line_feed (front ++ 10 ∷ [])) 0 + 1)
        (byte ∷ (front ++ 10 ∷ [])))
    by true e = inr (front, refl)
    by false e =
        let at = position_or_len is_line_feed (front ++ 10 ∷ []) in
        let place : suc (at + 1) ≡ 1 + at + 1 = omega arith in
        subst (λ n. AreWholeLines (drop n (byte ∷ (front ++ 10 ∷ [])))) place e

rest_whole : (text : List ℕ) → IsEnded text → AreWholeLines (after_first is_line_feed text)
rest_whole text ended =
    subst (λ (t : List ℕ). AreWholeLines (after_first is_line_feed t)) (sym ended.1) (rest_there ended.0)

-- ---- logs

said_by : (text : List ℕ) → 0 < length text → build_log_of text
    ≡ log_of_version (version_number (before_first is_line_feed text))
    (logged_lines (after_first is_line_feed text))
said_by [] none = absurd (omega arith)
said_by (byte ∷ text) some = refl

-- a text appended to an ended text does not change its first line
said_more : (text more : List ℕ) → IsEnded text → build_log_of (text ++ more)
    ≡ log_of_version (version_number (before_first is_line_feed text))
    (logged_lines (after_first is_line_feed text ++ more))
said_more text more ended =
    let some = ended_has_end text ended in
    let within = first_within is_line_feed text some in
    said_by (text ++ more) (omega (arith, length-append text more))
    ∙ ap₂ (λ first rest. log_of_version (version_number first) (logged_lines rest))
    (first_same text more some)
    (rest_longer text more some)

said_once : (text : List ℕ) → IsEnded text → build_log_of text
    ≡ log_of_version (version_number (before_first is_line_feed text))
    (logged_lines (after_first is_line_feed text))
said_once text ended =
    let within = first_within is_line_feed text (ended_has_end text ended) in said_by text (omega arith)

logged-more : (text line : List ℕ) → AreWholeLines text → IsOneLine line
    → logged_lines (text ++ (line ++ 10 ∷ [])) ≡ logged_lines text ++ option_to_list (line_of line)
logged-more text line whole one =
    ap (filter_map line_of) (line-added text line whole one)
    ∙ filter_map-append line_of (lines_of text) (line ∷ [])
    ∙ ap (λ ls. logged_lines text ++ ls) (single (line_of line))
  where
    single : (o : Option LineModel) → cons_option o [] ≡ option_to_list o
    single None = refl
    single (Some l) = refl

-- ---- a line without its end

pub unended_changes_nothing : UnendedLineChangesNothing
unended_changes_nothing text line ended one =
    said_more text line ended
    ∙ ap (λ ls. log_of_version (version_number (before_first is_line_feed text)) (filter_map line_of ls))
    (line-unended (after_first is_line_feed text) line (rest_whole text ended) one)
    ∙ sym (said_once text ended)

-- ---- a line with few tabs

fewer_after : (text : List ℕ) → list_any is_tab text ≡ true
    → count_by is_tab text ≡ count_by is_tab (after_first is_tab text) + 1
fewer_after text some =
    let within = first_within is_tab text some in
    let first = ap length (slice_split_first is_tab text 0 within) in
    omega (arith, first, length-slice_split is_tab text, length-slice_split is_tab (after_first is_tab text))

few_fields : (cuts : ℕ) (text : List ℕ) → count_by is_tab text < cuts → length (fields_of cuts text) ≤ cuts
few_fields zero text few = absurd (omega arith)
few_fields (suc cuts) text few = by (two_ways (list_any is_tab text))
    (few_fields cuts (after_first is_tab text))
  where
    by : (list_any is_tab text ≡ true) ⊎ (list_any is_tab text ≡ false)
        → (count_by is_tab (after_first is_tab text) < cuts
        → length (fields_of cuts (after_first is_tab text)) ≤ cuts)
        → length (fields_of (suc cuts) text) ≤ suc cuts
    by (inl some) rest =
        let fewer = fewer_after text some in
        let short = rest (omega arith) in
        let is = ap (λ b. length (cond b
        (before_first is_tab text ∷ fields_of cuts (after_first is_tab text)) (text ∷ []))) some in
        omega (arith, is)
    by (inr none) rest =
        let is = ap (λ b. length (cond b
        (before_first is_tab text ∷ fields_of cuts (after_first is_tab text)) (text ∷ []))) none in
        omega (arith, is)

one_or_none_more : (b : Bool) (byte : ℕ) (tabs : List ℕ) → length tabs ≤ length (cond b (byte ∷ tabs) tabs)
one_or_none_more true byte tabs = omega arith
one_or_none_more false byte tabs = omega arith

tabs_left : (n : ℕ) (text : List ℕ) → length (filter is_tab (drop n text)) ≤ length (filter is_tab text)
tabs_left zero text = omega arith
tabs_left (suc n) [] = omega arith
tabs_left (suc n) (byte ∷ text) =
    let rest = tabs_left n text in
    let whole = one_or_none_more (is_tab byte) byte (filter is_tab text) in
    let both : length (filter is_tab (drop n text))
    ≤ length (cond (is_tab byte) (byte ∷ filter is_tab text) (filter is_tab text)) = omega arith in
    both

fewer_left : (n : ℕ) (text : List ℕ) → count_by is_tab (drop n text) ≤ count_by is_tab text
fewer_left n text =
    omega (arith, tabs_left n text, length-filter is_tab text, length-filter is_tab (drop n text))

no_line_in : (fields : List (List ℕ)) → length fields ≤ 4 → line_in fields ≡ None
no_line_in [] few = refl
no_line_in (a ∷ []) few = refl
no_line_in (a ∷ b ∷ []) few = refl
no_line_in (a ∷ b ∷ c ∷ []) few = refl
no_line_in (a ∷ b ∷ c ∷ d ∷ []) few = refl
no_line_in (a ∷ b ∷ c ∷ d ∷ e ∷ more) few = absurd (omega arith)

no_line_of : (line : List ℕ) → count_by is_tab line < 4 → line_of line ≡ None
no_line_of line few =
    let left = fewer_left (262144 * (length line / 262144)) line in
    no_line_in (fields_of 4 (counted_part line)) (few_fields 4 (counted_part line) (omega arith))

pub few_tabs_nothing : FewTabsChangeNothing
few_tabs_nothing text line ended one few =
    let rest = after_first is_line_feed text in
    said_more text (line ++ 10 ∷ []) ended
    ∙ ap (log_of_version (version_number (before_first is_line_feed text)))
    (logged-more rest line (rest_whole text ended) one
    ∙ ap (λ o. logged_lines rest ++ option_to_list o) (no_line_of line few)
    ∙ append-nil (logged_lines rest))
    ∙ sym (said_once text ended)

-- ---- the last line

-- a log of a version has its lines, whatever they are
same_version : (version : Option ℕ) (lines more : List LineModel) (log : BuildLogModel)
    → log_of_version version lines ≡ Ok log
    → (log.lines ≡ lines) × (log_of_version version more
    ≡ Ok (record { version = log.version; lines = more }))
same_version None lines more log e = cc
same_version (Some number) lines more log e = by (known_version number) e
  where
    by : (known : Option LogVersion)
        → ◌≡◌ {A = Result BuildLogModel BuildLogFault} (elim known [
          | Some version ↦ Ok (record { version = Some version; lines = lines })
          | None ↦ Err (OtherVersion number)
        ]) (Ok log)
        → (log.lines ≡ lines) × ◌≡◌ {A = Result BuildLogModel BuildLogFault} (elim known [
          | Some version ↦ Ok (record { version = Some version; lines = more })
          | None ↦ Err (OtherVersion number)
        ]) (Ok (record { version = log.version; lines = more }))
    by None e = cc
    by (Some version) e =
        let is : log ≡ record { version = Some version; lines = lines } = cc in
        let with_more : BuildLogModel → Result BuildLogModel BuildLogFault =
        λ (l : BuildLogModel). Ok (record { version = l.version; lines = more }) in
        (ap (λ l. l.lines) is, sym (ap with_more is))

others_stay : (lines : List LineModel) (line : LineModel) (other : List ℕ) → other ≢ line.output
    → entry_of (lines ++ line ∷ []) other ≡ entry_of lines other
others_stay lines line other differs =
    entry-push lines line other
    ∙ ap (λ b. cond b (Some line.entry) (entry_of lines other))
    (is_other (two_ways (bytes_eq other line.output)))
  where
    is_other : (bytes_eq other line.output ≡ true) ⊎ (bytes_eq other line.output ≡ false)
        → bytes_eq other line.output ≡ false
    is_other (inl same) = absurd (differs ((bytes_eq-Decides other line.output).0 same))
    is_other (inr e) = e

last_entry : (lines : List LineModel) (line : LineModel)
    → entry_of (lines ++ line ∷ []) line.output ≡ Some line.entry
last_entry lines line =
    entry-push lines line line.output
    ∙ ap (λ b. cond b (Some line.entry) (entry_of lines line.output))
    ((bytes_eq-Decides line.output line.output).1 refl)

pub last_counts : LastLineCounts
last_counts text line log logged ended one is_log is_line =
    let rest = after_first is_line_feed text in
    let lines : logged_lines (rest ++ (line ++ 10 ∷ [])) ≡ logged_lines rest ++ logged ∷ [] =
    logged-more rest line (rest_whole text ended) one
    ∙ ap (λ o. logged_lines rest ++ option_to_list o) is_line in
    let known = same_version (version_number (before_first is_line_feed text)) (logged_lines rest)
    (logged_lines rest ++ logged ∷ []) log (sym (said_once text ended) ∙ is_log) in (
      record { version = log.version; lines = logged_lines rest ++ logged ∷ [] },
      said_more text (line ++ 10 ∷ []) ended
          ∙ ap (log_of_version (version_number (before_first is_line_feed text))) lines ∙ known.1,
      record {
        version = refl;
        lines = ap (λ ls. ls ++ logged ∷ []) (sym known.0);
        same = last_entry (logged_lines rest) logged;
        others = λ other differs. others_stay (logged_lines rest) logged other differs
            ∙ ap (λ ls. entry_of ls other) (sym known.0);
      },
    )
