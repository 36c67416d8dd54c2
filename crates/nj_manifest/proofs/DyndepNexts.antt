-- The next entry: the readings of lines, and the forms.
use Rattle.std.proofs.Common.{arith, ◌≡◌, Bool, true, false, ◌||◌, cond, Option, Some, None, Result, Ok, Err}
use Rattle.std.proofs.Common.{◌⊎◌}
use Rattle.std.proofs.Common.{inl, inr, List, [], ◌∷◌, refl, sym, ap, subst, ◌∙◌, codes}
use Rattle.std.specs.List.{list_any}
use Rattle.std.specs.Str.{bytes_eq}
use Rattle.std.proofs.lemmas.Slice.Eq.{bytes_eq-Decides}
use Rattle.nj_text.specs.declared.line_start.LineStart.{LineStart}
use Rattle.nj_text.specs.declared.line_start.LineStart.TheVariants as start
use Rattle.nj_text.specs.Words.{WordModel}
use Rattle.nj_text.specs.Lines.{Line, lines_after, Kind, CommentLine, TabLine, BlankLine, IndentedLine}
use Rattle.nj_text.specs.Lines.{PlainLine, kind_of}
use Rattle.nj_text.specs.Calls.{State, Between, Inside, start_line_of, without_comments, Reply}
use Rattle.nj_manifest.specs.declared.block_lines.Keys.TheVariants as keys
use Rattle.nj_manifest.specs.declared.cause.Wanted.TheVariants as wanted
use Rattle.nj_manifest.specs.Faults.{Fault}
use Rattle.nj_manifest.specs.LineSteps.{Step, ◌>>=◌, called, NameModel, name_next}
use Rattle.nj_manifest.specs.Statements.{LineModel, lines_from, equals_value, line_next, block_by, block}
use Rattle.nj_manifest.specs.Openings.{Parse, opening_by, opening, or_last, without_spaces}
use Rattle.nj_manifest.specs.Dyndeps.{EntryModel, entry_line, word_of_form, has_text, if_indented}
use Rattle.nj_manifest.specs.Dyndeps.{restat_block, entry_from, next_entry}
use Rattle.nj_manifest.specs.DyndepForms.{RestatForm, NextEntryForm, NextEntriesAreTheForms}
use Rattle.nj_manifest.specs.Inside.ParserContracts.{entry_here}
use Rattle.nj_manifest.proofs.Choices.{no_lines, ended}
use Rattle.nj_manifest.proofs.EntryBlocks.{restat_line, line_too_many, first_line, block-lines}
use Rattle.nj_manifest.proofs.Framing.{bind-ok, line-inside}
use Rattle.nj_manifest.proofs.BlockLines.{lines_weight, Begins, start-begins, block-after}
use Rattle.nj_manifest.proofs.FormsKeys.{unless_missing-ok}
use Rattle.nj_manifest.proofs.FormsBlocks.{block-form, block-read}
use Rattle.nj_manifest.proofs.DyndepEnds.{oks, called-ok, restat_line-inside, too_many-fails}
use Rattle.nj_manifest.proofs.DyndepEntries.{entries_are}

or-false : (b : Bool) → (b || false) ≡ b
or-false b = grind arith

no_err : {A P : Type 0} {x : A} {f : Fault} → ◌≡◌ {A = Result A Fault} (Ok x) (Err f) → P
no_err e = absurd cc

-- ---- a line of a block

line_of : (m : State) (name : NameModel × State) (value : WordModel × State)
    → name_next wanted.VariableName m ≡ Ok name → equals_value name.1 ≡ Ok value
    → line_next keys.All m ≡ Ok (record { spot = name.0.spot; name = name.0.name; value = value.0 }, value.1)
unfolding line_next
line_of m name value a b = rw (a, b) refl

-- `restat = VALUE` is a line of a block that has this key.
restat-line : (m : State) (y : Bool × State) → restat_line m ≡ Ok y
    → (line : LineModel) × (line.name ≡ codes "restat") × (line_next keys.All m ≡ Ok (line, y.1))
    × (has_text line.value ≡ y.0)
unfolding restat_line word_of_form
restat-line m y h =
    let key = bind-ok (word_of_form (codes "restat") wanted.VariableName m) _ y h in
    let value = bind-ok (equals_value key.0) (λ value. Ok (has_text value.0, value.1)) y key.2 in
    let name = bind-ok (name_next wanted.VariableName m) _ key.0 key.1 in
    let k = unless_missing-ok (bytes_eq name.0.0.name (codes "restat")) _ (Ok name.0.1) key.0 name.2 in
    let line : LineModel = record { spot = name.0.0.spot; name = name.0.0.name; value = value.0.0 } in
    let read : equals_value name.0.1 ≡ Ok value.0 = ap equals_value (oks k.1) ∙ value.1 in
    let same = oks value.2 in (
      line,
      (bytes_eq-Decides name.0.0.name (codes "restat")).0 k.0,
      line_of m name.0 value.0 name.1 read ∙ ap (λ (r : Bool × State). Ok (line, r.1)) same,
      ap (λ (r : Bool × State). r.0) same,
    )

line-restat : (m t : State) (line : LineModel) → line_next keys.All m ≡ Ok (line, t)
    → line.name ≡ codes "restat"
    → restat_line m ≡ Ok (has_text line.value, t)
unfolding restat_line word_of_form line_next
line-restat m t line h n = grind arith

-- ---- a block

begins : (ls : List Line) (x : LineStart) (m : State) → called (start_line_of (Between ls)) ≡ Ok (x, m)
    → Begins keys.All (lines_weight ls) (block keys.All ls) (Ok (x, m))
begins ls x m h = start-begins keys.All ls (Ok (x, m)) (called-ok (start_line_of (Between ls)) x m h)

-- a line, and the lines that follow it
one_line : (ls : List Line) (l : Line) (others : List Line) (m t : State) (line : LineModel)
    (more : List LineModel × List Line) → m ≡ Inside (without_spaces l) others
    → block keys.All ls ≡ block_by keys.All IndentedLine l others (block keys.All others)
    → line_next keys.All m ≡ Ok (line, t)
    → block keys.All (lines_after l others) ≡ Ok more → block keys.All ls ≡ Ok (line ∷ more.0, more.1)
one_line ls l others m t line more is reads read rest = grind (arith, block-after)

no_block : (ls : List Line) (m : State) → block keys.All ls ≡ no_lines (lines_from m)
    → RestatForm ls false (lines_from m)
no_block ls m e = grind (arith, block-form)

-- the form of what was read
abbrev IsForm : List Line → Bool × State → Type 0
IsForm ls y = RestatForm ls y.0 (lines_from y.1)

restat-form : (ls : List Line) (s : Bool × State) → restat_block (Between ls) ≡ Ok s → IsForm ls s
restat-form ls s h =
    let first = bind-ok (called (start_line_of (Between ls))) _ s (sym (block-lines (Between ls)) ∙ h) in
    by_start first.0.0 first.0.1 (begins ls first.0.0 first.0.1 first.1) first.2
  where
    by_second : (l : Line) (others : List Line) (m : State) (t : Bool × State) (line : LineModel)
        → m ≡ Inside (without_spaces l) others
        → block keys.All ls ≡ block_by keys.All IndentedLine l others (block keys.All others)
        → line_next keys.All m ≡ Ok (line, t.1) → line.name ≡ codes "restat" → has_text line.value ≡ t.0
        → (y : LineStart) (n : State)
        → Begins keys.All (lines_weight (lines_after l others)) (block keys.All (lines_after l others))
        (Ok (y, n))
        → if_indented t.0 y n line_too_many ≡ Ok s → IsForm ls s
    by_second l others m t line is reads read key value y n b g = by_kind y b g
      where
        ended_there : block keys.All (lines_after l others) ≡ no_lines (lines_from n) → (t.0, n) ≡ s
            → IsForm ls s
        ended_there e same =
            subst (IsForm ls) same
            (record {
              lines = line ∷ [];
              block = block-form keys.All ls (line ∷ []) (lines_from n)
                  (one_line ls l others m t.1 line ([], lines_from n) is reads read e);
              one_at_most = inr (line, refl, key);
              value = or-false (has_text line.value) ∙ value;
            })

        by_kind : (y : LineStart)
            → Begins keys.All (lines_weight (lines_after l others)) (block keys.All (lines_after l others))
            (Ok (y, n))
            → if_indented t.0 y n line_too_many ≡ Ok s → IsForm ls s
        by_kind start.Indented b g = too_many-fails n s g
        by_kind start.Middle b g = absurd b
        by_kind start.End b g = ended_there b.0 (oks g)
        by_kind start.Blank b g = ended_there b.0 (oks g)
        by_kind start.Plain b g = ended_there b.0 (oks g)

    after_line : (l : Line) (others : List Line) (m : State) → m ≡ Inside (without_spaces l) others
        → block keys.All ls ≡ block_by keys.All IndentedLine l others (block keys.All others)
        → first_line m ≡ Ok s → IsForm ls s
    after_line l others m is reads g =
        let restat = bind-ok (restat_line m) _ s g in
        let second = bind-ok (called (start_line_of restat.0.1)) _ s restat.2 in
        let end : restat.0.1 ≡ Between (lines_after l others) =
        restat_line-inside (without_spaces l) others m restat.0 ((without_spaces l).units, is) restat.1 in
        let line = restat-line m restat.0 restat.1 in
        let begun = ap (λ (t : State). called (start_line_of t)) (sym end) ∙ second.1 in
        by_second l others m restat.0 line.0 is reads line.2 line.1 line.3 second.0.0 second.0.1
        (begins (lines_after l others) second.0.0 second.0.1 begun) second.2

    by_start : (x : LineStart) (m : State) → Begins keys.All (lines_weight ls) (block keys.All ls) (Ok (x, m))
        → if_indented false x m first_line ≡ Ok s → IsForm ls s
    by_start start.Indented m b g = after_line b.0 b.1 m b.2 b.3 g
    by_start start.Middle m b g = absurd b
    by_start start.End m b g = subst (IsForm ls) (oks g) (no_block ls m b.0)
    by_start start.Blank m b g = subst (IsForm ls) (oks g) (no_block ls m b.0)
    by_start start.Plain m b g = subst (IsForm ls) (oks g) (no_block ls m b.0)

-- the start of a line where a block has no line
record Quiet (ls rest : List Line) : Type 0 where
  pub begun : LineStart
  pub after : State
  pub starts : called (start_line_of (Between ls)) ≡ Ok (begun, after)
  pub stays : (bound : Bool) (k : State → Step Bool) → if_indented bound begun after k ≡ Ok (bound, after)
  pub left : lines_from after ≡ rest

-- the start of a line where a block has a line
record Spoken (ls rest : List Line) (line : LineModel) : Type 0 where
  pub after : State
  pub first : Line
  pub others : List Line
  pub end : State
  pub starts : called (start_line_of (Between ls)) ≡ Ok (start.Indented, after)
  pub is : after ≡ Inside (without_spaces first) others
  pub reads : line_next keys.All after ≡ Ok (line, end)
  pub none : block keys.All (lines_after first others) ≡ Ok ([], rest)

no_more : {P : Type 0} (x : LineModel) (xs : List LineModel) → ◌≡◌ {A = List LineModel} (x ∷ xs) [] → P
no_more x xs e = absurd cc

-- a line that was begun in a block
line_there : (l : Line) (others rest : List Line) (lines : List LineModel)
    → block_by keys.All IndentedLine l others (block keys.All others) ≡ Ok (lines, rest)
    → (line : LineModel) × (more : List LineModel) × (end : State)
    × (line_next keys.All (Inside (without_spaces l) others) ≡ Ok (line, end))
    × (block keys.All (lines_after l others) ≡ Ok (more, rest)) × (line ∷ more ≡ lines)
line_there l others rest lines h =
    let one = bind-ok (line_next keys.All (Inside (without_spaces l) others)) _ (lines, rest) h in
    let more = bind-ok (or_last l (no_lines (lines_after l others)) (block keys.All others))
    (λ more. Ok (one.0.0 ∷ more.0, more.1)) (lines, rest) one.2 in
    let same = oks more.2 in
    let left : more.0.1 ≡ rest = ap (λ (r : List LineModel × List Line). r.1) same in (
      one.0.0,
      more.0.0,
      one.0.1,
      one.1,
      block-after keys.All l others ∙ more.1 ∙ ap (λ (r : List Line). Ok (more.0.0, r)) left,
      ap (λ (r : List LineModel × List Line). r.0) same,
    )

quiet : (ls rest : List Line) → block keys.All ls ≡ Ok ([], rest) → Quiet ls rest
quiet ls rest h = by_reply (start_line_of (Between ls)) refl
    (start-begins keys.All ls (start_line_of (Between ls)) refl)
  where
    left_of : (m : State) → block keys.All ls ≡ no_lines (lines_from m) → lines_from m ≡ rest
    left_of m b = ap (λ (r : List LineModel × List Line). r.1) (oks (sym b ∙ h))

    by_reply : (r : Reply LineStart) → start_line_of (Between ls) ≡ r
        → Begins keys.All (lines_weight ls) (block keys.All ls) r → Quiet ls rest
    by_reply (Err unit) e b = no_err (sym h ∙ b)
    by_reply (Ok (start.Indented, m)) e b =
        let there = line_there b.0 b.1 rest [] (sym b.3 ∙ h) in
        no_more there.0 there.1 there.5
    by_reply (Ok (start.Middle, m)) e b = absurd b
    by_reply (Ok (start.End, m)) e b = record
        { begun = start.End; after = m; starts = ap called e; stays = λ bound k. refl; left = left_of m b.0 }
    by_reply (Ok (start.Blank, m)) e b = record {
      begun = start.Blank;
      after = m;
      starts = ap called e;
      stays = λ bound k. refl;
      left =
          left_of m b.0;
    }
    by_reply (Ok (start.Plain, m)) e b = record {
      begun = start.Plain;
      after = m;
      starts = ap called e;
      stays = λ bound k. refl;
      left =
          left_of m b.0;
    }

spoken : (ls rest : List Line) (line : LineModel) → block keys.All ls ≡ Ok (line ∷ [], rest)
    → Spoken ls rest line
spoken ls rest line h = by_reply (start_line_of (Between ls)) refl
    (start-begins keys.All ls (start_line_of (Between ls)) refl)
  where
    empty : {P : Type 0} (m : State) → block keys.All ls ≡ no_lines (lines_from m) → P
    empty m b = no_more line [] (ap (λ (r : List LineModel × List Line). r.0) (oks (sym h ∙ b)))

    heads : {x : LineModel} {xs : List LineModel} → x ∷ xs ≡ line ∷ [] → x ≡ line
    heads e = cc

    tails : {x : LineModel} {xs : List LineModel} → x ∷ xs ≡ line ∷ [] → xs ≡ []
    tails e = cc

    by_reply : (r : Reply LineStart) → start_line_of (Between ls) ≡ r
        → Begins keys.All (lines_weight ls) (block keys.All ls) r → Spoken ls rest line
    by_reply (Err unit) e b = no_err (sym h ∙ b)
    by_reply (Ok (start.Indented, m)) e b =
        let there = line_there b.0 b.1 rest (line ∷ []) (sym b.3 ∙ h) in
        record {
          after = m;
          first = b.0;
          others = b.1;
          end = there.2;
          starts = ap called e;
          is = b.2;
          reads = ap (line_next keys.All) b.2
              ∙ (there.3 ∙ ap (λ (x : LineModel). Ok (x, there.2)) (heads there.5));
          none = there.4 ∙ ap (λ (xs : List LineModel). Ok (xs, rest)) (tails there.5);
        }
    by_reply (Ok (start.Middle, m)) e b = absurd b
    by_reply (Ok (start.End, m)) e b = empty m b.0
    by_reply (Ok (start.Blank, m)) e b = empty m b.0
    by_reply (Ok (start.Plain, m)) e b = empty m b.0

-- what a block with some lines binds
abbrev bound_by : List LineModel → Bool
bound_by lines = list_any (λ line. has_text line.value) lines

restat-read : (ls : List Line) (restat : Bool) (rest : List Line) → RestatForm ls restat rest
    → (s : State) × (restat_block (Between ls) ≡ Ok (restat, s)) × (lines_from s ≡ rest)
restat-read ls restat rest f = by_lines f.one_at_most
  where
    by_lines : (f.lines ≡ []) ⊎ ((line : LineModel) × (f.lines ≡ line ∷ []) × (line.name ≡ codes "restat"))
        → (s : State) × (restat_block (Between ls) ≡ Ok (restat, s)) × (lines_from s ≡ rest)
    by_lines (inl e) =
        let q = quiet ls rest (block-read f.block ∙ ap (λ (xs : List LineModel). Ok (xs, rest)) e) in
        let value : false ≡ restat = ap bound_by (sym e) ∙ f.value in (
          q.after,
          block-lines (Between ls) ∙ (ap (λ r. r >>= λ first. if_indented false first.0 first.1 first_line)
              q.starts
              ∙ (q.stays false first_line ∙ ap (λ (b : Bool). Ok (b, q.after)) value)),
          q.left,
        )
    by_lines (inr g) =
        let p = spoken ls rest g.0 (block-read f.block ∙ ap (λ (xs : List LineModel). Ok (xs, rest)) g.1) in
        let q = quiet (lines_after p.first p.others) rest p.none in
        let line = line-restat p.after p.end g.0 p.reads g.2 in
        let end : p.end ≡ Between (lines_after p.first p.others) =
        line-inside keys.All (without_spaces p.first) p.others g.0 p.end
        (ap (line_next keys.All) (sym p.is) ∙ p.reads) in
        let second : called (start_line_of p.end) ≡ Ok (q.begun, q.after) =
        ap (λ (t : State). called (start_line_of t)) end ∙ q.starts in
        let value : has_text g.0.value ≡ restat =
        sym (or-false (has_text g.0.value)) ∙ (ap bound_by (sym g.1) ∙ f.value) in (
          q.after,
          block-lines (Between ls) ∙ (ap (λ r. r >>= λ first. if_indented false first.0 first.1 first_line)
              p.starts
              ∙ (rw (line, second) (q.stays (has_text g.0.value) line_too_many)
              ∙ ap (λ (b : Bool). Ok (b, q.after)) value)),
          q.left,
        )

-- ---- the next entry

next_by_kind : (l : Line) (ls : List Line) (k : Kind) → kind_of l ≡ k
    → next_entry (l ∷ ls) ≡ (opening_by k l ls (opening ls) >>= entry_from)
unfolding next_entry opening
next_by_kind l ls k h = ap (λ (k : Kind). opening_by k l ls (opening ls) >>= entry_from) h

next_is : (ls : List Line) → next_entry ls ≡ (opening ls >>= entry_from)
unfolding next_entry
next_is ls = refl

-- the entry with its block
abbrev with_block : EntryModel × State → Parse (Option EntryModel)
with_block entry = restat_block entry.1 >>=
    λ block. Ok (Some (record entry.0 { restat = block.0 }), lines_from block.1)

at_is : (l : Line) (ls : List Line) → entry_here l ls ≡ (entry_line (Inside l ls) >>= with_block)
at_is l ls = refl

nothing_next : next_entry [] ≡ Ok (None, [])
unfolding next_entry opening
nothing_next = refl

as_found : (ls rest : List Line) (one found : Option EntryModel) (there : List Line)
    → ◌≡◌ {A = Parse (Option EntryModel)} (Ok (one, there)) (Ok (found, rest)) → NextEntryForm ls one there
    → NextEntryForm ls found rest
as_found ls rest one found there h f = grind arith

at_form : (l : Line) (ls : List Line) (found : Option EntryModel) (rest : List Line) → kind_of l ≡ PlainLine
    → entry_here l ls ≡ Ok (found, rest) → NextEntryForm (l ∷ ls) found rest
at_form l ls found rest k h =
    let entry = bind-ok (entry_line (Inside l ls)) _ (found, rest) (sym (at_is l ls) ∙ h) in
    let one = λ (restat : Bool). record entry.0.0 { restat = restat } in
    let end = bind-ok (restat_block entry.0.1) (λ block. Ok (Some (one block.0), lines_from block.1))
    (found, rest) entry.2 in
    let form = (entries_are l ls entry.0.0 entry.0.1).0 entry.1 in
    let block = restat-form (lines_after l ls) end.0 (ap restat_block (sym form.1) ∙ end.1) in
    as_found (l ∷ ls) rest (Some (one end.0.0)) found (lines_from end.0.1) end.2
    (NextEntryForm.statement k form.0 block)

next_form : (ls : List Line) (found : Option EntryModel) (rest : List Line) → next_entry ls ≡ Ok (found, rest)
    → NextEntryForm ls found rest
next_form [] found rest h = as_found [] rest None found [] (sym nothing_next ∙ h) NextEntryForm.nothing
next_form (l ∷ ls) found rest h = by_kind (kind_of l) refl (λ e. next_form ls found rest (next_is ls ∙ e))
  where
    by_last_comment : (t : Bool) → l.is_last ≡ t → kind_of l ≡ CommentLine
        → ((opening ls >>= entry_from) ≡ Ok (found, rest) → NextEntryForm ls found rest)
        → (cond t (ended (lines_after l (without_comments ls))) (opening ls) >>= entry_from)
        ≡ Ok (found, rest) → NextEntryForm (l ∷ ls) found rest
    by_last_comment true e k others g = as_found (l ∷ ls) rest None found
        (lines_after l (without_comments ls)) g (NextEntryForm.last_comment k e)
    by_last_comment false e k others g = NextEntryForm.comment k e (others g)

    by_last_blank : (t : Bool) → l.is_last ≡ t → kind_of l ≡ BlankLine
        → ((opening ls >>= entry_from) ≡ Ok (found, rest) → NextEntryForm ls found rest)
        → (cond t (ended (lines_after l ls)) (opening ls) >>= entry_from) ≡ Ok (found, rest)
        → NextEntryForm (l ∷ ls) found rest
    by_last_blank true e k others g = as_found (l ∷ ls) rest None found (lines_after l ls) g
        (NextEntryForm.last_blank k e)
    by_last_blank false e k others g = NextEntryForm.blank k e (others g)

    by_kind : (k : Kind) → kind_of l ≡ k → ((opening ls >>= entry_from) ≡ Ok (found, rest)
        → NextEntryForm ls found rest) → NextEntryForm (l ∷ ls) found rest
    by_kind CommentLine k others = by_last_comment l.is_last refl k others
        (sym (next_by_kind l ls CommentLine k) ∙ h)
    by_kind (TabLine tab) k others = no_err (sym h ∙ next_by_kind l ls (TabLine tab) k)
    by_kind IndentedLine k others = no_err (sym h ∙ next_by_kind l ls IndentedLine k)
    by_kind BlankLine k others = by_last_blank l.is_last refl k others
        (sym (next_by_kind l ls BlankLine k) ∙ h)
    by_kind PlainLine k others = at_form l ls found rest k (sym (next_by_kind l ls PlainLine k) ∙ h)

next_read : {ls rest : List Line} {found : Option EntryModel} → NextEntryForm ls found rest
    → next_entry ls ≡ Ok (found, rest)
next_read (NextEntryForm.statement {l = l} {ls = ls} {rest = rest} {entry = entry} {restat = restat} k f b) =
    let read = (entries_are l ls entry (Between (lines_after l ls))).1 (f, refl) in
    let block = restat-read (lines_after l ls) restat rest b in
    next_by_kind l ls PlainLine k
    ∙ (at_is l ls ∙ rw (read, block.1) (ap
    (λ (r : List Line). Ok (Some (record entry { restat = restat }), r)) block.2))
next_read (NextEntryForm.blank {l = l} {ls = ls} k e others) = grind (
  arith,
  next_by_kind l ls BlankLine k,
  ended (lines_after l ls),
  next_is ls,
  next_read others,
)
next_read (NextEntryForm.comment {l = l} {ls = ls} k e others) =
    next_by_kind l ls CommentLine k ∙ (ap (λ (t : Bool). cond t (ended (lines_after l (without_comments ls)))
    (opening ls) >>= entry_from) e ∙ (sym (next_is ls) ∙ next_read others))
next_read (NextEntryForm.last_blank {l = l} {ls = ls} k e) = grind (
  arith,
  next_by_kind l ls BlankLine k,
  ended (lines_after l ls),
)
next_read (NextEntryForm.last_comment {l = l} {ls = ls} k e) = grind (
  arith,
  next_by_kind l ls CommentLine k,
  ended (lines_after l (without_comments ls)),
)
next_read NextEntryForm.nothing = nothing_next

pub next_entries_are : NextEntriesAreTheForms
next_entries_are ls found rest = (λ h. next_form ls found rest h, λ f. next_read f)
