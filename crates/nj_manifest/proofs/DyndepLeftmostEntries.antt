-- The first fault of the next entry of some lines.
use Rattle.std.proofs.Common.{arith, ◌≡◌, Bool, true, false, cond, inl, inr, ◌⊎◌, Option, Some, None, Ok, Err}
use Rattle.std.proofs.Common.{List}
use Rattle.std.proofs.Common.{[], ◌∷◌, ◌++◌, refl, sym, ap, subst, ◌∙◌, codes}
use Rattle.std.specs.List.{list_all}
use Rattle.std.proofs.lemmas.Bool.{and_parts}
use Rattle.nj_text.specs.declared.spot.Spot.{Spot}
use Rattle.nj_text.specs.Units.{TextUnit}
use Rattle.nj_text.specs.Lines.{Line, line_spot, with_units, lines_after, Kind, CommentLine, TabLine}
use Rattle.nj_text.specs.Lines.{BlankLine, IndentedLine, PlainLine, kind_of}
use Rattle.nj_text.specs.Calls.{State, Between, Inside, without_comments}
use Rattle.nj_manifest.specs.declared.cause.SyntaxCause.TheVariants as cause
use Rattle.nj_manifest.specs.Faults.{Fault, Placed}
use Rattle.nj_manifest.specs.LineSteps.{Step, ◌>>=◌, name_next, expect_sign, section_next}
use Rattle.nj_manifest.specs.Statements.{lines_from}
use Rattle.nj_manifest.specs.Openings.{Parse, opening_by, opening, front_of}
use Rattle.nj_manifest.specs.Leftmost.{continues, element, written, met_before, offers}
use Rattle.nj_manifest.specs.Dyndeps.{EntryModel, word_of_form, no_path, no_section, output_next}
use Rattle.nj_manifest.specs.Dyndeps.{added_inputs, entry_line, restat_block, entry_from, next_entry}
use Rattle.nj_manifest.specs.DyndepLeftmost.{are_apart, NamesPlaceInEntry, SomeEntry, LineTooMany}
use Rattle.nj_manifest.specs.DyndepLeftmost.{EntryComesLeftmost, DyndepFaultsAreLeftmost}
use Rattle.nj_manifest.specs.Inside.ParserContracts.{entry_here}
use Rattle.nj_manifest.proofs.Choices.{ended}
use Rattle.nj_manifest.proofs.DyndepEnds.{oks}
use Rattle.nj_manifest.proofs.LeftmostFronts.{element-front}
use Rattle.nj_manifest.proofs.LeftmostSteps.{text, Stuck, Outcome, stuck, through}
use Rattle.nj_manifest.proofs.LeftmostKinds.{spaces_of, after_spaces, spaces_cut, spaces_pass, kind_spaced}
use Rattle.nj_manifest.proofs.LeftmostKinds.{kind_replaced, tab_place, unspaced, no_space_same}
use Rattle.nj_manifest.proofs.DyndepLeftmostMarks.{real}
use Rattle.nj_manifest.proofs.DyndepLeftmostLines.{EntryPlain, entry_outcome}
use Rattle.nj_manifest.proofs.DyndepLeftmostBlocks.{real_place, real_before, real_offers, in_lines, in_blank}
use Rattle.nj_manifest.proofs.DyndepLeftmostBlocks.{block_is, BlockContinues, with_text, with_end, LinesStuck}
use Rattle.nj_manifest.proofs.DyndepLeftmostBlocks.{errs, no_fault, block_stuck}
use Rattle.nj_manifest.proofs.EntryBlocks.{end_of, first_end}

-- ---- the next entry, by the kind of its first line

by_kind_entry : (l : Line) (ms : List Line) (k : Kind) → kind_of l ≡ k
    → next_entry (l ∷ ms) ≡ (opening_by k l ms (opening ms) >>= entry_from)
unfolding next_entry opening
by_kind_entry l ms k h = ap (λ (k : Kind). opening_by k l ms (opening ms) >>= entry_from) h

next_is : (ls : List Line) → next_entry ls ≡ (opening ls >>= entry_from)
unfolding next_entry
next_is ls = refl

nothing_next : next_entry [] ≡ Ok (None, [])
unfolding next_entry opening
nothing_next = refl

-- the entry after its line
abbrev entry_then : EntryModel × State → Parse (Option EntryModel)
entry_then entry = restat_block entry.1 >>=
    λ block. Ok (Some (record entry.0 { restat = block.0 }), lines_from block.1)

at_is : (l : Line) (ls : List Line) → entry_here l ls ≡ (entry_line (Inside l ls) >>= entry_then)
at_is l ls = refl

plain_is : (l : Line) (ms : List Line) → kind_of l ≡ PlainLine
    → next_entry (l ∷ ms) ≡ (entry_line (Inside l ms) >>= entry_then)
plain_is l ms h = by_kind_entry l ms PlainLine h ∙ at_is l ms

plain_bad : (l : Line) (ms : List Line) (f : Fault) → kind_of l ≡ PlainLine → entry_line (Inside l ms) ≡ Err f
    → next_entry (l ∷ ms) ≡ Err f
plain_bad l ms f h r = plain_is l ms h ∙ ap (λ (y : Step EntryModel). y >>= entry_then) r

abbrev block_then : EntryModel → List Line → Parse (Option EntryModel)
block_then entry ls = entry_then (entry, Between ls)

plain_read : (l : Line) (ms : List Line) (v : EntryModel) (ls : List Line) → kind_of l ≡ PlainLine
    → entry_line (Inside l ms) ≡ Ok (v, Between ls) → next_entry (l ∷ ms) ≡ block_then v ls
plain_read l ms v ls h r = plain_is l ms h ∙ ap (λ (y : Step EntryModel). y >>= entry_then) r

-- by a reading of the block
abbrev by_block_read : EntryModel → Step Bool → Parse (Option EntryModel)
by_block_read v r = r >>= λ block. Ok (Some (record v { restat = block.0 }), lines_from block.1)

block_read : (v : EntryModel) (ls : List Line) (end : State) → in_lines first_end ls ≡ Ok end
    → (w : EntryModel) × (block_then v ls ≡ Ok (Some w, lines_from end))
block_read v ls end h = by_block (restat_block (Between ls)) (block_is ls ∙ h)
  where
    by_block : (r : Step Bool) → end_of r ≡ Ok end
        → (w : EntryModel) × (by_block_read v r ≡ Ok (Some w, lines_from end))
    by_block (Ok y) g = (
      record v { restat = y.0 },
      ap (λ (s : State). Ok (Some (record v { restat = y.0 }), lines_from s))
          (oks g),
    )
    by_block (Err f) g = absurd cc

block_bad : (v : EntryModel) (ls : List Line) (f : Fault) → in_lines first_end ls ≡ Err f
    → block_then v ls ≡ Err f
block_bad v ls f h = grind (arith, block_is, end_of, errs)

block_fault : (v : EntryModel) (ls : List Line) (f : Fault) → block_then v ls ≡ Err f
    → in_lines first_end ls ≡ Err f
block_fault v ls f h = grind (arith, block_is, end_of, errs)

as_fault : (ls : List Line) (f g : Fault) → g ≡ f → EntryComesLeftmost ls g → EntryComesLeftmost ls f
as_fault ls f g e s = subst (λ (h : Fault). EntryComesLeftmost ls h) e s

-- ---- the fault is in the first line

stuck_first : (l : Line) (ls : List Line) (f : Fault) → Stuck EntryPlain l.units l f
    → EntryComesLeftmost (l ∷ ls) (real f)
stuck_first l ls f s =
    let r = s.some [] in
    let read = plain_read (with_units (s.begun ++ text s.bytes) (written [])) [] s.value [] r.0 (r.1 tt) in
    let end = block_read s.value [] (Between []) refl in
    record {
      before = [];
      begun = s.begun;
      line = with_units s.left l;
      others = ls;
      cut = ap (λ (y : List TextUnit). with_units y l ∷ ls) s.cut;
      place = real_place f (with_units s.left l) s.place;
      some = inl (record {
        bytes = s.bytes;
        lines = [];
        plain_bytes = s.plain;
        offered =
            real_offers f s.bytes s.offered;
        plain_lines = refl;
        entry = end.0;
        rest = [];
        reads =
            read ∙ end.1;
      });
      refuses = λ m ms same apart.
          let n = s.refuses m.units m ms same in
          plain_bad (with_units (s.begun ++ m.units) m) ms (met_before m (real f)) n.0
          (n.1 apart ∙ ap Err (real_before f m));
    }

-- ---- the fault is in the block

goes_in_block : (l : Line) (v : EntryModel) (before : List Line) (begun : List TextUnit) (fault : Fault)
    → ((ms : List Line) → next_entry (l ∷ ms) ≡ block_then v ms) → BlockContinues first_end before begun fault
    → SomeEntry (l ∷ before) begun fault ⊎ LineTooMany (l ∷ before) begun
goes_in_block l v before begun fault reads (with_text bytes plain offered end some) =
    let xs = continues before begun (written bytes) [] in
    let read = block_read v xs end some in
    inl (record {
      bytes = bytes;
      lines = [];
      plain_bytes = plain;
      offered = offered;
      plain_lines = refl;
      entry = read.0;
      rest = lines_from end;
      reads = reads xs ∙ read.1;
    })
goes_in_block l v before begun fault reads (with_end spaces gap cut of_spaces of_blanks end some) =
    let xs = continues before spaces (written []) [] in
    let read = block_read v xs end some in
    inr (record {
      spaces = spaces;
      gap = gap;
      cut = cut;
      of_spaces = of_spaces;
      of_blanks = of_blanks;
      entry = read.0;
      rest = lines_from end;
      reads = reads xs ∙ read.1;
    })

stuck_in_block : (l : Line) (ls : List Line) (fault : Fault) (v : EntryModel)
    → ((ms : List Line) → next_entry (l ∷ ms) ≡ block_then v ms) → LinesStuck first_end ls fault
    → EntryComesLeftmost (l ∷ ls) fault
stuck_in_block l ls fault v reads s = record {
  before = l ∷ s.before;
  begun = s.begun;
  line = s.line;
  others = s.others;
  cut = ap (λ (y : List Line). l ∷ y) s.cut;
  place = s.place;
  some = goes_in_block l v s.before s.begun fault reads s.on;
  refuses = λ m ms same apart.
      let ys = continues s.before s.begun m ms in
      reads ys ∙ block_bad v ys (met_before m fault) (s.refuses m ms same);
}

plain_leftmost : (l : Line) (ls : List Line) (fault : Fault) → are_apart l.units ≡ true
    → kind_of l ≡ PlainLine → next_entry (l ∷ ls) ≡ Err fault → EntryComesLeftmost (l ∷ ls) fault
plain_leftmost l ls fault apart k h = by_line (entry_outcome l k)
  where
    by_last : (v : EntryModel) (t : Bool) → l.is_last ≡ t
        → ((ms : List Line) → next_entry (l ∷ ms) ≡ block_then v (lines_after l ms))
        → in_lines first_end (cond t (with_units [] l ∷ ls) ls) ≡ Err fault
        → EntryComesLeftmost (l ∷ ls) fault
    by_last v true last reads b = let r = in_blank first_end (with_units [] l) ls refl in
        no_fault (in_lines first_end (with_units [] l ∷ ls)) r.0 fault r.1 b
    by_last v false last reads b = stuck_in_block l ls fault v
        (λ ms. reads ms ∙ ap (λ (t : Bool). block_then v (cond t (with_units [] l ∷ ms) ms)) last)
        (block_stuck ls fault b)

    by_line : Outcome EntryPlain l.units l → EntryComesLeftmost (l ∷ ls) fault
    by_line (stuck f s) = as_fault (l ∷ ls) fault (real f)
        (errs (sym (plain_bad l ls (real f) k ((s.fails ls).1 apart)) ∙ h)) (stuck_first l ls f s)
    by_line (through v so) =
        let reads = λ (ms : List Line). plain_read l ms v (lines_after l ms) k ((so ms).1 tt) in
        by_last v l.is_last refl reads (block_fault v (lines_after l ls) fault (sym (reads ls) ∙ h))

-- ---- lines before an entry

some_entry : (s : EntryModel) × (rest : List Line)
    × (next_entry (written (codes "build x:dyndep") ∷ []) ≡ Ok (Some s, rest))
unfolding next_entry opening entry_line restat_block name_next section_next expect_sign word_of_form
    output_next no_path no_section added_inputs
some_entry = (_, _, refl)

-- The fault is the fault of the line's kind, whatever comes after its first unit.
of_kind : (l : Line) (ls : List Line) (fault : Fault) → offers fault [] ≡ true
    → NamesPlaceInEntry fault (with_units (after_spaces l.units) l)
    → ((m : Line) (ms : List Line) → element m.units ≡ element (after_spaces l.units)
    → next_entry (with_units (spaces_of l.units ++ m.units) m ∷ ms) ≡ Err (met_before m fault))
    → EntryComesLeftmost (l ∷ ls) fault
of_kind l ls fault offered place refuses =
    let sp = spaces_of l.units in
    let lines = written (codes "build x:dyndep") ∷ [] in
    let blank = by_kind_entry (with_units (sp ++ []) (written [])) lines BlankLine
    (kind_spaced sp [] (spaces_pass l.units) refl) ∙ (sym (next_is lines) ∙ some_entry.2) in
    record {
      before = [];
      begun = sp;
      line = with_units (after_spaces l.units) l;
      others = ls;
      cut = ap (λ (y : List TextUnit). with_units y l ∷ ls) (spaces_cut l.units);
      place = place;
      some = inl (record {
        bytes = [];
        lines = codes "build x:dyndep" ∷ [];
        plain_bytes = refl;
        offered =
            offered;
        plain_lines = refl;
        entry = some_entry.0;
        rest = some_entry.1;
        reads = blank;
      });
      refuses = λ m ms same apart. refuses m ms same;
    }

tab_leftmost : (l : Line) (ls : List Line) (tab : Spot) → kind_of l ≡ TabLine tab
    → EntryComesLeftmost (l ∷ ls) (Placed tab cause.Tab)
tab_leftmost l ls tab k =
    of_kind l ls (Placed tab cause.Tab) refl (tab_place l.units tab l.end k)
    (λ m ms same. (by_kind_entry (with_units (spaces_of l.units ++ m.units) m) ms (TabLine tab)
    (kind_replaced l.units m.units (element-front m.units (after_spaces l.units) same) ∙ k)))

-- an indented line with the given units after its spaces
abbrev unexpected_at : Line → Parse (Option EntryModel)
unexpected_at l = Err (Placed (record { line = (line_spot l).line; column = 1 }) cause.UnexpectedIndent)

indented_leftmost : (l : Line) (ls : List Line) → kind_of l ≡ IndentedLine
    → EntryComesLeftmost (l ∷ ls) (Placed (front_of l) cause.UnexpectedIndent)
indented_leftmost l ls k =
    of_kind l ls (Placed (front_of l) cause.UnexpectedIndent) refl refl
    (λ m ms same.
    let sees = element-front m.units (after_spaces l.units) same in
    by_kind_entry (with_units (spaces_of l.units ++ m.units) m) ms IndentedLine
    (kind_replaced l.units m.units sees ∙ k)
    ∙ ap (λ (y : List TextUnit). unexpected_at (with_units y m))
    (unspaced (spaces_of l.units) m.units (spaces_pass l.units) (no_space_same l.units m.units sees)))

-- after a line that adds nothing, and is not the last
goes_after : (l : Line) (before : List Line) (begun : List TextUnit) (fault : Fault)
    → ((ms : List Line) → next_entry (l ∷ ms) ≡ next_entry ms)
    → SomeEntry before begun fault ⊎ LineTooMany before begun
    → SomeEntry (l ∷ before) begun fault ⊎ LineTooMany (l ∷ before) begun
goes_after l before begun fault same h = grind arith

leftmost_after : (l : Line) (ls : List Line) (fault : Fault)
    → ((ms : List Line) → next_entry (l ∷ ms) ≡ next_entry ms) → EntryComesLeftmost ls fault
    → EntryComesLeftmost (l ∷ ls) fault
leftmost_after l ls fault same r = grind (arith, goes_after l r.before r.begun fault same r.some)

-- ---- the law

not_last : (t : Bool) (left ls : List Line) (f : Fault)
    → (cond t (ended left) (opening ls) >>= entry_from) ≡ Err f → (t ≡ false) × (next_entry ls ≡ Err f)
not_last t left ls f h = grind (arith, next_is)

leftmost : (ls : List Line) (fault : Fault) → list_all (λ l. are_apart l.units) ls ≡ true
    → next_entry ls ≡ Err fault → EntryComesLeftmost ls fault
leftmost [] fault apart h = no_fault (next_entry []) (None, []) fault nothing_next h
leftmost (l ∷ ls) fault apart h = by_kind (kind_of l) refl (λ e. leftmost ls fault (and_parts _ _ apart).1 e)
  where
    by_kind : (k : Kind) → kind_of l ≡ k → (next_entry ls ≡ Err fault → EntryComesLeftmost ls fault)
        → EntryComesLeftmost (l ∷ ls) fault
    by_kind CommentLine k rest =
        let last = not_last l.is_last (lines_after l (without_comments ls)) ls fault
        (sym (by_kind_entry l ls CommentLine k) ∙ h) in
        leftmost_after l ls fault (λ ms. by_kind_entry l ms CommentLine k
        ∙ (ap (λ (t : Bool). cond t (ended (lines_after l (without_comments ms))) (opening ms) >>=
        entry_from) last.0 ∙ sym (next_is ms))) (rest last.1)
    by_kind (TabLine tab) k rest = as_fault (l ∷ ls) fault (Placed tab cause.Tab)
        (errs (sym (by_kind_entry l ls (TabLine tab) k) ∙ h)) (tab_leftmost l ls tab k)
    by_kind IndentedLine k rest = as_fault (l ∷ ls) fault (Placed (front_of l) cause.UnexpectedIndent)
        (errs (sym (by_kind_entry l ls IndentedLine k) ∙ h)) (indented_leftmost l ls k)
    by_kind BlankLine k rest =
        let last = not_last l.is_last (lines_after l ls) ls fault (sym (by_kind_entry l ls BlankLine k) ∙ h)
        in
        leftmost_after l ls fault (λ ms. by_kind_entry l ms BlankLine k
        ∙ (ap (λ (t : Bool). cond t (ended (lines_after l ms)) (opening ms) >>= entry_from) last.0
        ∙ sym (next_is ms))) (rest last.1)
    by_kind PlainLine k rest = plain_leftmost l ls fault (and_parts _ _ apart).0 k h

pub entries_leftmost : DyndepFaultsAreLeftmost
entries_leftmost ls fault apart h = leftmost ls fault apart h
