-- Each entry of a dyndep file takes at least a line, and so does the version.
use Rattle.std.proofs.Common.{◌≡◌, ℕ, suc, ◌<◌, ◌≤◌, Bool, true, false, cond, Option, Some, Ok, List}
use Rattle.std.proofs.Common.{[], ◌∷◌, length, refl, ap, arith}
use Rattle.nj_text.specs.Lines.{Line, text_lines, lines_after, Kind, CommentLine, TabLine}
use Rattle.nj_text.specs.Lines.{BlankLine, IndentedLine, PlainLine, kind_of}
use Rattle.nj_text.specs.Calls.{is_empty, without_comments}
use Rattle.nj_manifest.specs.declared.block_lines.Keys.{Keys}
use Rattle.nj_manifest.specs.Statements.{LineModel}
use Rattle.nj_manifest.specs.Openings.{Parse, opening_by, opening, or_last}
use Rattle.nj_manifest.specs.Grammar.{BlockForm}
use Rattle.nj_manifest.specs.Dyndeps.{EntryModel, version_next, next_entry}
use Rattle.nj_manifest.specs.Dyndeps.{left_entry}
use Rattle.nj_manifest.specs.DyndepForms.{NextEntryForm}
use Rattle.nj_manifest.proofs.Choices.{ended}
use Rattle.nj_manifest.proofs.Framing.{bind-ok}
use Rattle.nj_manifest.proofs.Starts.{ahead}
use Rattle.nj_manifest.proofs.Consumed.{text_has_bytes}
use Rattle.nj_manifest.proofs.DyndepEnds.{oks, version-ends}
use Rattle.nj_manifest.proofs.DyndepNexts.{next_entries_are}

-- ---- after a line

no_fewer : (l : Line) (ls : List Line) → ahead (lines_after l ls) ≤ ahead (l ∷ ls)
no_fewer l ls = grind arith

fewer : (l : Line) (ls : List Line) → kind_of l ≡ PlainLine → ahead (lines_after l ls) < ahead (l ∷ ls)
fewer l ls k = grind arith

-- before a line that is not the last
one_more : (l : Line) (ls : List Line) → l.is_last ≡ false → ahead (l ∷ ls) ≡ suc (ahead ls)
one_more l ls e = ap (λ (t : Bool). cond t (cond (is_empty l.units) 0 1) (suc (ahead ls))) e

-- ---- entries

block-within : {allowed : Keys} {ls rest : List Line} {lines : List LineModel}
    → BlockForm allowed ls lines rest → ahead rest ≤ ahead ls
block-within (BlockForm.line {l = l} {ls = ls} f others) = grind (arith, no_fewer l ls, block-within others)
block-within (BlockForm.comment {l = l} {ls = ls} k e others) = let one = one_more l ls e in let more =
    block-within others in omega (arith, one, more)
block-within (BlockForm.last_comment {l = l} {ls = ls} k e) = rw e (omega arith)
block-within (BlockForm.blank {l = l} {ls = ls} k) = no_fewer l ls
block-within (BlockForm.plain k) = omega arith
block-within BlockForm.nothing = omega arith

form-takes : {ls rest : List Line} {entry : EntryModel} → NextEntryForm ls (Some entry) rest
    → ahead rest < ahead ls
form-takes (NextEntryForm.statement {l = l} {ls = ls} k f b) = let one = fewer l ls k in let more =
    block-within b.block in omega (arith, one, more)
form-takes (NextEntryForm.blank {l = l} {ls = ls} k e others) = let one = one_more l ls e in let more =
    form-takes others in omega (arith, one, more)
form-takes (NextEntryForm.comment {l = l} {ls = ls} k e others) = let one = one_more l ls e in let more =
    form-takes others in omega (arith, one, more)

-- An entry takes at least a line.
pub entry-takes : (ls : List Line) (entry : EntryModel) (rest : List Line)
    → next_entry ls ≡ Ok (Some entry, rest) → ahead rest < ahead ls
entry-takes ls entry rest h = form-takes ((next_entries_are ls (Some entry) rest).0 h)

-- ---- the version

-- a line with which a statement begins is plain, and from it on there are no more lines
abbrev BeginsWithin : List Line → Parse (Option Line) → Type 0
BeginsWithin ls found = (l : Line) (others : List Line) → found ≡ Ok (Some l, others)
    → (kind_of l ≡ PlainLine) × (ahead (l ∷ others) ≤ ahead ls)

-- where the lines end, no line is begun
not_begun : {l : Line} {left others : List Line}
    → ◌≡◌ {A = Parse (Option Line)} (ended left) (Ok (Some l, others)) → ⊥
not_begun {l = l} h = grind arith

opening-later : (m : Line) (ls left : List Line) → BeginsWithin ls (opening ls)
    → BeginsWithin (m ∷ ls) (or_last m (ended left) (opening ls))
opening-later m ls left ih = λ l others h. by_last m.is_last refl l others h
  where
    by_last : (t : Bool) → m.is_last ≡ t → BeginsWithin (m ∷ ls) (cond t (ended left) (opening ls))
    by_last true e l others g = absurd (not_begun g)
    by_last false e l others g =
        let more = ih l others g in
        let one = one_more m ls e in
        let within = more.1 in
        (more.0, omega (arith, one, within))

begun-here : (m : Line) (ls : List Line) → kind_of m ≡ PlainLine → BeginsWithin (m ∷ ls) (Ok (Some m, ls))
begun-here m ls k l others h = grind arith

opening-kind : (k : Kind) (m : Line) (ls : List Line) → kind_of m ≡ k → BeginsWithin ls (opening ls)
    → BeginsWithin (m ∷ ls) (opening_by k m ls (opening ls))
opening-kind CommentLine m ls k ih = opening-later m ls (lines_after m (without_comments ls)) ih
opening-kind (TabLine tab) m ls k ih = λ l others h. absurd cc
opening-kind IndentedLine m ls k ih = λ l others h. absurd cc
opening-kind BlankLine m ls k ih = opening-later m ls (lines_after m ls) ih
opening-kind PlainLine m ls k ih = begun-here m ls k

opening-begins : (ls : List Line) → BeginsWithin ls (opening ls)
unfolding opening
opening-begins [] = λ l others h. absurd (not_begun h)
opening-begins (m ∷ ls) = opening-kind (kind_of m) m ls refl (opening-begins ls)

-- The version takes a line.
pub version-takes : (ls rest : List Line) → version_next ls ≡ Ok rest → ahead rest < ahead ls
unfolding version_next
version-takes ls rest h = grind (arith, bind-ok, ahead, opening-begins, oks, version-ends, fewer)

-- So does the next entry that a parser reads from the lines.
pub left_entry-takes : (version_read : Bool) (ls : List Line) (entry : EntryModel) (rest : List Line)
    → left_entry version_read ls ≡ Ok (Some entry, rest) → ahead rest < ahead ls
left_entry-takes version_read ls entry rest h = grind (arith, entry-takes, bind-ok, version-takes)

-- The lines of a text are few enough.
pub text-ahead : (text : List ℕ) → ahead (text_lines text) < suc (length text)
text-ahead text = let h = text_has_bytes text in omega (arith, h)
