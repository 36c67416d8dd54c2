-- Each unit of a text has a place of its own.
use Rattle.std.proofs.Common.{◌≡◌, ℕ, zero, suc, ◌<◌, Bool, true, false, cond, not, Option, Some}
use Rattle.std.proofs.Common.{None, ◌⊎◌, List, [], ◌∷◌, refl, ap, arith}
use Rattle.std.specs.List.{list_all}
use Rattle.std.proofs.lemmas.Bool.{and_parts, and_from}
use Rattle.nj_text.specs.declared.spot.Spot.{Spot}
use Rattle.nj_text.specs.Units.{TextUnit, Position, AtStart, first_spot, found_at, position_after, spot_after}
use Rattle.nj_text.specs.Units.{cut}
use Rattle.nj_text.specs.Lines.{Line, ending_of, lines_before, lines_of, text_lines, with_units, lines_after}
use Rattle.nj_text.specs.Lines.{kind_of}
use Rattle.nj_text.specs.Calls.{is_comment, without_comments}
use Rattle.nj_manifest.specs.declared.block_lines.Keys.{Keys}
use Rattle.nj_manifest.specs.Statements.{LineModel}
use Rattle.nj_manifest.specs.Grammar.{BlockForm}
use Rattle.nj_manifest.specs.Dyndeps.{EntryModel, is_same_spot}
use Rattle.nj_manifest.specs.DyndepForms.{NextEntryForm}
use Rattle.nj_manifest.specs.DyndepVersions.{VersionForm}
use Rattle.nj_manifest.specs.DyndepLeftmost.{are_apart, AreApart, UnitsOfStringsAreApart}
use Rattle.nj_manifest.proofs.DyndepNexts.{next_entries_are}
use Rattle.nj_manifest.proofs.DyndepVersionForms.{versions_are}

-- ---- places, one before the other

abbrev Before : Spot → Spot → Type 0
Before a b = (a.line < b.line) ⊎ ((a.line ≡ b.line) × (a.column < b.column))

before-apart : (a b : Spot) → Before a b → is_same_spot b a ≡ false
before-apart a b h = grind arith

before-next : (c : ℕ) (a b : Spot) → Before a b → Before a (spot_after c b)
before-next c a b h = grind arith

next-is-after : (c : ℕ) (a : Spot) → Before a (spot_after c a)
next-is-after c a = grind arith

-- ---- the units of a text

abbrev elsewhere : Spot → TextUnit → Bool
elsewhere spot u = not (is_same_spot u.spot spot)

cut-elsewhere : (position : Position) (skip : ℕ) (spot : Spot) (bs : List ℕ) (a : Spot) → Before a spot
    → list_all (elsewhere a) (cut position skip spot bs) ≡ true
unfolding cut
cut-elsewhere position skip spot [] a h = and_from _ _ (ap not (before-apart a spot h)) refl
cut-elsewhere position zero spot (b ∷ bs) a h =
    let found = found_at position b bs in
    and_from _ _ (ap not (before-apart a spot h))
    (cut-elsewhere (position_after position found.0) found.1 (spot_after b spot) bs a
    (before-next b a spot h))
cut-elsewhere position (suc skip) spot (b ∷ bs) a h =
    cut-elsewhere position skip (spot_after b spot) bs a (before-next b a spot h)

cut-apart : (position : Position) (skip : ℕ) (spot : Spot) (bs : List ℕ)
    → are_apart (cut position skip spot bs) ≡ true
unfolding cut
cut-apart position skip spot [] = refl
cut-apart position zero spot (b ∷ bs) =
    let found = found_at position b bs in
    and_from _ _ (cut-elsewhere (position_after position found.0) found.1 (spot_after b spot) bs spot
    (next-is-after b spot)) (cut-apart (position_after position found.0) found.1 (spot_after b spot) bs)
cut-apart position (suc skip) spot (b ∷ bs) = cut-apart position skip (spot_after b spot) bs

-- ---- lines

-- a test that all units pass is passed by the units of each line
lines-all : (p : TextUnit → Bool) (us : List TextUnit) → list_all p us ≡ true
    → list_all (λ (l : Line). list_all p l.units) (lines_of us) ≡ true
lines-all p [] h = refl
lines-all p (u ∷ us) h = by_end (ending_of u.means) (lines_of us) (lines-all p us (and_parts _ _ h).1)
  where
    by_end : (e : Option Bool) (ls : List Line) → list_all (λ (l : Line). list_all p l.units) ls ≡ true
        → list_all (λ (l : Line). list_all p l.units) (lines_before e u ls) ≡ true
    by_end None [] g = refl
    by_end None (l ∷ ls) g = let parts = and_parts (list_all p l.units) _ g in
        and_from _ _ (and_from _ _ (and_parts _ _ h).0 parts.0) parts.1
    by_end (Some last) ls g = g

lines-apart : (us : List TextUnit) → are_apart us ≡ true → AreApart (lines_of us)
lines-apart [] h = refl
lines-apart (u ∷ us) h = by_end (ending_of u.means) (lines_of us) (lines-apart us (and_parts _ _ h).1)
    (lines-all (elsewhere u.spot) us (and_parts _ _ h).0)
  where
    by_end : (e : Option Bool) (ls : List Line) → AreApart ls
        → list_all (λ (l : Line). list_all (elsewhere u.spot) l.units) ls ≡ true
        → AreApart (lines_before e u ls)
    by_end None [] g f = refl
    by_end None (l ∷ ls) g f = let parts = and_parts (are_apart l.units) _ g in
        and_from _ _ (and_from _ _ (and_parts (list_all (elsewhere u.spot) l.units) _ f).0 parts.0) parts.1
    by_end (Some last) ls g f = g

text-apart : (text : List ℕ) → AreApart (text_lines text)
text-apart text = lines-apart (cut AtStart 0 first_spot text) (cut-apart AtStart 0 first_spot text)

-- ---- lines that are left

tail-apart : (l : Line) (ls : List Line) → AreApart (l ∷ ls) → AreApart ls
tail-apart l ls h = (and_parts (are_apart l.units) _ h).1

empty-apart : (t : Bool) (l : Line) (ls : List Line) → AreApart ls
    → AreApart (cond t (with_units [] l ∷ ls) ls)
empty-apart t l ls h = grind arith

after-apart : (l : Line) (ls : List Line) → AreApart (l ∷ ls) → AreApart (lines_after l ls)
after-apart l ls h = empty-apart l.is_last l ls (tail-apart l ls h)

comments-apart : (ls : List Line) → AreApart ls → AreApart (without_comments ls)
comments-apart [] h = h
comments-apart (l ∷ ls) h = by_comment (is_comment (kind_of l)) (comments-apart ls (tail-apart l ls h))
  where
    by_comment : (t : Bool) → AreApart (without_comments ls)
        → AreApart (cond t (lines_after l (without_comments ls)) (l ∷ ls))
    by_comment true g = empty-apart l.is_last l (without_comments ls) g
    by_comment false g = h

block-apart : {allowed : Keys} {ls rest : List Line} {lines : List LineModel}
    → BlockForm allowed ls lines rest → AreApart ls → AreApart rest
block-apart (BlockForm.line {l = l} {ls = ls} f others) h = block-apart others (after-apart l ls h)
block-apart (BlockForm.comment {l = l} {ls = ls} k e others) h = block-apart others (tail-apart l ls h)
block-apart (BlockForm.last_comment {l = l} {ls = ls} k e) h =
    empty-apart l.is_last l (without_comments ls) (comments-apart ls (tail-apart l ls h))
block-apart (BlockForm.blank {l = l} {ls = ls} k) h = after-apart l ls h
block-apart (BlockForm.plain k) h = h
block-apart BlockForm.nothing h = h

entry-apart : {ls rest : List Line} {found : Option EntryModel} → NextEntryForm ls found rest → AreApart ls
    → AreApart rest
entry-apart (NextEntryForm.statement {l = l} {ls = ls} k f b) h = block-apart b.block (after-apart l ls h)
entry-apart (NextEntryForm.blank {l = l} {ls = ls} k e others) h = entry-apart others (tail-apart l ls h)
entry-apart (NextEntryForm.comment {l = l} {ls = ls} k e others) h = entry-apart others (tail-apart l ls h)
entry-apart (NextEntryForm.last_blank {l = l} {ls = ls} k e) h = after-apart l ls h
entry-apart (NextEntryForm.last_comment {l = l} {ls = ls} k e) h =
    empty-apart l.is_last l (without_comments ls) (comments-apart ls (tail-apart l ls h))
entry-apart NextEntryForm.nothing h = h

version-apart : {ls rest : List Line} → VersionForm ls rest → AreApart ls → AreApart rest
version-apart (VersionForm.version {l = l} {ls = ls} k f) h = after-apart l ls h
version-apart (VersionForm.blank {l = l} {ls = ls} k e others) h = version-apart others (tail-apart l ls h)
version-apart (VersionForm.comment {l = l} {ls = ls} k e others) h = version-apart others (tail-apart l ls h)

pub units_are_apart : UnitsOfStringsAreApart
units_are_apart = (
  text-apart,
  λ ls rest apart h. version-apart ((versions_are ls rest).0 h) apart,
  λ ls found rest apart h. entry-apart ((next_entries_are ls found rest).0 h) apart,
)
