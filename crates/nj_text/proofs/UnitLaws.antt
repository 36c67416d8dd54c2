-- The laws of the cut.
use Rattle.std.proofs.lemmas.Grind.{common_steps}
use Rattle.std.proofs.Common.{◌≡◌, ℕ, zero, suc, Bool, true, Option, is_some, List, []}
use Rattle.std.proofs.Common.{◌∷◌, ◌++◌, take, drop, map, reverse, refl, sym, ap, ◌∙◌}
use Rattle.std.proofs.Common.{arith}
use Rattle.std.specs.List.{flat_map}
use Rattle.std.proofs.lemmas.List.{take-append-drop, reverse-append, reverse-reverse}
use Rattle.nj_text.specs.declared.spot.Spot.{Spot}
use Rattle.nj_text.specs.Units.{TextUnit, Position, AtStart, found_at, position_after, spot_after, first_spot}
use Rattle.nj_text.specs.Units.{units, cut}
use Rattle.nj_text.specs.Inside.Scans.{spots_after}
use Rattle.nj_text.specs.Lines.{Line, spot_of_first, lines_of, lines_before, ending_of}
use Rattle.nj_text.specs.Calls.{bytes_of}
use Rattle.nj_text.specs.Laws.{UnitsAreTheText, UnitsComeInPlace, counted_spot, LinesAreTheUnits, Mark}
use Rattle.nj_text.specs.Laws.{mark_by, mark_of, marks_of}

-- the units of the bytes after those that are skipped
bytes_of-cut : (position : Position) (skip : ℕ) (spot : Spot) (bs : List ℕ)
    → bytes_of (cut position skip spot bs) ≡ drop skip bs
unfolding cut
bytes_of-cut position zero spot [] = refl
bytes_of-cut position (suc skip) spot [] = refl
bytes_of-cut position zero spot (b ∷ bs) =
    let found = found_at position b bs in
    ap (λ rest. b ∷ take found.1 bs ++ rest)
    (bytes_of-cut (position_after position found.0) found.1 (spot_after b spot) bs)
    ∙ ap (λ rest. b ∷ rest) (take-append-drop found.1 bs)
bytes_of-cut position (suc skip) spot (b ∷ bs) = bytes_of-cut position skip (spot_after b spot) bs

pub are_the_text : UnitsAreTheText
are_the_text text = bytes_of-cut AtStart 0 first_spot text

abbrev first_bytes : List TextUnit → List ℕ
first_bytes [] = []
first_bytes (u ∷ us) = u.bytes

-- the bytes that are skipped come before the bytes of the units
place_in_cut : (position : Position) (skip : ℕ) (spot : Spot) (bs : List ℕ) (us vs : List TextUnit)
    (u : TextUnit) → cut position skip spot bs ≡ us ++ u ∷ vs
    → u.spot ≡ spots_after (take skip bs ++ bytes_of us) spot
unfolding cut
place_in_cut position zero spot [] [] vs u e = cc
place_in_cut position (suc skip) spot [] [] vs u e = cc
place_in_cut position zero spot [] (v ∷ []) vs u e = absurd cc
place_in_cut position zero spot [] (v ∷ w ∷ us) vs u e = absurd cc
place_in_cut position (suc skip) spot [] (v ∷ []) vs u e = absurd cc
place_in_cut position (suc skip) spot [] (v ∷ w ∷ us) vs u e = absurd cc
place_in_cut position zero spot (b ∷ bs) [] vs u e = sym (ap (λ ws. spot_of_first ws spot) e)
place_in_cut position zero spot (b ∷ bs) (v ∷ us) vs u e =
    let found = found_at position b bs in
    let bytes : b ∷ take found.1 bs ≡ v.bytes = ap first_bytes e in
    let rest : cut (position_after position found.0) found.1 (spot_after b spot) bs ≡ us ++ u ∷ vs =
    ap (drop 1) e in
    place_in_cut (position_after position found.0) found.1 (spot_after b spot) bs us vs u rest
    ∙ ap (λ xs. spots_after (xs ++ bytes_of us) spot) bytes
place_in_cut position (suc skip) spot (b ∷ bs) us vs u e =
    place_in_cut position skip (spot_after b spot) bs us vs u e

spots_after-push : (bytes : List ℕ) (b : ℕ) (spot : Spot)
    → spots_after (bytes ++ b ∷ []) spot ≡ spot_after b (spots_after bytes spot)
spots_after-push [] b spot = refl
spots_after-push (c ∷ bytes) b spot = spots_after-push bytes b (spot_after c spot)

counted-push : (bytes : List ℕ) (b : ℕ) → counted_spot (bytes ++ b ∷ []) ≡ spot_after b (counted_spot bytes)
counted-push bytes b = grind (arith, common_steps)

-- over the bytes from their end on
counted-reverse : (bytes : List ℕ) → spots_after (reverse bytes) first_spot ≡ counted_spot (reverse bytes)
counted-reverse [] = refl
counted-reverse (b ∷ bytes) =
    rw (reverse-append (b ∷ []) bytes) (spots_after-push (reverse bytes) b first_spot
    ∙ ap (spot_after b) (counted-reverse bytes) ∙ sym (counted-push (reverse bytes) b))

pub spots_count : (bytes : List ℕ) → spots_after bytes first_spot ≡ counted_spot bytes
spots_count bytes = grind (arith, reverse-reverse bytes, counted-reverse (reverse bytes), reverse bytes)

pub come_in_place : UnitsComeInPlace
come_in_place text us vs u e = place_in_cut AtStart 0 first_spot text us vs u e ∙ spots_count (bytes_of us)

-- the last of the units ends a line
abbrev EndsWithEnd : List TextUnit → Type 0
EndsWithEnd [] = ⊥
EndsWithEnd (u ∷ []) = is_some (ending_of u.means) ≡ true
EndsWithEnd (u ∷ v ∷ us) = EndsWithEnd (v ∷ us)

ends-before : (u : TextUnit) (us : List TextUnit) → EndsWithEnd us → EndsWithEnd (u ∷ us)
ends-before u us h = grind arith

cut-ends : (position : Position) (skip : ℕ) (spot : Spot) (bs : List ℕ)
    → EndsWithEnd (cut position skip spot bs)
unfolding cut
cut-ends position zero spot [] = refl
cut-ends position (suc skip) spot [] = refl
cut-ends position zero spot (b ∷ bs) =
    let found = found_at position b bs in
    ends-before (record { spot = spot; bytes = b ∷ take found.1 bs; means = found.0 })
    (cut (position_after position found.0) found.1 (spot_after b spot) bs)
    (cut-ends (position_after position found.0) found.1 (spot_after b spot) bs)
cut-ends position (suc skip) spot (b ∷ bs) = cut-ends position skip (spot_after b spot) bs

-- a unit before lines that represent some marks
marks-before : (ending : Option Bool) (u : TextUnit) (ls : List Line) (m : Mark) (ms : List Mark)
    → flat_map marks_of ls ≡ m ∷ ms → flat_map marks_of (lines_before ending u ls) ≡ mark_by ending u ∷ m ∷ ms
marks-before ending u ls m ms e = grind arith

marks-last : (ending : Option Bool) (u : TextUnit) → is_some ending ≡ true
    → flat_map marks_of (lines_before ending u []) ≡ mark_by ending u ∷ []
marks-last ending u h = grind arith

marks_of-lines : (us : List TextUnit) → EndsWithEnd us → flat_map marks_of (lines_of us) ≡ map mark_of us
marks_of-lines [] h = absurd h
marks_of-lines (u ∷ []) h = marks-last (ending_of u.means) u h
marks_of-lines (u ∷ v ∷ us) h = marks-before (ending_of u.means) u (lines_of (v ∷ us)) (mark_of v)
    (map mark_of us) (marks_of-lines (v ∷ us) h)

pub are_the_units : LinesAreTheUnits
are_the_units text = marks_of-lines (units text) (cut-ends AtStart 0 first_spot text)
