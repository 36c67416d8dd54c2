-- The kind of a line, by its leading spaces and the unit after them.
use Rattle.std.proofs.lemmas.Grind.{common_steps}
use Rattle.std.proofs.Common.{arith, ◌≡◌, Bool, true, false, List, ◌++◌, take, ◌∙◌}
use Rattle.std.specs.List.{take_while}
use Rattle.nj_text.specs.declared.spot.Spot.{Spot}
use Rattle.nj_text.specs.Bytes.{drop_while, is_identifier_byte, begins_with}
use Rattle.nj_text.specs.Units.{Meaning, TextUnit, is_ordinary_in}
use Rattle.nj_text.specs.Lines.{Kind, TabLine, IndentedLine, PlainLine, is_space_unit, kind_with}
use Rattle.nj_text.specs.Lines.{kind_after_spaces, spot_of_first}
use Rattle.nj_text.specs.Inside.Meanings.{text_kind}
use Rattle.nj_text.specs.Words.{in_identifier}
use Rattle.nj_text.proofs.Lists.{AllIn, AllIn-take_while}
use Rattle.nj_manifest.proofs.LeftmostRuns.{both_parts, after_stops, run_passed}
use Rattle.nj_manifest.proofs.LeftmostFronts.{front, begins-same}

-- the kind of a line with the given units
abbrev pub kind_units : List TextUnit → Kind
kind_units us = kind_after_spaces (drop_while is_space_unit us) (begins_with is_space_unit us)

abbrev pub spaces_of : List TextUnit → List TextUnit
spaces_of us = take_while is_space_unit us

abbrev pub after_spaces : List TextUnit → List TextUnit
after_spaces us = drop_while is_space_unit us

pub spaces_cut : (us : List TextUnit) → us ≡ spaces_of us ++ after_spaces us
spaces_cut us = both_parts is_space_unit us

pub spaces_pass : (us : List TextUnit) → AllIn is_space_unit (spaces_of us)
spaces_pass us = AllIn-take_while is_space_unit us

pub spaces_stop : (us : List TextUnit) → begins_with is_space_unit (after_spaces us) ≡ false
spaces_stop us = after_stops is_space_unit us

spaced_begins : (sp x : List TextUnit) → begins_with is_space_unit x ≡ false
    → begins_with is_space_unit (sp ++ x) ≡ begins_with is_space_unit sp
spaced_begins sp x h = grind arith

pub unspaced : (sp x : List TextUnit) → AllIn is_space_unit sp → begins_with is_space_unit x ≡ false
    → after_spaces (sp ++ x) ≡ x
unspaced sp x a h = run_passed is_space_unit sp x a h

-- after any number of spaces
pub kind_spaced : (sp x : List TextUnit) → AllIn is_space_unit sp → begins_with is_space_unit x ≡ false
    → kind_units (sp ++ x) ≡ kind_after_spaces x (begins_with is_space_unit sp)
kind_spaced sp x a h = grind (arith, unspaced, spaced_begins)

-- the kind of the whole is that after its own spaces
pub kind_here : (us : List TextUnit) → kind_units us
    ≡ kind_after_spaces (after_spaces us) (begins_with is_space_unit (spaces_of us))
kind_here us = grind arith

kind_head : (x : List TextUnit) (t : Bool) → kind_after_spaces x t ≡ kind_after_spaces (take 1 x) t
kind_head x t = grind arith

kind_same : (x y : List TextUnit) (t : Bool) → front x ≡ front y
    → kind_after_spaces x t ≡ kind_after_spaces y t
kind_same x y t h = grind arith

pub no_space_same : (us x : List TextUnit) → front x ≡ front (after_spaces us)
    → begins_with is_space_unit x ≡ false
no_space_same us x h = begins-same is_space_unit x (after_spaces us) h ∙ spaces_stop us

-- units in place of those after the spaces
pub kind_replaced : (us x : List TextUnit) → front x ≡ front (after_spaces us)
    → kind_units (spaces_of us ++ x) ≡ kind_units us
kind_replaced us x h = grind (arith, kind_spaced, spaces_pass, no_space_same, kind_same, kind_here)

-- ---- plain lines

indented_kind : (m : Meaning) (spot : Spot) → kind_with m spot true ≡ PlainLine → ⊥
indented_kind m spot h = grind arith

indented_plain : (us : List TextUnit) → kind_after_spaces us true ≡ PlainLine → ⊥
indented_plain us h = grind arith

pub plain_begins : (us : List TextUnit) → kind_units us ≡ PlainLine → begins_with is_space_unit us ≡ false
plain_begins us h = grind arith

unspaced_kind : (us : List TextUnit) → begins_with is_space_unit us ≡ false
    → kind_units us ≡ kind_after_spaces us false
unspaced_kind us h = grind arith

pub plain_same : (us x : List TextUnit) → kind_units us ≡ PlainLine → front x ≡ front us
    → kind_units x ≡ PlainLine
plain_same us x h e = grind (arith, common_steps)

-- ---- lines that begin with a name

identifier_kind : (m : Meaning) (spot : Spot) (t : Bool) → is_ordinary_in is_identifier_byte m ≡ true
    → kind_with m spot t ≡ text_kind t
identifier_kind m spot t h = grind arith

pub identifier_no_space : (x : List TextUnit) → begins_with in_identifier x ≡ true
    → begins_with is_space_unit x ≡ false
identifier_no_space x h = grind arith

identifier_text : (x : List TextUnit) (t : Bool) → begins_with in_identifier x ≡ true
    → kind_after_spaces x t ≡ text_kind t
identifier_text x t h = grind arith

pub identifier_plain : (x : List TextUnit) → begins_with in_identifier x ≡ true → kind_units x ≡ PlainLine
identifier_plain x h = unspaced_kind x (identifier_no_space x h) ∙ identifier_text x false h

pub identifier_spaced : (sp x : List TextUnit) → AllIn is_space_unit sp → begins_with in_identifier x ≡ true
    → kind_units (sp ++ x) ≡ text_kind (begins_with is_space_unit sp)
identifier_spaced sp x a h = grind (arith, kind_spaced, identifier_no_space, identifier_text)

-- an indented line begins with a space
unindented_kind : (m : Meaning) (spot : Spot) → kind_with m spot false ≡ IndentedLine → ⊥
unindented_kind m spot h = grind arith

unindented : (us : List TextUnit) (t : Bool) → kind_after_spaces us t ≡ IndentedLine → t ≡ true
unindented us t h = grind arith

pub indented_spaces : (us : List TextUnit) → kind_units us ≡ IndentedLine
    → begins_with is_space_unit (spaces_of us) ≡ true
indented_spaces us h = grind arith

-- ---- tabs

tab_spot : (m : Meaning) (spot : Spot) (t : Bool) (tab : Spot) → kind_with m spot t ≡ TabLine tab → tab ≡ spot
tab_spot m spot t tab h = grind arith

tab_first : (us : List TextUnit) (t : Bool) (tab end : Spot) → kind_after_spaces us t ≡ TabLine tab
    → tab ≡ spot_of_first us end
tab_first us t tab end h = grind arith

pub tab_place : (us : List TextUnit) (tab end : Spot) → kind_units us ≡ TabLine tab
    → tab ≡ spot_of_first (after_spaces us) end
tab_place us tab end h = grind arith
