-- Gathering the parts of a word or a value, one after another.
use Rattle.std.proofs.lemmas.Grind.{common_steps}
use Rattle.std.proofs.Common.{arith, ◌≡◌, ℕ, Bool, true, false, cond, eqb, List, [], ◌∷◌, ◌++◌, length}
use Rattle.std.proofs.Common.{take}
use Rattle.std.proofs.Common.{Some, None, refl, sym, ap, ◌∙◌}
use Rattle.std.specs.List.{take_while}
use Rattle.std.proofs.lemmas.Bool.{false≢true}
use Rattle.std.proofs.lemmas.List.{append-nil}
use Rattle.nj_text.specs.declared.spot.Spot.{Spot}
use Rattle.nj_text.specs.declared.fault.UnitFault.{UnitFault}
use Rattle.nj_text.specs.declared.fault.UnitFault.TheVariants as fault
use Rattle.nj_text.specs.declared.parts.TextKind.{TextKind}
use Rattle.nj_text.specs.declared.parts.TextKind.TheVariants as kind
use Rattle.nj_text.specs.Bytes.{is_ordinary_byte, begins_with}
use Rattle.nj_text.specs.Bytes.{drop_while}
use Rattle.nj_text.specs.Units.{Meaning, Ordinary, LineEnd, BadByte, BadEscape, TextUnit, is_ordinary_in}
use Rattle.nj_text.specs.Units.{Within, position_after, spot_after, unit_at, after_dollar, named, Found, cut}
use Rattle.nj_text.specs.declared.runs.Run.{Run}
use Rattle.nj_text.specs.Inside.Runs.{in_run}
use Rattle.nj_text.specs.Inside.Scans.{advance, units_within, Begins, BeginsBadly}
use Rattle.nj_text.specs.Words.{fault_of, next_fault, parts_of, PartModel, Text, longer_run, is_ordinary}
use Rattle.nj_text.specs.Inside.Gathering.{run_of, in_text, gathered, after_text, NoneInRun}
use Rattle.nj_text.proofs.Lists.{AllIn, AllIn-weaker, AllIn-take_while, drop_while-append, take_while-append}
use Rattle.nj_text.proofs.Cuts.{plain_units, cut-run}

-- ---- the end of a text

pub text_ends : (k : TextKind) (u : TextUnit) (us : List TextUnit) → in_text k u ≡ false
    → (gathered k (u ∷ us) ≡ []) × (after_text k (u ∷ us) ≡ u ∷ us)
text_ends k u us h = grind arith

-- a unit that does not belong to a text, at the place of a cursor
pub ends_by : (k : TextKind) (spot : Spot) (bytes : List ℕ) (m : Meaning) (n : ℕ) (remainder : List TextUnit)
    → Begins spot bytes m n remainder → in_text k (record { spot = spot; bytes = take n bytes; means = m })
    ≡ false
    → (gathered k (units_within spot bytes) ≡ [])
    × (after_text k (units_within spot bytes) ≡ units_within spot bytes)
ends_by k spot bytes m n remainder e h = grind arith

pub bad_at : (k : TextKind) (spot : Spot) (bytes : List ℕ) (m : Meaning) (n : ℕ) (remainder : List TextUnit)
    (f : UnitFault) → Begins spot bytes m n remainder
    → in_text k (record { spot = spot; bytes = take n bytes; means = m }) ≡ false → fault_of m spot ≡ Some f
    → next_fault (after_text k (units_within spot bytes)) ≡ Some f
bad_at k spot bytes m n remainder f e h g = grind arith

bad_byte_is_not_text : (k : TextKind) (spot : Spot) (bytes : List ℕ)
    → in_text k (record { spot = spot; bytes = bytes; means = BadByte }) ≡ false
bad_byte_is_not_text k spot bytes = grind arith

bad_escape_is_not_text : (k : TextKind) (spot : Spot) (bytes : List ℕ)
    → in_text k (record { spot = spot; bytes = bytes; means = BadEscape }) ≡ false
bad_escape_is_not_text k spot bytes = grind arith

line_end_is_not_text : (k : TextKind) (spot : Spot) (bytes : List ℕ)
    → in_text k (record { spot = spot; bytes = bytes; means = LineEnd }) ≡ false
line_end_is_not_text k spot bytes = grind arith

pub bad_byte_part : (k : TextKind) (spot : Spot) (bytes : List ℕ) → BeginsBadly spot bytes BadByte
    → next_fault (after_text k (units_within spot bytes)) ≡ Some (fault.BadByte spot)
bad_byte_part k spot bytes b = grind arith

pub bad_escape_part : (k : TextKind) (spot : Spot) (bytes : List ℕ) → BeginsBadly spot bytes BadEscape
    → next_fault (after_text k (units_within spot bytes)) ≡ Some (fault.BadEscape spot)
bad_escape_part k spot bytes b = grind arith

abbrev EndsText : TextKind → List TextUnit → Type 0
EndsText k us = (gathered k us ≡ []) × (after_text k us ≡ us) × (next_fault us ≡ None)

end_at : (k : TextKind) (spot : Spot) → EndsText k (units_within spot [])
unfolding cut
end_at k spot = grind arith

pub end_part : (k : TextKind) (spot : Spot) (bytes : List ℕ) → bytes ≡ []
    → EndsText k (units_within spot bytes)
end_part k spot bytes e = rw e (end_at k spot)

-- ---- a run of ordinary bytes

ordinary_in_run : (k : TextKind) (b : ℕ) → in_run (run_of k) b ≡ true → is_ordinary_byte b ≡ true
ordinary_in_run k b h = grind arith

run_is_text : (k : TextKind) (b : ℕ) (spot : Spot) → in_run (run_of k) b ≡ true
    → in_text k (record { spot = spot; bytes = b ∷ []; means = Ordinary b }) ≡ true
run_is_text k b spot h = grind arith

units_are_text : (k : TextKind) (spot : Spot) (xs : List ℕ) → AllIn (in_run (run_of k)) xs
    → AllIn (in_text k) (plain_units spot xs)
units_are_text k spot [] h = tt
units_are_text k spot (x ∷ xs) h = (run_is_text k x spot h.0, units_are_text k (advance 1 spot) xs h.1)

-- whether a meaning is the meaning of an ordinary byte
abbrev is_byte : Found → Bool
is_byte found = is_ordinary_in (λ c. true) found.0

named_is_not_byte : (bs : List ℕ) (t : Bool) → is_byte (named bs t) ≡ false
named_is_not_byte bs t = grind arith

choice_is_not_byte : (t : Bool) (x y : Found) → is_byte x ≡ false → is_byte y ≡ false
    → is_byte (cond t x y) ≡ false
choice_is_not_byte t x y h k = grind arith

dollar_is_not_byte : (bs : List ℕ) → is_byte (after_dollar bs) ≡ false
dollar_is_not_byte bs = grind arith

pub not_ordinary : (b : ℕ) (bs : List ℕ) → is_ordinary_byte b ≡ false → is_byte (unit_at b bs) ≡ false
not_ordinary b bs h = grind arith

-- after a run the text does not continue with an ordinary byte
front_is_not_byte : (t : TextUnit → Bool) (u : TextUnit) (us : List TextUnit)
    → (t u ≡ true → is_ordinary_in (λ c. true) u.means ≡ false)
    → begins_with is_ordinary (take_while t (u ∷ us)) ≡ false
front_is_not_byte t u us h = grind arith

run_is_over : (k : TextKind) (b : ℕ) (bs : List ℕ) (spot : Spot) (bytes : List ℕ) (t : Bool)
    → is_ordinary_byte b ≡ t → in_run (run_of k) b ≡ false
    → in_text k (record { spot = spot; bytes = bytes; means = (unit_at b bs).0 }) ≡ true
    → is_byte (unit_at b bs) ≡ false
run_is_over k b bs spot bytes t e h i = grind arith

run_ends : (k : TextKind) (spot : Spot) (ys : List ℕ) → NoneInRun (in_run (run_of k)) ys
    → begins_with is_ordinary (take_while (in_text k) (units_within spot ys)) ≡ false
unfolding cut
run_ends kind.Word spot [] h = refl
run_ends kind.Value spot [] h = refl
run_ends k spot (b ∷ bs) h =
    front_is_not_byte (in_text k) (record {
      spot = spot;
      bytes = b ∷ take (unit_at b bs).1 bs;
      means =
          (unit_at b bs).0;
    }) (cut (position_after Within (unit_at b bs).0) (unit_at b bs).1 (spot_after b spot)
    bs)
    (run_is_over k b bs spot (b ∷ take (unit_at b bs).1 bs) (is_ordinary_byte b) refl h)

-- the parts of a run, and of the units after it
run_parts : (spot : Spot) (x : ℕ) (xs : List ℕ) (us : List TextUnit) → begins_with is_ordinary us ≡ false
    → parts_of (plain_units spot (x ∷ xs) ++ us) ≡ Text (x ∷ xs) ∷ parts_of us
run_parts spot x [] us h = rw h refl
run_parts spot x (y ∷ ys) us h = ap (λ ps. longer_run x ps) (run_parts (advance 1 spot) y ys us h)

pub run_piece : (k : TextKind) (spot : Spot) (bytes xs ys : List ℕ) → bytes ≡ xs ++ ys
    → AllIn (in_run (run_of k)) xs → NoneInRun (in_run (run_of k)) ys → (xs ≡ [] → ⊥)
    → (gathered k (units_within spot bytes)
    ≡ Text xs ∷ gathered k (units_within (advance (length xs) spot) ys))
    × (after_text k (units_within spot bytes) ≡ after_text k (units_within (advance (length xs) spot) ys))
run_piece k spot bytes [] ys e h n f = absurd (f refl)
run_piece k spot bytes (x ∷ xs) ys e h n f =
    let there = units_within (advance (length (x ∷ xs)) spot) ys in
    let front = plain_units spot (x ∷ xs) in
    let all = units_are_text k spot (x ∷ xs) h in
    let cut_is : units_within spot bytes ≡ front ++ there =
    ap (units_within spot) e ∙ cut-run spot (x ∷ xs) ys
    (AllIn-weaker (in_run (run_of k)) is_ordinary_byte (x ∷ xs) (ordinary_in_run k) h) in (
      ap (λ us. parts_of (take_while (in_text k) us)) cut_is
          ∙ ap parts_of (take_while-append (in_text k) front there all)
          ∙ run_parts spot x xs (take_while (in_text k) there)
          (run_ends k (advance (length (x ∷ xs)) spot) ys n),
      ap (λ us. drop_while (in_text k) us) cut_is ∙ drop_while-append (in_text k) front there all,
    )

pub none_after : (p : ℕ → Bool) (bs : List ℕ) → NoneInRun p (drop_while p bs)
none_after p [] = tt
none_after p (b ∷ bs) = grind (arith, none_after p bs)

-- the run at a place, read off
pub run_read : (k : TextKind) (r : Run) (spot there : Spot) (bytes xs ys : List ℕ) → r ≡ run_of k
    → xs ≡ take_while (in_run r) bytes → ys ≡ drop_while (in_run r) bytes → bytes ≡ xs ++ ys
    → there ≡ advance (length xs) spot → eqb (length xs) 0 ≡ false
    → (gathered k (units_within spot bytes) ≡ Text xs ∷ gathered k (units_within there ys))
    × (after_text k (units_within spot bytes) ≡ after_text k (units_within there ys))
run_read k r spot there bytes xs ys is_r run remainder whole e nonempty =
    let all : AllIn (in_run (run_of k)) xs = rw (← is_r, run) (AllIn-take_while (in_run r) bytes) in
    let none : NoneInRun (in_run (run_of k)) ys = rw (← is_r, remainder) (none_after (in_run r) bytes) in
    rw e (run_piece k spot bytes xs ys whole all none
    (λ h. false≢true (sym nonempty ∙ ap (λ zs. eqb (length zs) 0) h)))

-- after the run at a place, no byte of the run follows
pub run_over : (k : TextKind) (r : Run) (bytes ys : List ℕ) → r ≡ run_of k → ys ≡ drop_while (in_run r) bytes
    → NoneInRun (in_run (run_of k)) ys
run_over k r bytes ys is_r remainder = rw (← is_r, remainder) (none_after (in_run r) bytes)

-- ---- turns of the loop

-- a part more
pub part_gathered : (front : List PartModel) (p : PartModel) (rest before all : List PartModel)
    → before ≡ p ∷ rest → front ++ before ≡ all → (front ++ p ∷ []) ++ rest ≡ all
part_gathered front p rest before all e h = grind (arith, common_steps)

pub all_gathered : (front before all : List PartModel) → before ≡ [] → front ++ before ≡ all → front ≡ all
all_gathered front before all e h = sym (append-nil front) ∙ ap (λ ps. front ++ ps) (sym e) ∙ h
