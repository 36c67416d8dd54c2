-- The law of parts: they are in the bytes of their units from left to right.
use Rattle.std.proofs.lemmas.Grind.{common_steps}
use Rattle.std.proofs.Common.{◌≡◌, ℕ, zero, suc, ◌+◌, Bool, true, false, cond, ◌&&◌, List, [], ◌∷◌, ◌++◌}
use Rattle.std.proofs.Common.{length, take, map, refl, sym, ap, ◌∙◌, subst, append_assoc, eqb, arith}
use Rattle.std.specs.List.{take_while}
use Rattle.std.proofs.Math.Seq.{take-append-add, take-append_seam}
use Rattle.std.proofs.lemmas.List.{append-nil}
use Rattle.nj_text.specs.declared.spot.Spot.{Spot}
use Rattle.nj_text.specs.Bytes.{is_identifier_byte, is_name_byte, is_escapable, begins_with}
use Rattle.nj_text.specs.Bytes.{drop_while}
use Rattle.nj_text.specs.Units.{Meaning, Ordinary, Escape, Reference, TextUnit, is_ordinary_in, Found}
use Rattle.nj_text.specs.Units.{named, after_dollar, unit_at, opening, Position, AtStart}
use Rattle.nj_text.specs.Units.{found_at, position_after, spot_after, first_spot, cut}
use Rattle.nj_text.specs.Words.{PartModel, Text, longer_run, part_before, parts_of, is_ordinary}
use Rattle.nj_text.specs.Calls.{bytes_of}
use Rattle.nj_text.specs.Laws.{part_bytes, AreInOrder, PartsComeInOrder}
use Rattle.nj_text.specs.Inside.Scans.{is_first}
use Rattle.nj_text.proofs.Lists.{take_while-cons_yes, take_while-cons_no}
use Rattle.nj_text.proofs.UnitLaws.{are_the_text}

-- ---- the meaning of a unit is in its bytes

abbrev Denotes : Meaning → List ℕ → Type 0
Denotes (Ordinary b) bytes = bytes ≡ b ∷ []
Denotes (Escape b) bytes = (dollar : ℕ) × (bytes ≡ dollar ∷ b ∷ [])
Denotes (Reference name) bytes = (front : List ℕ) × (back : List ℕ) × (bytes ≡ front ++ name ++ back)
Denotes m bytes = Unit {0}

-- the unit that was found at the first byte
abbrev GivesFound : ℕ → List ℕ → Found → Type 0
GivesFound b bs found = Denotes found.0 (b ∷ take found.1 bs)

choice : (b : ℕ) (bs : List ℕ) (t : Bool) (x y : Found) → GivesFound b bs x → GivesFound b bs y
    → GivesFound b bs (cond t x y)
choice b bs t x y h k = grind arith

run_and_rest : (p : ℕ → Bool) (xs : List ℕ) → xs ≡ take_while p xs ++ drop_while p xs
run_and_rest p [] = refl
run_and_rest p (x ∷ xs) = by_test (p x) refl (run_and_rest p xs)
  where
    by_test : (t : Bool) → p x ≡ t → xs ≡ take_while p xs ++ drop_while p xs
        → x ∷ xs ≡ take_while p (x ∷ xs) ++ cond t (drop_while p xs) (x ∷ xs)
    by_test true e h = rw (take_while-cons_yes p x xs e) (ap (λ zs. x ∷ zs) h)
    by_test false e h = rw (take_while-cons_no p x xs e) refl

-- a name in braces, after the `$` and the `{`
named_gives : (b c : ℕ) (cs name rest : List ℕ) (closed : Bool) → cs ≡ name ++ rest
    → GivesFound b (c ∷ cs) (named name closed)
named_gives b c cs [] rest closed e = tt
named_gives b c cs (x ∷ xs) rest false e = tt
named_gives b c cs (x ∷ xs) rest true e =
    let long : length (x ∷ xs) + 2 ≡ length (c ∷ x ∷ xs) + 1 = omega arith in
    let whole : take (length (x ∷ xs) + 2) (c ∷ cs) ≡ (c ∷ x ∷ xs) ++ take 1 rest =
    ap (λ zs. take (length (x ∷ xs) + 2) (c ∷ zs)) e ∙ ap (λ n. take n ((c ∷ x ∷ xs) ++ rest)) long
    ∙ take-append-add (c ∷ x ∷ xs) rest 1 in
    (b ∷ c ∷ [], take 1 rest, ap (λ zs. b ∷ zs) whole)

-- a bare name, after the `$`
name_gives : (b c : ℕ) (cs : List ℕ) → GivesFound b (c ∷ cs)
    (Reference (c ∷ take_while is_name_byte cs), suc (length (take_while is_name_byte cs)))
name_gives b c cs =
    let name = take_while is_name_byte cs in
    let whole : take (length name) cs ≡ name =
    ap (take (length name)) (run_and_rest is_name_byte cs)
    ∙ take-append_seam name (drop_while is_name_byte cs) in
    (b ∷ [], [], ap (λ zs. b ∷ c ∷ zs) (whole ∙ sym (append-nil name)))

dollar_gives : (b : ℕ) (bs : List ℕ) → GivesFound b bs (after_dollar bs)
dollar_gives b [] = tt
dollar_gives b (c ∷ cs) =
    let bs = c ∷ cs in
    choice b bs (eqb c 10) _ _ tt
    (choice b bs (eqb c 13 && is_first 10 cs) _ _ tt
    (choice b bs (eqb c 123) _ _ (named_gives b c cs (take_while is_identifier_byte cs)
    (drop_while is_identifier_byte cs) (is_first 125 (drop_while is_identifier_byte cs))
    (run_and_rest is_identifier_byte cs))
    (choice b bs (is_escapable c) _ _ (b, refl) (choice b bs (is_name_byte c) _ _ (name_gives b c cs) tt))))

unit_gives : (b : ℕ) (bs : List ℕ) → GivesFound b bs (unit_at b bs)
unit_gives b bs = grind (arith, choice, eqb, dollar_gives)

opening_gives : (m : Meaning) (bytes : List ℕ) → Denotes m bytes → Denotes (opening m) bytes
opening_gives m bytes h = grind arith

found_gives : (position : Position) (b : ℕ) (bs : List ℕ) → GivesFound b bs (found_at position b bs)
found_gives position b bs = grind (arith, choice, eqb, opening_gives, take, unit_gives)

abbrev AllGive : List TextUnit → Type 0
AllGive [] = Unit {0}
AllGive (u ∷ us) = Denotes u.means u.bytes × AllGive us

cut_gives : (position : Position) (skip : ℕ) (spot : Spot) (bs : List ℕ) → AllGive (cut position skip spot bs)
unfolding cut
cut_gives position zero spot [] = (tt, tt)
cut_gives position (suc skip) spot [] = (tt, tt)
cut_gives position zero spot (b ∷ bs) =
    let found = found_at position b bs in
    (found_gives position b bs, cut_gives (position_after position found.0) found.1 (spot_after b spot) bs)
cut_gives position (suc skip) spot (b ∷ bs) = cut_gives position skip (spot_after b spot) bs

front_gives : (us vs : List TextUnit) → AllGive (us ++ vs) → AllGive us
front_gives [] vs h = tt
front_gives (u ∷ us) vs h = (h.0, front_gives us vs h.1)

rest_gives : (us vs : List TextUnit) → AllGive (us ++ vs) → AllGive vs
rest_gives [] vs h = h
rest_gives (u ∷ us) vs h = rest_gives us vs h.1

-- ---- parts in order

-- bytes before them are one more gap
after_gap : (gap : List ℕ) (pieces : List (List ℕ)) (bytes : List ℕ) → AreInOrder pieces bytes
    → AreInOrder pieces (gap ++ bytes)
after_gap gap [] bytes h = tt
after_gap gap (piece ∷ pieces) bytes h = (gap ++ h.0, h.1, ap (λ zs. gap ++ zs) h.2 ∙ simp append_assoc, h.3)

-- A run of ordinary bytes is at the front.
abbrev Starts : List PartModel → List ℕ → Type 0
Starts ps bytes = (run : List ℕ) × (more : List PartModel) × (rest : List ℕ) × (ps ≡ Text run ∷ more)
    × (bytes ≡ run ++ rest) × AreInOrder (map part_bytes more) rest

abbrev is_byte : Meaning → Bool
is_byte m = is_ordinary_in (λ b. true) m

abbrev InOrder : List PartModel → List ℕ → Bool → Type 0
InOrder ps bytes starts = AreInOrder (map part_bytes ps) bytes × (starts ≡ true → Starts ps bytes)

unit_before : (m : Meaning) (bytes : List ℕ) (t : Bool) (ps : List PartModel) (rest : List ℕ)
    → Denotes m bytes → InOrder ps rest t → InOrder (part_before m t ps) (bytes ++ rest) (is_byte m)
unit_before (Ordinary b) bytes true ps rest h s =
    let r = s.1 refl in
    let parts : longer_run b ps ≡ Text (b ∷ r.0) ∷ r.1 = ap (longer_run b) r.3 in
    let whole : bytes ++ rest ≡ (b ∷ r.0) ++ r.2 = rw (h, r.4) refl in
    (rw parts ([], r.2, whole, r.5), λ e. (b ∷ r.0, r.1, r.2, parts, whole, r.5))
unit_before (Ordinary b) bytes false ps rest h s =
    let whole : bytes ++ rest ≡ (b ∷ []) ++ rest = ap (λ zs. zs ++ rest) h in
    (([], rest, whole, s.0), λ e. (b ∷ [], ps, rest, refl, whole, s.0))
unit_before (Escape b) bytes t ps rest h s =
    ((h.0 ∷ [], rest, ap (λ zs. zs ++ rest) h.1, s.0), λ e. absurd cc)
unit_before (Reference name) bytes t ps rest h s = grind (
  arith,
  append_assoc (h.0 ++ name) h.1 rest,
  after_gap h.1 (map part_bytes ps) rest s.0,
  map part_bytes ps,
)
unit_before m bytes t ps rest h s = (after_gap bytes (map part_bytes ps) rest s.0, λ e. absurd cc)

in_order : (us : List TextUnit) → AllGive us
    → InOrder (parts_of us) (bytes_of us) (begins_with is_ordinary us)
in_order [] h = (tt, λ e. absurd cc)
in_order (u ∷ us) h = unit_before u.means u.bytes (begins_with is_ordinary us) (parts_of us) (bytes_of us) h.0
    (in_order us h.1)

bytes_of-append : (us vs : List TextUnit) → bytes_of (us ++ vs) ≡ bytes_of us ++ bytes_of vs
bytes_of-append us vs = grind (arith, common_steps)

pub parts_in_order : PartsComeInOrder
parts_in_order text before us after e =
    let all : AllGive (before ++ us ++ after) = subst AllGive e (cut_gives AtStart 0 first_spot text) in
    let here = rest_gives before us (front_gives (before ++ us) after all) in (
      sym (are_the_text text) ∙ ap bytes_of e ∙ bytes_of-append (before ++ us) after
          ∙ ap (λ zs. zs ++ bytes_of after) (bytes_of-append before us),
      (in_order us here).0,
    )
