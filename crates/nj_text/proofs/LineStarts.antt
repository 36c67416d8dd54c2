-- How lines begin.
use Rattle.std.proofs.Common.{◌≡◌, ℕ, zero, suc, ◌+◌, ◌-◌, ◌≤◌, ◌<◌, Bool, true, false, cond, not, ◌&&◌, eqb}
use Rattle.std.proofs.Common.{List, [], ◌∷◌, ◌++◌, length, take, drop, Option, Some, None, refl, sym, ap}
use Rattle.std.proofs.Common.{subst, ◌∙◌, arith}
use Rattle.std.proofs.Math.Numerals.{one-add}
use Rattle.std.specs.List.{prefix_len, take_while, AllByRecursion}
use Rattle.std.proofs.lemmas.List.Sums.{prefix_len-le-length}
use Rattle.std.proofs.lemmas.Bool.{eqb-true, true≢false}
use Rattle.nj_text.specs.declared.spot.Spot.{Spot}
use Rattle.nj_text.specs.declared.line_start.LineStart.TheVariants as start
use Rattle.nj_text.specs.declared.fault.UnitFault.TheVariants as fault
use Rattle.nj_text.specs.Bytes.{is_space, is_line_feed, is_ordinary_byte, is_name_byte, is_identifier_byte}
use Rattle.nj_text.specs.Bytes.{is_escapable, begins_with, drop_while}
use Rattle.nj_text.specs.Units.{Meaning, Ordinary, Escape, Reference, Join, OpeningJoin, Comment, LeadingTab}
use Rattle.nj_text.specs.Units.{LineEnd, TextEnd, BadByte, BadEscape, TextUnit, is_ordinary_in, Position}
use Rattle.nj_text.specs.Units.{AtStart, AfterSpaces, Within, after_dollar, named, Found, unit_at, found_at}
use Rattle.nj_text.specs.Units.{opening, opens_comment, position_after, spot_after, cut}
use Rattle.nj_text.specs.Inside.Scans.{spots_after}
use Rattle.nj_text.specs.Lines.{Line, ending_of, before_first_line, lines_before, lines_of, with_units, Kind}
use Rattle.nj_text.specs.Lines.{IndentedLine, PlainLine, is_space_unit, kind_with, kind_after_spaces, kind_of}
use Rattle.nj_text.specs.Inside.Meanings.{text_kind}
use Rattle.nj_text.specs.Inside.Scans.{advance, on_next_line, units_within, Begins, BeginsBadly}
use Rattle.nj_text.specs.Inside.Scans.{begins_with_space_byte, is_first}
use Rattle.nj_text.specs.Calls.{Between, Inside, begun, begun_by, is_comment, without_comments}
use Rattle.nj_text.specs.declared.cursor.Cursor.{Cursor}
use Rattle.nj_text.specs.declared.line_start.Begun.{Begun}
use Rattle.nj_text.specs.Inside.States.{reply, failing, BegunIs, BegunAfterSpaces, first_line, other_lines}
use Rattle.nj_text.specs.Inside.States.{inside, lines_from, lines_within, space_units}
use Rattle.nj_text.proofs.Lists.{AllIn, AllIn-take_while, drop_while-cons_no}
use Rattle.nj_text.proofs.Lists.{drop_while-append, take_while-cons_yes, length-take_while, drop-prefix_len}
use Rattle.nj_text.proofs.Cuts.{cut-skip, spots_advance, advance-advance, advance-zero}
use Rattle.std.proofs.lemmas.List.{nil_from_length}
use Rattle.nj_text.proofs.Gathered.{none_after}
use Rattle.nj_text.proofs.Passed.{first_is_not_space}
use Rattle.nj_text.specs.Inside.Gathering.{NoneInRun}

-- ---- lines have units

abbrev HasLine : List Line → Type 0
HasLine ls = (l : Line) × (others : List Line) × (ls ≡ l ∷ others)

HasLine-before : (o : Option Bool) (u : TextUnit) (ls : List Line) → HasLine ls
    → HasLine (lines_before o u ls)
HasLine-before None u ls h = (
  record { units = u ∷ h.0.units; end = h.0.end; is_last = h.0.is_last },
  h.1,
  ap (before_first_line u) h.2,
)
HasLine-before (Some b) u ls h = (record { units = []; end = u.spot; is_last = b }, ls, refl)

pub cut_has_line : (position : Position) (skip : ℕ) (spot : Spot) (bs : List ℕ)
    → HasLine (lines_of (cut position skip spot bs))
unfolding cut
cut_has_line position skip spot [] = (record { units = []; end = spot; is_last = true }, [], refl)
cut_has_line position zero spot (b ∷ bs) =
    HasLine-before (ending_of (found_at position b bs).0)
    (record {
      spot = spot;
      bytes = b ∷ take (found_at position b bs).1 bs;
      means =
          (found_at position b bs).0;
    }) (lines_of
    (cut (position_after position (found_at position b bs).0) (found_at position b bs).1
    (spot_after b spot) bs))
    (cut_has_line (position_after position (found_at position b bs).0) (found_at position b bs).1
    (spot_after b spot) bs)
cut_has_line position (suc skip) spot (b ∷ bs) = cut_has_line position skip (spot_after b spot) bs

-- the lines of a text that may be within a line
pub inside_is : (ls : List Line) → HasLine ls → ls ≡ first_line ls ∷ other_lines ls
inside_is ls h = rw h.2 refl

-- ---- plain beginnings of a line

abbrev pub starts_plainly : Meaning → Bool
starts_plainly (Ordinary b) = not (is_space b)
starts_plainly Comment = false
starts_plainly LeadingTab = false
starts_plainly LineEnd = false
starts_plainly TextEnd = false
starts_plainly m = true

pub record StartsPlainly (m : Meaning) : Type 0 where
  pub plain : (spot : Spot) → kind_with m spot false ≡ PlainLine
  pub indented : (spot : Spot) → kind_with m spot true ≡ IndentedLine
  pub no_space : is_ordinary_in is_space m ≡ false
  pub no_end : ending_of m ≡ None

not_true : (t : Bool) → not t ≡ true → t ≡ false
not_true t h = grind arith

pub plainly : (m : Meaning) → starts_plainly m ≡ true → StartsPlainly m
plainly m h = grind arith

-- ---- lines without leading spaces

-- a line whose first unit starts it plainly is plain
plain_by : (u : TextUnit) (l : Line) (ls : List Line) → StartsPlainly u.means
    → begun (before_first_line u (l ∷ ls))
    ≡ reply start.Plain (Inside (record { units = u ∷ l.units; end = l.end; is_last = l.is_last }) ls)
plain_by u l ls p = rw (p.no_space, p.plain u.spot) refl

pub plain_begun : (u : TextUnit) (us : List TextUnit) → HasLine (lines_of us) → starts_plainly u.means ≡ true
    → begun (lines_of (u ∷ us)) ≡ reply start.Plain (inside (lines_of (u ∷ us)))
plain_begun u us h s = grind arith

HasLine-after : (u : TextUnit) (ls : List Line) → HasLine (before_first_line u ls) → HasLine ls
HasLine-after u ls h = grind arith

-- ---- the first unit of a line, and of a text within a line

abbrev reopened : List TextUnit → List TextUnit
reopened [] = []
reopened (u ∷ us) = record { spot = u.spot; bytes = u.bytes; means = opening u.means } ∷ us

pub fails_if_no_byte : (p : ℕ → Bool) (m : Meaning) → is_ordinary_in (λ c. true) m ≡ false
    → is_ordinary_in p m ≡ false
fails_if_no_byte p m h = grind arith

-- a byte that is not a space does not begin a space
unit_is_not_space : (b : ℕ) (bs : List ℕ) → is_space b ≡ false
    → is_ordinary_in is_space (unit_at b bs).0 ≡ false
unit_is_not_space b bs h = grind arith

start_position : (m : Meaning) → is_ordinary_in is_space m ≡ false
    → position_after AtStart (opening m) ≡ position_after Within m
start_position m h = grind arith

spaces_position : (m : Meaning) → is_ordinary_in is_space m ≡ false
    → position_after AfterSpaces m ≡ position_after Within m
spaces_position m h = grind arith

-- the start of a line, where that is neither a comment, nor a space, nor a tab
cut-start : (spot : Spot) (bs : List ℕ) → opens_comment bs ≡ false → begins_with_space_byte bs ≡ false
    → is_first 9 bs ≡ false → cut AtStart 0 spot bs ≡ reopened (cut Within 0 spot bs)
unfolding cut
cut-start spot bs c s t = grind arith

cut-spaces : (spot : Spot) (bs : List ℕ) → begins_with_space_byte bs ≡ false → is_first 9 bs ≡ false
    → cut AfterSpaces 0 spot bs ≡ cut Within 0 spot bs
unfolding cut
cut-spaces spot bs s t = grind arith

-- a unit that is not a tab does not begin with a tab
no_tab : (spot : Spot) (bs : List ℕ) (m : Meaning) (n : ℕ) (remainder : List TextUnit)
    → Begins spot bs m n remainder → (m ≡ Ordinary 9 → ⊥) → is_first 9 bs ≡ false
unfolding cut
no_tab spot bs m n remainder e h = grind arith

-- ---- the start of a line, as the lexer finds it

pub at_once_end : (spot : Spot) (bs : List ℕ) → bs ≡ []
    → begun (lines_from spot bs) ≡ reply start.End (Between (lines_from spot bs))
unfolding cut
at_once_end spot bs e = rw e refl

pub at_once_line_end : (spot there : Spot) (bs : List ℕ) (n : ℕ) → opens_comment bs ≡ false
    → begins_with_space_byte bs ≡ false → Begins spot bs LineEnd n (cut AtStart 0 there (drop n bs))
    → begun (lines_from spot bs) ≡ reply start.Blank (Between (lines_from there (drop n bs)))
at_once_line_end spot there bs n c s e = grind (arith, cut-start, no_tab, drop)

pub at_once_plain : (spot : Spot) (bs : List ℕ) (m : Meaning) (n : ℕ) (remainder : List TextUnit)
    → opens_comment bs ≡ false → begins_with_space_byte bs ≡ false → (m ≡ Ordinary 9 → ⊥) → opening m ≡ m
    → starts_plainly m ≡ true
    → Begins spot bs m n remainder → begun (lines_from spot bs)
    ≡ reply start.Plain (inside (lines_within spot bs))
at_once_plain spot bs m n remainder c s t o p e =
    let u : TextUnit = record { spot = spot; bytes = take n bs; means = m } in
    let same : reopened (u ∷ remainder) ≡ u ∷ remainder =
    ap (λ x. record { spot = spot; bytes = take n bs; means = x } ∷ remainder) o in
    let found = cut-start spot bs c s (no_tab spot bs m n remainder e t) ∙ ap reopened e ∙ same in
    let whole : HasLine (lines_of (u ∷ remainder)) =
    subst (λ us. HasLine (lines_of us)) e (cut_has_line Within 0 spot bs) in
    let has : HasLine (lines_of remainder) =
    HasLine-after u (lines_of remainder) (rw (plainly m p).no_end at whole) in
    ap (λ us. begun (lines_of us)) found ∙ plain_begun u remainder has p
    ∙ ap (λ us. reply start.Plain (inside (lines_of us))) (sym e)

pub at_once_badly : (spot : Spot) (bs : List ℕ) (m : Meaning) → opens_comment bs ≡ false
    → begins_with_space_byte bs ≡ false → (m ≡ Ordinary 9 → ⊥) → opening m ≡ m → starts_plainly m ≡ true
    → BeginsBadly spot bs m → begun (lines_from spot bs) ≡ reply start.Plain (inside (lines_within spot bs))
at_once_badly spot bs m c s t o p b = at_once_plain spot bs m b.0 b.1 c s t o p b.2

pub at_once_join : (spot there : Spot) (bs : List ℕ) (n : ℕ) → opens_comment bs ≡ false
    → begins_with_space_byte bs ≡ false → Begins spot bs Join n (units_within there (drop n bs))
    → begun (lines_from spot bs) ≡ reply start.Plain
    (inside (before_first_line (record { spot = spot; bytes = take n bs; means = OpeningJoin })
    (lines_within there (drop n bs))))
at_once_join spot there bs n c s e =
    let remainder = units_within there (drop n bs) in
    let found = cut-start spot bs c s (no_tab spot bs Join n remainder e (λ h. absurd cc)) ∙ ap reopened e in
    ap (λ us. begun (lines_of us)) found ∙ plain_begun
    (record { spot = spot; bytes = take n bs; means = OpeningJoin }) remainder
    (cut_has_line Within 0 there (drop n bs)) refl

tab_by : (spot : Spot) (bytes : List ℕ) (us : List TextUnit) → HasLine (lines_of us)
    → begun (lines_of (record { spot = spot; bytes = bytes; means = LeadingTab } ∷ us))
    ≡ failing (fault.Tab spot)
tab_by spot bytes us h = rw h.2 refl

pub at_once_tab : (spot : Spot) (b : ℕ) (bs : List ℕ) → opens_comment bs ≡ false → is_first b bs ≡ true
    → b ≡ 9 → begun (lines_from spot bs) ≡ failing (fault.Tab spot)
unfolding cut
at_once_tab spot b bs c e t = grind (arith, eqb-true, tab_by, cut_has_line)

-- ---- after leading spaces

abbrev AreSpaces : List ℕ → Type 0
AreSpaces bs = AllByRecursion (λ x. x ≡ 32) bs

spaces_line : (spot : Spot) (bs : List ℕ) (us : List TextUnit) (l : Line) (ls : List Line)
    → lines_of us ≡ l ∷ ls → lines_of (space_units spot bs ++ us)
    ≡ with_units (space_units spot bs ++ l.units) l ∷ ls
spaces_line spot [] us l ls e = e
spaces_line spot (b ∷ bs) us l ls e = grind (arith, spaces_line (advance 1 spot) bs us l ls e)

spaces_are_units : (spot : Spot) (bs : List ℕ) → AreSpaces bs → AllIn is_space_unit (space_units spot bs)
spaces_are_units spot [] h = tt
spaces_are_units spot (b ∷ bs) h = (rw h.0 refl, spaces_are_units (advance 1 spot) bs h.1)

-- the kind of a line with leading spaces
kind_after : (spot : Spot) (b : ℕ) (bs : List ℕ) (us : List TextUnit) (l : Line) → AreSpaces (b ∷ bs)
    → kind_of (with_units (space_units spot (b ∷ bs) ++ us) l)
    ≡ kind_after_spaces (drop_while is_space_unit us) true
kind_after spot b bs us l h = grind (arith, drop_while-append, spaces_are_units)

begun_after : (spot : Spot) (b : ℕ) (bs : List ℕ) (us : List TextUnit) (l : Line) (ls : List Line)
    → AreSpaces (b ∷ bs) → lines_of us ≡ l ∷ ls
    → begun (lines_of (space_units spot (b ∷ bs) ++ us))
    ≡ begun_by (kind_after_spaces (drop_while is_space_unit l.units) true)
    (with_units (space_units spot (b ∷ bs) ++ l.units) l) ls
begun_after spot b bs us l ls h e = grind (
  arith,
  spaces_line spot (b ∷ bs) us l ls e,
  kind_after spot b bs l.units l h,
)

pub after_end : (spot : Spot) (b : ℕ) (bs : List ℕ) (here : Spot) (rest : List ℕ) → AreSpaces (b ∷ bs)
    → rest ≡ []
    → begun (lines_of (space_units spot (b ∷ bs) ++ cut AfterSpaces 0 here rest))
    ≡ reply start.Blank (Between (lines_from here rest))
unfolding cut
after_end spot b bs here rest h e = rw e
    (begun_after spot b bs (cut AfterSpaces 0 here []) (record { units = []; end = here; is_last = true }) []
    h refl)

pub after_line_end : (spot : Spot) (b : ℕ) (bs : List ℕ) (here there : Spot) (rest : List ℕ) (n : ℕ)
    → AreSpaces (b ∷ bs) → begins_with_space_byte rest ≡ false
    → Begins here rest LineEnd n (cut AtStart 0 there (drop n rest))
    → begun (lines_of (space_units spot (b ∷ bs) ++ cut AfterSpaces 0 here rest))
    ≡ reply start.Blank (Between (lines_from there (drop n rest)))
after_line_end spot b bs here there rest n h s e =
    let remainder = cut AtStart 0 there (drop n rest) in
    let found = cut-spaces here rest s (no_tab here rest LineEnd n remainder e (λ k. absurd cc)) ∙ e in
    ap (λ us. begun (lines_of (space_units spot (b ∷ bs) ++ us))) found
    ∙ begun_after spot b bs (record { spot = here; bytes = take n rest; means = LineEnd } ∷ remainder)
    (record { units = []; end = here; is_last = false }) (lines_of remainder) h refl

indented_by : (spot : Spot) (b : ℕ) (bs : List ℕ) (u : TextUnit) (us : List TextUnit) (l : Line)
    (ls : List Line) → AreSpaces (b ∷ bs) → lines_of us ≡ l ∷ ls → StartsPlainly u.means
    → begun (lines_of (space_units spot (b ∷ bs) ++ (u ∷ us)))
    ≡ reply start.Indented (inside (lines_of (u ∷ us)))
indented_by spot b bs u us l ls h e p =
    let line : Line = record { units = u ∷ l.units; end = l.end; is_last = l.is_last } in
    let first : lines_of (u ∷ us) ≡ line ∷ ls = rw (p.no_end, e) refl in
    let stays : drop_while is_space_unit (u ∷ l.units) ≡ u ∷ l.units =
    drop_while-cons_no is_space_unit u l.units p.no_space in
    let dropped : drop_while is_space_unit (space_units spot (b ∷ bs) ++ (u ∷ l.units)) ≡ u ∷ l.units =
    drop_while-append is_space_unit (space_units spot (b ∷ bs)) (u ∷ l.units)
    (spaces_are_units spot (b ∷ bs) h) ∙ stays in
    begun_after spot b bs (u ∷ us) line ls h first
    ∙ ap (λ k. begun_by k (with_units (space_units spot (b ∷ bs) ++ (u ∷ l.units)) line) ls)
    (ap (λ vs. kind_after_spaces vs true) stays ∙ p.indented u.spot)
    ∙ ap (λ vs. reply start.Indented (Inside (with_units vs line) ls)) dropped
    ∙ ap (λ lines. reply start.Indented (inside lines)) (sym first)

pub after_plain : (spot : Spot) (b : ℕ) (bs : List ℕ) (here : Spot) (rest : List ℕ) (m : Meaning) (n : ℕ)
    (remainder : List TextUnit) → AreSpaces (b ∷ bs) → begins_with_space_byte rest ≡ false
    → (m ≡ Ordinary 9 → ⊥) → starts_plainly m ≡ true
    → Begins here rest m n remainder → begun
    (lines_of (space_units spot (b ∷ bs) ++ cut AfterSpaces 0 here rest))
    ≡ reply start.Indented (inside (lines_within here rest))
after_plain spot b bs here rest m n remainder h s t p e =
    let u : TextUnit = record { spot = here; bytes = take n rest; means = m } in
    let found = cut-spaces here rest s (no_tab here rest m n remainder e t) ∙ e in
    let whole : HasLine (lines_of (u ∷ remainder)) =
    subst (λ us. HasLine (lines_of us)) e (cut_has_line Within 0 here rest) in
    let has : HasLine (lines_of remainder) =
    HasLine-after u (lines_of remainder) (rw (plainly m p).no_end at whole) in
    ap (λ us. begun (lines_of (space_units spot (b ∷ bs) ++ us))) found
    ∙ indented_by spot b bs u remainder has.0 has.1 h has.2 (plainly m p)
    ∙ ap (λ us. reply start.Indented (inside (lines_of us))) (sym e)

pub after_badly : (spot : Spot) (b : ℕ) (bs : List ℕ) (here : Spot) (rest : List ℕ) (m : Meaning)
    → AreSpaces (b ∷ bs) → begins_with_space_byte rest ≡ false → (m ≡ Ordinary 9 → ⊥)
    → starts_plainly m ≡ true
    → BeginsBadly here rest m → begun (lines_of (space_units spot (b ∷ bs) ++ cut AfterSpaces 0 here rest))
    ≡ reply start.Indented (inside (lines_within here rest))
after_badly spot b bs here rest m h s t p bad = after_plain spot b bs here rest m bad.0 bad.1 h s t p bad.2

pub after_tab : (spot : Spot) (b : ℕ) (bs : List ℕ) (here : Spot) (byte : ℕ) (rest : List ℕ)
    → AreSpaces (b ∷ bs) → is_first byte rest ≡ true → byte ≡ 9
    → begun (lines_of (space_units spot (b ∷ bs) ++ cut AfterSpaces 0 here rest)) ≡ failing (fault.Tab here)
unfolding cut
after_tab spot b bs here byte [] h e t = absurd cc
after_tab spot b bs here byte (x ∷ rest) h e t =
    let is_tab : x ≡ 9 = eqb-true x byte e ∙ t in
    let remainder = cut Within 0 (spot_after 9 here) rest in
    let has = cut_has_line Within 0 (spot_after 9 here) rest in
    let u : TextUnit = record { spot = here; bytes = 9 ∷ []; means = LeadingTab } in
    let found : cut AfterSpaces 0 here (x ∷ rest) ≡ u ∷ remainder = rw is_tab refl in
    let first : lines_of (u ∷ remainder) ≡ record
    { units = u ∷ has.0.units; end = has.0.end; is_last = has.0.is_last } ∷ has.1 =
    ap (before_first_line u) has.2 in
    ap (λ us. begun (lines_of (space_units spot (b ∷ bs) ++ us))) found
    ∙ begun_after spot b bs (u ∷ remainder)
    (record { units = u ∷ has.0.units; end = has.0.end; is_last = has.0.is_last }) has.1 h first

-- ---- comments

abbrev no_feed : ℕ → Bool
no_feed c = not (is_line_feed c)

-- the first byte of a comment's line is not a line feed
comment_begins : (b : ℕ) (bs : List ℕ) → opens_comment (b ∷ bs) ≡ true → no_feed b ≡ true
comment_begins b bs h = grind arith

pub comment_cut : (spot : Spot) (bs : List ℕ) → opens_comment bs ≡ true
    → (zs : List ℕ) × (cut AtStart 0 spot bs
    ≡ record { spot = spot; bytes = zs; means = Comment } ∷ cut Within 0
    (advance (length (take_while no_feed bs)) spot) (drop_while no_feed bs))
unfolding cut
comment_cut spot [] h = absurd cc
comment_cut spot (b ∷ bs) h =
    let first = comment_begins b bs h in
    let n = length (take_while no_feed bs) in
    let long : n ≤ length bs = omega (arith, length-take_while no_feed bs, prefix_len-le-length no_feed bs) in
    let n-is : n ≡ prefix_len no_feed bs = length-take_while no_feed bs in
    let step : spot_after b spot ≡ advance 1 spot = rw (not_true (is_line_feed b) first) refl in
    let there : spots_after (take n bs) (spot_after b spot) ≡ advance (suc n) spot =
    ap (λ k. spots_after (take k bs) (spot_after b spot)) n-is ∙ ap (spots_after (take_while no_feed bs)) step
    ∙ spots_advance (take_while no_feed bs) (advance 1 spot) (AllIn-take_while no_feed bs)
    ∙ ap (λ c. record { line = spot.line; column = c }) (omega arith) in
    let rest : drop n bs ≡ drop_while no_feed bs = ap (λ k. drop k bs) n-is ∙ drop-prefix_len no_feed bs in (
      b ∷ take n bs,
      rw (h, take_while-cons_yes no_feed b bs first, first)
          (ap (λ us. record { spot = spot; bytes = b ∷ take n bs; means = Comment } ∷ us)
          (cut-skip Within n (spot_after b spot) bs long ∙ ap (λ p. cut Within 0 p (drop n bs)) there
          ∙ ap (cut Within 0 (advance (suc n) spot)) rest)),
    )

-- passing a comment that ends the text
pub over_last_comment : (spot there : Spot) (bs rest : List ℕ) → opens_comment bs ≡ true
    → there ≡ advance (length (take_while no_feed bs)) spot → rest ≡ drop_while no_feed bs → rest ≡ []
    → without_comments (lines_from spot bs) ≡ without_comments (lines_from there rest)
unfolding cut
over_last_comment spot there bs rest h t r e = grind (
  arith,
  comment_cut spot bs h,
  length (take_while no_feed bs),
)

feed_first : (bs : List ℕ) → NoneInRun no_feed bs → eqb (length bs) 0 ≡ false → bs ≡ 10 ∷ drop 1 bs
feed_first bs h e = grind arith

-- passing a comment and its line end
pub over_comment : (spot there : Spot) (bs rest : List ℕ) → opens_comment bs ≡ true
    → there ≡ advance (length (take_while no_feed bs)) spot → rest ≡ drop_while no_feed bs
    → eqb (length rest) 0 ≡ false → without_comments (lines_from spot bs)
    ≡ without_comments (lines_from (on_next_line 0 there) (drop 1 rest))
unfolding cut
over_comment spot there bs rest h t r e = grind (
  arith,
  comment_cut spot bs h,
  drop 1 rest,
  feed_first rest (rw r (none_after no_feed bs)) e,
  none_after no_feed bs,
  length (take_while no_feed bs),
)

-- ---- leading spaces

spaces_after : (spot : Spot) (xs ys : List ℕ) → AllIn is_space xs
    → cut AfterSpaces 0 spot (xs ++ ys) ≡ space_units spot xs
    ++ cut AfterSpaces 0 (advance (length xs) spot) ys
unfolding cut
spaces_after spot [] ys h = ap (λ p. cut AfterSpaces 0 p ys) (sym (advance-zero spot))
spaces_after spot (x ∷ xs) ys h = grind (
  arith,
  eqb-true x 32 h.0,
  length xs,
  advance-advance 1 (length xs) spot,
  one-add (length xs),
  spaces_after (advance 1 spot) xs ys h.1,
)

spaces_first : (spot : Spot) (x : ℕ) (xs ys : List ℕ) → AllIn is_space (x ∷ xs)
    → opens_comment ((x ∷ xs) ++ ys) ≡ false
    → cut AtStart 0 spot ((x ∷ xs) ++ ys) ≡ space_units spot (x ∷ xs)
    ++ cut AfterSpaces 0 (advance (length (x ∷ xs)) spot) ys
unfolding cut
spaces_first spot x xs ys h c = grind (arith, eqb-true, length, advance-advance, one-add, spaces_after)

-- ---- facts of the results

-- after a run of spaces
pub spaces_cut : (spot : Spot) (bytes xs ys : List ℕ) (there : Spot) → bytes ≡ xs ++ ys
    → xs ≡ take_while is_space bytes → there ≡ advance (length xs) spot → opens_comment bytes ≡ false
    → eqb (length xs) 0 ≡ false
    → (b : ℕ) × (bs : List ℕ) × AreSpaces (b ∷ bs)
    × (cut AtStart 0 spot bytes ≡ space_units spot (b ∷ bs) ++ cut AfterSpaces 0 there ys)
spaces_cut spot bytes [] ys there whole run t c e = absurd (true≢false e)
spaces_cut spot bytes (x ∷ xs) ys there whole run t c e =
    let all : AllIn is_space (x ∷ xs) = subst (AllIn is_space) (sym run) (AllIn-take_while is_space bytes)
    in (
      x,
      xs,
      are_spaces (x ∷ xs) all,
      ap (cut AtStart 0 spot) whole
          ∙ spaces_first spot x xs ys all (sym (ap opens_comment whole) ∙ c)
          ∙ ap (λ p. space_units spot (x ∷ xs) ++ cut AfterSpaces 0 p ys) (sym t),
    )
  where
    are_spaces : (bs : List ℕ) → AllIn is_space bs → AreSpaces bs
    are_spaces [] h = tt
    are_spaces (b ∷ bs) h = (eqb-true b 32 h.0, are_spaces bs h.1)

pub not_nine : (b : ℕ) → (b ≡ 9 → ⊥) → Ordinary b ≡ Ordinary 9 → ⊥
not_nine b h e = h cc

-- a place after a line end, as the cursor has it
pub lines_moved : (spot there : Spot) (bs rest : List ℕ) (n : ℕ) → there ≡ spot → rest ≡ drop (n + 0) bs
    → lines_from there rest ≡ lines_from spot (drop n bs)
lines_moved spot there bs rest n s r = grind arith

pub within_moved : (spot there : Spot) (bs rest : List ℕ) (n k : ℕ) → there ≡ spot
    → rest ≡ drop ((n - k) + k) bs → k < n → lines_within there rest ≡ lines_within spot (drop n bs)
within_moved spot there bs rest n k s r h = grind arith

pub plain_ordinary : (b : ℕ) (bs : List ℕ) → is_first b bs ≡ true → begins_with_space_byte bs ≡ false
    → starts_plainly (Ordinary b) ≡ true
plain_ordinary b bs e s = rw (first_is_not_space b bs e s) refl

-- how a line begins, after its leading spaces were read
pub begun_after_spaces : (spot : Spot) (bytes xs : List ℕ) (c : Cursor) (found : Begun)
    → bytes ≡ xs ++ c.rest.now → xs ≡ take_while is_space bytes → c.spot ≡ advance (length xs) spot
    → opens_comment bytes ≡ false → eqb (length xs) 0 ≡ false
    → BegunAfterSpaces c found → BegunIs (lines_from spot bytes) found
begun_after_spaces spot bytes xs c found whole run there no_comment some h = grind (
  arith,
  spaces_cut spot bytes xs c.rest.now c.spot whole run there no_comment some,
)

pub comment_opens : (bytes remainder rest : List ℕ) (b : ℕ) → remainder ≡ drop_while is_space bytes
    → remainder ≡ b ∷ rest → b ≡ 35 → opens_comment bytes ≡ true
comment_opens bytes remainder rest b d e h = ap (is_first 35) (sym d ∙ e) ∙ rw h refl

pub over_comment_read : (spot there end : Spot) (bs rest after : List ℕ) → opens_comment bs ≡ true
    → there ≡ advance (length (take_while no_feed bs)) spot → rest ≡ drop_while no_feed bs
    → eqb (length rest) 0 ≡ false → end ≡ on_next_line 0 there → after ≡ drop 1 rest
    → without_comments (lines_from spot bs) ≡ without_comments (lines_from end after)
over_comment_read spot there end bs rest after h t r e s a = grind (arith, over_comment, drop)

-- ---- a line that does not begin with a comment is not a comment

abbrev gives_comment : Meaning → Bool
gives_comment Comment = true
gives_comment m = false

-- meanings that units found within a line never have
pub record IsUnsaid (q : Meaning → Bool) : Type 0 where
  pub ordinary : (b : ℕ) → q (Ordinary b) ≡ false
  pub escape : (b : ℕ) → q (Escape b) ≡ false
  pub reference : (name : List ℕ) → q (Reference name) ≡ false
  pub join : q Join ≡ false
  pub line_end : q LineEnd ≡ false
  pub bad_byte : q BadByte ≡ false
  pub bad_escape : q BadEscape ≡ false

module _ (q : Meaning → Bool) (unsaid : IsUnsaid q) where
  choice_is_unsaid : (t : Bool) (x y : Found) → q x.0 ≡ false → q y.0 ≡ false → q (cond t x y).0 ≡ false
  choice_is_unsaid true x y h k = h
  choice_is_unsaid false x y h k = k

  named_is_unsaid : (bs : List ℕ) (t : Bool) → q (named bs t).0 ≡ false
  named_is_unsaid [] t = unsaid.bad_escape
  named_is_unsaid (b ∷ bs) false = unsaid.bad_escape
  named_is_unsaid (b ∷ bs) true = unsaid.reference (b ∷ bs)

  dollar_is_unsaid : (bs : List ℕ) → q (after_dollar bs).0 ≡ false
  dollar_is_unsaid [] = unsaid.bad_escape
  dollar_is_unsaid (b ∷ bs) =
      choice_is_unsaid (eqb b 10) _ _ unsaid.join
      (choice_is_unsaid (eqb b 13 && is_first 10 bs) _ _ unsaid.join
      (choice_is_unsaid (eqb b 123) _ _ (named_is_unsaid (take_while is_identifier_byte bs)
      (is_first 125 (drop_while is_identifier_byte bs)))
      (choice_is_unsaid (is_escapable b) _ _ (unsaid.escape b)
      (choice_is_unsaid (is_name_byte b) _ _ (unsaid.reference (b ∷ take_while is_name_byte bs))
      unsaid.bad_escape))))

  pub unit_is_unsaid : (b : ℕ) (bs : List ℕ) → q (unit_at b bs).0 ≡ false
  unit_is_unsaid b bs =
      choice_is_unsaid (is_ordinary_byte b) _ _ (unsaid.ordinary b)
      (choice_is_unsaid (eqb b 36) _ _ (dollar_is_unsaid bs)
      (choice_is_unsaid (eqb b 10) _ _ unsaid.line_end
      (choice_is_unsaid (eqb b 13 && is_first 10 bs) _ _ unsaid.line_end unsaid.bad_byte)))

comment_is_unsaid : IsUnsaid gives_comment
comment_is_unsaid = grind arith

choice_gives_none : (t : Bool) (x y : Found) → gives_comment x.0 ≡ false → gives_comment y.0 ≡ false
    → gives_comment (cond t x y).0 ≡ false
choice_gives_none t x y h k = grind arith

text_kind_is_none : (t : Bool) → is_comment (text_kind t) ≡ false
text_kind_is_none t = grind arith

kind_is_none : (m : Meaning) (spot : Spot) (t : Bool) → gives_comment m ≡ false
    → is_comment (kind_with m spot t) ≡ false
kind_is_none m spot t h = grind arith

-- the kind of the first of the lines, whose leading spaces may have been passed
abbrev first_kind : List TextUnit → Bool → Kind
first_kind us t = kind_after_spaces (drop_while is_space_unit (first_line (lines_of us)).units) t

first_units : (u : TextUnit) (ls : List Line) → HasLine ls
    → (first_line (before_first_line u ls)).units ≡ u ∷ (first_line ls).units
first_units u ls h = rw h.2 refl

-- a unit that is neither a comment nor a space
first_is_none : (u : TextUnit) (us : List TextUnit) (t : Bool) → HasLine (lines_of us)
    → gives_comment u.means ≡ false → is_space_unit u ≡ false → is_comment (first_kind (u ∷ us) t) ≡ false
first_is_none u us t h c s = grind arith

-- a space is passed
first_is_space : (u : TextUnit) (us : List TextUnit) (t : Bool) → HasLine (lines_of us)
    → ending_of u.means ≡ None → is_space_unit u ≡ true → first_kind (u ∷ us) t ≡ first_kind us t
first_is_space u us t h e s = grind arith

choice_no_space : (t : Bool) (x y : Found) → is_ordinary_in is_space x.0 ≡ false
    → is_ordinary_in is_space y.0 ≡ false → is_ordinary_in is_space (cond t x y).0 ≡ false
choice_no_space t x y h k = grind arith

after_spaces_is_none : (spot : Spot) (bs : List ℕ) (t : Bool)
    → is_comment (first_kind (cut AfterSpaces 0 spot bs) t) ≡ false
unfolding cut
after_spaces_is_none spot [] t = refl
after_spaces_is_none spot (b ∷ bs) t = by_test (is_space b) refl (λ p. after_spaces_is_none p bs t)
  where
    by_test : (v : Bool) → is_space b ≡ v → ((p : Spot)
        → is_comment (first_kind (cut AfterSpaces 0 p bs) t) ≡ false)
        → is_comment (first_kind (cut AfterSpaces 0 spot (b ∷ bs)) t) ≡ false
    by_test true e rest =
        rw (eqb-true b 32 e) (ap is_comment (first_is_space
        (record { spot = spot; bytes = 32 ∷ []; means = Ordinary 32 })
        (cut AfterSpaces 0 (advance 1 spot) bs) t (cut_has_line AfterSpaces 0 (advance 1 spot) bs) refl
        refl) ∙ rest (advance 1 spot))
    by_test false e rest =
        first_is_none (record {
          spot = spot;
          bytes =
              b ∷ take (cond (eqb b 9) (LeadingTab, 0) (unit_at b bs)).1 bs;
          means =
              (cond (eqb b 9) (LeadingTab, 0) (unit_at b bs)).0;
        })
        (cut (position_after AfterSpaces (cond (eqb b 9) (LeadingTab, 0) (unit_at b bs)).0)
        (cond (eqb b 9) (LeadingTab, 0) (unit_at b bs)).1 (spot_after b spot) bs) t
        (cut_has_line (position_after AfterSpaces (cond (eqb b 9) (LeadingTab, 0) (unit_at b bs)).0)
        (cond (eqb b 9) (LeadingTab, 0) (unit_at b bs)).1 (spot_after b spot) bs)
        (choice_gives_none (eqb b 9) (LeadingTab, 0) (unit_at b bs) refl
        (unit_is_unsaid gives_comment comment_is_unsaid b bs))
        (choice_no_space (eqb b 9) (LeadingTab, 0) (unit_at b bs) refl (unit_is_not_space b bs e))

opened_gives_none : (m : Meaning) → gives_comment m ≡ false → gives_comment (opening m) ≡ false
opened_gives_none m h = grind arith

opened_is_not_space : (m : Meaning) → is_ordinary_in is_space m ≡ false
    → is_ordinary_in is_space (opening m) ≡ false
opened_is_not_space m h = grind arith

start_is_none : (spot : Spot) (b : ℕ) (bs : List ℕ) (t : Bool) → opens_comment (b ∷ bs) ≡ false
    → is_comment (first_kind (cut AtStart 0 spot (b ∷ bs)) t) ≡ false
unfolding cut
start_is_none spot b bs t h = grind (
  arith,
  eqb-true,
  first_is_space,
  cut_has_line,
  after_spaces_is_none,
  eqb,
  first_is_none,
  take,
  choice_gives_none,
  opened_gives_none,
  comment_is_unsaid,
  choice_no_space,
  opened_is_not_space,
  unit_is_not_space,
)

pub is_not_comment : (spot : Spot) (bs : List ℕ) → opens_comment bs ≡ false
    → without_comments (lines_from spot bs) ≡ lines_from spot bs
unfolding cut
is_not_comment spot [] h = refl
is_not_comment spot (b ∷ bs) h =
    let lines = lines_from spot (b ∷ bs) in
    let split = inside_is lines (cut_has_line AtStart 0 spot (b ∷ bs)) in
    ap without_comments split ∙ rw (start_is_none spot b bs
    (begins_with is_space_unit (first_line lines).units) h) (sym split)

pub nil_if_empty : (bs : List ℕ) → eqb (length bs) 0 ≡ true → bs ≡ []
nil_if_empty bs h = nil_from_length bs (eqb-true (length bs) 0 h)

pub comment_spot : (spot there : Spot) (bs xs : List ℕ) → there ≡ advance (length xs) spot
    → xs ≡ take_while no_feed bs → there ≡ advance (length (take_while no_feed bs)) spot
comment_spot spot there bs xs t e = t ∙ ap (λ ys. advance (length ys) spot) e
