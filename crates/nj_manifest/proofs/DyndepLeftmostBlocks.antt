-- The first fault of an entry's block.
use Rattle.std.proofs.Common.{arith, ◌≡◌, ℕ, Bool, true, false, cond, ◌&&◌, inl, inr, Result, Ok, Err, List}
use Rattle.std.proofs.Common.{[], ◌∷◌}
use Rattle.std.proofs.Common.{◌++◌, refl, sym, ap, subst, ◌∙◌, append_assoc, codes}
use Rattle.std.specs.List.{list_all}
use Rattle.std.proofs.lemmas.Bool.{and_from}
use Rattle.nj_text.specs.declared.line_start.LineStart.{LineStart}
use Rattle.nj_text.specs.declared.line_start.LineStart.TheVariants as start
use Rattle.nj_text.specs.declared.spot.Spot.{Spot}
use Rattle.nj_text.specs.Units.{TextUnit}
use Rattle.nj_text.specs.Lines.{Line, with_units, lines_after, Kind, CommentLine, TabLine, BlankLine}
use Rattle.nj_text.specs.Lines.{IndentedLine, PlainLine, kind_of, is_space_unit}
use Rattle.nj_text.specs.Inside.Meanings.{text_kind}
use Rattle.nj_text.specs.Words.{is_blank}
use Rattle.nj_text.specs.Inside.States.{reply}
use Rattle.nj_text.specs.Calls.{State, Between, Reply, start_line_of, begun, begun_by, is_comment, is_empty}
use Rattle.nj_text.specs.Calls.{without_comments}
use Rattle.nj_text.proofs.Lists.{AllIn}
use Rattle.nj_manifest.specs.declared.cause.SyntaxCause.TheVariants as cause
use Rattle.nj_manifest.specs.declared.cause.Wanted.TheVariants as wanted
use Rattle.nj_manifest.specs.Faults.{Fault, Placed}
use Rattle.nj_manifest.specs.LineSteps.{Step, ◌>>=◌, called, NameModel, name_next, expect_sign}
use Rattle.nj_manifest.specs.Statements.{equals_value}
use Rattle.nj_manifest.specs.Leftmost.{continues, element, written, are_plain, NamesThePlaceOf, met_before}
use Rattle.nj_manifest.specs.Leftmost.{offers}
use Rattle.nj_manifest.specs.Dyndeps.{restat_block}
use Rattle.nj_manifest.specs.Grammar.{AreBlanks}
use Rattle.nj_manifest.specs.DyndepLeftmost.{NamesPlaceInEntry}
use Rattle.nj_manifest.proofs.EntryBlocks.{end_of, restat_end, too_many_end, end_if_indented, first_end}
use Rattle.nj_manifest.proofs.EntryBlocks.{block-end}
use Rattle.nj_manifest.proofs.LeftmostRuns.{skip, gap_of, gap_passes, gap_cut}
use Rattle.nj_manifest.proofs.LeftmostFronts.{front, front-append, element-front}
use Rattle.nj_manifest.proofs.LeftmostSteps.{at, text, Fits, Claim, Along, begin, Stuck, Outcome, stuck}
use Rattle.nj_manifest.proofs.LeftmostSteps.{through, bind-bind}
use Rattle.nj_manifest.proofs.LeftmostSigns.{led_on}
use Rattle.nj_manifest.proofs.LeftmostNames.{NameSeen, name_seen}
use Rattle.nj_manifest.proofs.LeftmostNames as names
use Rattle.nj_manifest.proofs.LeftmostHeads.{starts}
use Rattle.nj_manifest.proofs.LeftmostTurns.{ReadTo}
use Rattle.nj_manifest.proofs.LeftmostValues.{value_turn}
use Rattle.nj_manifest.proofs.LeftmostKinds.{kind_units, spaces_of, after_spaces, spaces_cut, spaces_pass}
use Rattle.nj_manifest.proofs.LeftmostKinds.{unspaced, kind_spaced, kind_replaced, no_space_same}
use Rattle.nj_manifest.proofs.LeftmostKinds.{identifier_no_space, identifier_spaced, indented_spaces}
use Rattle.nj_manifest.proofs.LeftmostKinds.{tab_place}
use Rattle.nj_manifest.proofs.DyndepLeftmostMarks.{real, reported, reported-bind, kept-value, this_word}
use Rattle.nj_manifest.proofs.DyndepLeftmostMarks.{word-reported}
use Rattle.nj_manifest.proofs.DyndepLeftmostPaths.{word_turn}

-- ---- marks, reported

-- the intended fault names its place too
pub real_place : (f : Fault) (l : Line) → NamesThePlaceOf f l → NamesPlaceInEntry (real f) l
real_place f l h = grind arith

pub real_before : (f : Fault) (l : Line) → real (met_before l f) ≡ met_before l (real f)
real_before f l = grind arith

pub real_offers : (f : Fault) (bytes : List ℕ) → offers f bytes ≡ true → offers (real f) bytes ≡ true
real_offers f bytes h = grind arith

-- ---- the start of a line

-- the reading of an indented line, if the lines begin with one
abbrev pub in_lines : (State → Result State Fault) → List Line → Result State Fault
in_lines k ls = called (start_line_of (Between ls)) >>= λ first. end_if_indented first.0 first.1 k

module _ (k : State → Result State Fault) where
  abbrev of_reply : Reply LineStart → Result State Fault
  of_reply r = called r >>= λ first. end_if_indented first.0 first.1 k

  in_kind : (l : Line) (ms : List Line) (kind : Kind) → kind_of l ≡ kind → is_comment kind ≡ false
      → in_lines k (l ∷ ms) ≡ of_reply (begun_by kind l ms)
  in_kind l ms kind h n =
      ap (λ (t : Bool). of_reply (begun (cond t (lines_after l (without_comments ms)) (l ∷ ms))))
      (ap is_comment h ∙ n)
      ∙ ap (λ (q : Kind). of_reply (begun_by q l ms)) h

  pub in_tab : (l : Line) (ms : List Line) (tab : Spot) → kind_of l ≡ TabLine tab
      → in_lines k (l ∷ ms) ≡ Err (Placed tab cause.Tab)
  in_tab l ms tab h = in_kind l ms (TabLine tab) h refl

  pub in_indented : (l : Line) (ms : List Line) → kind_of l ≡ IndentedLine
      → in_lines k (l ∷ ms) ≡ k (at (after_spaces l.units) l ms)
  in_indented l ms h = in_kind l ms IndentedLine h refl

  pub in_plain : (l : Line) (ms : List Line) → kind_of l ≡ PlainLine
      → (s : State) × (in_lines k (l ∷ ms) ≡ Ok s)
  in_plain l ms h = (_, in_kind l ms PlainLine h refl)

  blank_reply : (t : Bool) (a b : State)
      → (s : State) × (of_reply (cond t (reply start.End a) (reply start.Blank b)) ≡ Ok s)
  blank_reply true a b = (a, refl)
  blank_reply false a b = (b, refl)

  pub in_blank : (l : Line) (ms : List Line) → kind_of l ≡ BlankLine
      → (s : State) × (in_lines k (l ∷ ms) ≡ Ok s)
  in_blank l ms h =
      let r = blank_reply (l.is_last && is_empty l.units) (Between (l ∷ ms)) (Between (lines_after l ms)) in
      (r.0, in_kind l ms BlankLine h refl ∙ r.1)

  in_comment : (l : Line) (ms : List Line) → kind_of l ≡ CommentLine
      → in_lines k (l ∷ ms) ≡ of_reply (begun (lines_after l (without_comments ms)))
  in_comment l ms h = ap (λ (t : Bool). of_reply
      (begun (cond t (lines_after l (without_comments ms)) (l ∷ ms)))) (ap is_comment h)

  pub in_last_comment : (l : Line) (ms : List Line) → kind_of l ≡ CommentLine → l.is_last ≡ true
      → (s : State) × (in_lines k (l ∷ ms) ≡ Ok s)
  in_last_comment l ms h last =
      let empty = with_units [] l in
      let r = blank_reply (empty.is_last && true) (Between (empty ∷ without_comments ms))
      (Between (lines_after empty (without_comments ms))) in (
        r.0,
        in_comment l ms h ∙ (ap (λ (t : Bool). of_reply
            (begun (cond t (empty ∷ without_comments ms) (without_comments ms)))) last ∙ r.1),
      )

  pub in_more : (l : Line) (ms : List Line) → kind_of l ≡ CommentLine → l.is_last ≡ false
      → in_lines k (l ∷ ms) ≡ in_lines k ms
  in_more l ms h last = in_comment l ms h
      ∙ ap (λ (t : Bool). of_reply (begun (cond t (with_units [] l ∷ without_comments ms)
      (without_comments ms)))) last

-- ---- where the block of some lines fails

-- From this front the block continues with the given bytes and is whole; or it is whole if the line has only
-- the spaces
-- with which it begins.
pub data BlockContinues (k : State → Result State Fault) (before : List Line) (begun : List TextUnit)
    (fault : Fault) : Type 0 where
  with_text : (bytes : List ℕ) (plain : are_plain bytes ≡ true) (offered : offers fault bytes ≡ true)
      (end : State) (some : in_lines k (continues before begun (written bytes) []) ≡ Ok end)
      → BlockContinues k before begun fault
  with_end : (spaces gap : List TextUnit) (cut : begun ≡ spaces ++ gap)
      (of_spaces : list_all is_space_unit spaces ≡ true) (of_blanks : AreBlanks gap) (end : State)
      (some : in_lines k (continues before spaces (written []) []) ≡ Ok end)
      → BlockContinues k before begun fault

-- No element like the given one helps there.
pub record LinesStuck (k : State → Result State Fault) (ls : List Line) (fault : Fault) : Type 0 where
  pub before : List Line
  pub begun : List TextUnit
  pub line : Line
  pub others : List Line
  pub cut : ls ≡ continues before begun line others
  pub place : NamesPlaceInEntry fault line
  pub refuses : (m : Line) (ms : List Line) → element m.units ≡ element line.units
      → in_lines k (continues before begun m ms) ≡ Err (met_before m fault)
  pub on : BlockContinues k before begun fault

pub errs : {A : Type 0} {x y : Fault} → ◌≡◌ {A = Result A Fault} (Err x) (Err y) → x ≡ y
errs e = cc

pub no_fault : {A P : Type 0} (r : Result A Fault) (x : A) (f : Fault) → r ≡ Ok x → r ≡ Err f → P
no_fault r x f h i = grind arith

goes_after : (k j : State → Result State Fault) (l : Line) (before : List Line) (begun : List TextUnit)
    (fault : Fault) → ((ms : List Line) → in_lines j (l ∷ ms) ≡ in_lines k ms)
    → BlockContinues k before begun fault → BlockContinues j (l ∷ before) begun fault
goes_after k j l before begun fault same (with_text bytes plain offered end some) =
    with_text bytes plain offered end (same (continues before begun (written bytes) []) ∙ some)
goes_after k j l before begun fault same (with_end spaces gap cut of_spaces of_blanks end some) =
    with_end spaces gap cut of_spaces of_blanks end (same (continues before spaces (written []) []) ∙ some)

-- after a line that adds nothing, or is read, and is not the last
lines_after_one : (k j : State → Result State Fault) (l : Line) (ls : List Line) (fault : Fault)
    → ((ms : List Line) → in_lines j (l ∷ ms) ≡ in_lines k ms) → LinesStuck k ls fault
    → LinesStuck j (l ∷ ls) fault
lines_after_one k j l ls fault same r = record {
  before = l ∷ r.before;
  begun = r.begun;
  line = r.line;
  others = r.others;
  cut = ap (λ (y : List Line). l ∷ y) r.cut;
  place = r.place;
  refuses = λ m ms e. same (continues r.before r.begun m ms) ∙ r.refuses m ms e;
  on = goes_after k j l r.before r.begun fault same r.on;
}

-- spaces alone end the block
blank_there : (k : State → Result State Fault) (sp : List TextUnit) → AllIn is_space_unit sp
    → (s : State) × (in_lines k (with_units (sp ++ text []) (written []) ∷ []) ≡ Ok s)
blank_there k sp a = in_blank k (with_units (sp ++ []) (written [])) [] (kind_spaced sp [] a refl)

as_fault : (k : State → Result State Fault) (ls : List Line) (f g : Fault) → g ≡ f → LinesStuck k ls g
    → LinesStuck k ls f
as_fault k ls f g e s = subst (λ (h : Fault). LinesStuck k ls h) e s

tab_here : (k : State → Result State Fault) (l : Line) (ls : List Line) (tab : Spot) → kind_of l ≡ TabLine tab
    → LinesStuck k (l ∷ ls) (Placed tab cause.Tab)
tab_here k l ls tab h =
    let ends = blank_there k (spaces_of l.units) (spaces_pass l.units) in
    record {
      before = [];
      begun = spaces_of l.units;
      line = with_units (after_spaces l.units) l;
      others = ls;
      cut = ap (λ (y : List TextUnit). with_units y l ∷ ls) (spaces_cut l.units);
      place = tab_place l.units tab l.end h;
      refuses = λ m ms same. in_tab k (with_units (spaces_of l.units ++ m.units) m) ms tab
          (kind_replaced l.units m.units (element-front m.units (after_spaces l.units) same) ∙ h);
      on = with_text [] refl refl ends.0 ends.1;
    }

-- The fault is the fault of the first line that is indented.
lines_stuck : (k : State → Result State Fault) (ls : List Line) (fault : Fault)
    → ((l : Line) (ms : List Line) → kind_of l ≡ IndentedLine → k (at (after_spaces l.units) l ms) ≡ Err fault
    → LinesStuck k (l ∷ ms) fault) → in_lines k ls ≡ Err fault → LinesStuck k ls fault
lines_stuck k [] fault here h = no_fault (in_lines k []) (Between []) fault refl h
lines_stuck k (l ∷ ls) fault here h = by_kind (kind_of l) refl (lines_stuck k ls fault here)
  where
    by_last : (t : Bool) → l.is_last ≡ t → kind_of l ≡ CommentLine
        → (in_lines k ls ≡ Err fault → LinesStuck k ls fault) → LinesStuck k (l ∷ ls) fault
    by_last true last e rest = let r = in_last_comment k l ls e last in
        no_fault (in_lines k (l ∷ ls)) r.0 fault r.1 h
    by_last false last e rest = lines_after_one k k l ls fault (λ ms. in_more k l ms e last)
        (rest (sym (in_more k l ls e last) ∙ h))

    by_kind : (q : Kind) → kind_of l ≡ q → (in_lines k ls ≡ Err fault → LinesStuck k ls fault)
        → LinesStuck k (l ∷ ls) fault
    by_kind CommentLine e rest = by_last l.is_last refl e rest
    by_kind (TabLine tab) e rest = as_fault k (l ∷ ls) fault (Placed tab cause.Tab)
        (errs (sym (in_tab k l ls tab e) ∙ h)) (tab_here k l ls tab e)
    by_kind IndentedLine e rest = here l ls e (sym (in_indented k l ls e) ∙ h)
    by_kind BlankLine e rest = let r = in_blank k l ls e in no_fault (in_lines k (l ∷ ls)) r.0 fault r.1 h
    by_kind PlainLine e rest = let r = in_plain k l ls e in no_fault (in_lines k (l ∷ ls)) r.0 fault r.1 h

-- ---- a line too many

all_pass : (p : TextUnit → Bool) (us : List TextUnit) → AllIn p us → list_all p us ≡ true
all_pass p [] a = refl
all_pass p (u ∷ us) a = and_from _ _ a.0 (all_pass p us a.1)

-- the reading fails after the first blanks, and so with each rest that begins with the same element
many_here : (l : Line) (ls : List Line) (fault : Fault) → kind_of l ≡ IndentedLine
    → NamesPlaceInEntry fault (with_units (skip (after_spaces l.units)) l)
    → ((x : List TextUnit) (d : Line) (ms : List Line) → element x ≡ element (skip (after_spaces l.units))
    → too_many_end (at (gap_of (after_spaces l.units) ++ x) d ms) ≡ Err (met_before (with_units x d) fault))
    → LinesStuck too_many_end (l ∷ ls) fault
many_here l ls fault h place refuses =
    let sp = spaces_of l.units in
    let gap = gap_of (after_spaces l.units) in
    let left = skip (after_spaces l.units) in
    let cut = gap_cut (after_spaces l.units) in
    let ends = blank_there too_many_end sp (spaces_pass l.units) in
    record {
      before = [];
      begun = sp ++ gap;
      line = with_units left l;
      others = ls;
      cut = ap (λ (y : List TextUnit). with_units y l ∷ ls)
          (spaces_cut l.units ∙ (ap (λ (y : List TextUnit). sp ++ y) cut ∙ sym (append_assoc sp gap left)));
      place = place;
      refuses = λ m ms same.
          let seen = front-append gap m.units left (element-front m.units left same) ∙ ap front (sym cut) in
          let x = gap ++ m.units in
          ap (λ (y : List TextUnit). in_lines too_many_end (with_units y m ∷ ms))
          (append_assoc sp gap m.units)
          ∙ (in_indented too_many_end (with_units (sp ++ x) m) ms (kind_replaced l.units x seen ∙ h)
          ∙ (ap (λ (y : List TextUnit). too_many_end (at y m ms))
          (unspaced sp x (spaces_pass l.units) (no_space_same l.units x seen)) ∙ refuses m.units m ms same));
      on = with_end sp gap refl (all_pass is_space_unit sp (spaces_pass l.units))
          (all_pass is_blank gap (gap_passes (after_spaces l.units))) ends.0 ends.1;
    }

many_reads : (s t : State) (name : NameModel) → name_next wanted.VariableName s ≡ Ok (name, t)
    → too_many_end s ≡ Err (Placed name.spot cause.DyndepShape)
many_reads s t name h = ap (λ (r : Step NameModel). r >>= λ key. Err (Placed key.0.spot cause.DyndepShape)) h

many_fails : (s : State) (f : Fault) → name_next wanted.VariableName s ≡ Err f → too_many_end s ≡ Err f
many_fails s f h = ap (λ (r : Step NameModel). r >>= λ key. Err (Placed key.0.spot cause.DyndepShape)) h

many_stuck : (l : Line) (ls : List Line) (fault : Fault) → kind_of l ≡ IndentedLine
    → too_many_end (at (after_spaces l.units) l ls) ≡ Err fault → LinesStuck too_many_end (l ∷ ls) fault
many_stuck l ls fault h failed = by_name (name_seen wanted.VariableName starts us l)
  where
    us : List TextUnit
    us = after_spaces l.units

    by_name : NameSeen wanted.VariableName starts us l → LinesStuck too_many_end (l ∷ ls) fault
    by_name (names.there n) =
        let a = n.again (skip us) l ls refl in
        let is = many_reads (at us l ls) a.0 n.passes.value
        (ap (λ (y : List TextUnit). name_next wanted.VariableName (at y l ls)) (gap_cut us) ∙ a.1) in
        as_fault too_many_end (l ∷ ls) fault (Placed n.passes.value.spot cause.DyndepShape)
        (errs (sym is ∙ failed)) (many_here l ls (Placed n.passes.value.spot cause.DyndepShape) h n.spot
        (λ x d ms same.
        let b = n.again x d ms same in
        (many_reads (at (gap_of us ++ x) d ms) b.0 n.passes.value b.1)))
    by_name (names.missing f of n) =
        let is = many_fails (at us l ls) f (n.fails ls) in
        as_fault too_many_end (l ∷ ls) fault f (errs (sym is ∙ failed))
        (many_here l ls f h (place_of_name f n.place)
        (λ x d ms same. many_fails (at (gap_of us ++ x) d ms) (met_before (with_units x d) f)
        (n.refuses x d ms same)))
      where
        place_of_name : (f : Fault) → NamesThePlaceOf f (with_units (skip us) l)
            → NamesPlaceInEntry f (with_units (skip us) l)
        place_of_name (Placed spot cause.DyndepShape) e = absurd e
        place_of_name f e = e

-- ---- the line of the block

abbrev after_key : State → Step Bool
after_key s = equals_value s >>= λ v. Ok (true, v.1)

abbrev restat_marked : State → Step Bool
restat_marked s = name_next wanted.VariableName s >>= this_word (codes "restat") after_key

restat-reported : (s : State) → reported (restat_marked s) ≡ led_on (restat_end s)
unfolding restat_end
restat-reported s = grind (arith, word-reported, codes, led_on, reported-bind, kept-value, bind-bind)

-- the property of an indented line, by the units after its spaces
abbrev Spaced : (spaces : List TextUnit) → Claim Bool
Spaced sp x e ms r = (kind_units (sp ++ x) ≡ IndentedLine) × (after_spaces (sp ++ x) ≡ x)
    × (led_on (restat_end (at x e ms)) ≡ reported r)

-- `restat=x`
ends_restat : ReadTo (λ ms. name_next wanted.VariableName (at (text (codes "restat=x")) (written []) ms) >>=
    this_word (codes "restat") after_key)
unfolding name_next equals_value expect_sign
ends_restat = (true, λ ms. refl)

restat_turn : {P : Claim Bool} {whole : List TextUnit} (e : Line) (us : List TextUnit)
    → Along P whole restat_marked starts us → Outcome P whole e
restat_turn e us a = word_turn e (codes "restat") wanted.VariableName restat_marked after_key (λ s. refl) a
    (codes "restat=x") refl refl refl ends_restat (λ n b. value_turn e (λ w. true) after_key (λ s. refl) b)

restat_outcome : (l : Line) → kind_of l ≡ IndentedLine
    → Outcome (Spaced (spaces_of l.units)) (after_spaces l.units) l
restat_outcome l h = restat_turn l (after_spaces l.units)
    (begin (Spaced (spaces_of l.units)) restat_marked starts (after_spaces l.units) by_fit)
  where
    by_fit : (x : List TextUnit) (e : Line) (ms : List Line) → Fits starts (after_spaces l.units) x
        → Spaced (spaces_of l.units) x e ms (restat_marked (at x e ms))
    by_fit x e ms (inl f) = (
      identifier_spaced (spaces_of l.units) x (spaces_pass l.units) f
          ∙ ap text_kind (indented_spaces l.units h),
      unspaced (spaces_of l.units) x (spaces_pass l.units) (identifier_no_space x f),
      sym (restat-reported (at x e ms)),
    )
    by_fit x e ms (inr f) = (
      kind_replaced l.units x f ∙ h,
      unspaced (spaces_of l.units) x (spaces_pass l.units) (no_space_same l.units x f),
      sym (restat-reported (at x e ms)),
    )

-- ---- the block

pub block_is : (ls : List Line) → end_of (restat_block (Between ls)) ≡ in_lines first_end ls
block_is ls = block-end (Between ls)

first_fails : (s : State) (f : Fault) → led_on (restat_end s) ≡ Err f → first_end s ≡ Err f
first_fails s f h = grind arith

first_reads : (s : State) (v : Bool) (ls : List Line) → led_on (restat_end s) ≡ Ok (v, Between ls)
    → first_end s ≡ in_lines too_many_end ls
first_reads s v ls h = grind arith

-- the fault is in the line
stuck_here : (l : Line) (ls : List Line) (f : Fault) → kind_of l ≡ IndentedLine
    → Stuck (Spaced (spaces_of l.units)) (after_spaces l.units) l f → LinesStuck first_end (l ∷ ls) (real f)
stuck_here l ls f h s =
    let sp = spaces_of l.units in
    let r = s.some [] in
    let x = s.begun ++ text s.bytes in
    record {
      before = [];
      begun = sp ++ s.begun;
      line = with_units s.left l;
      others = ls;
      cut = ap (λ (y : List TextUnit). with_units y l ∷ ls)
          (spaces_cut l.units ∙ (ap (λ (y : List TextUnit). sp ++ y) s.cut
          ∙ sym (append_assoc sp s.begun s.left)));
      place = real_place f (with_units s.left l) s.place;
      refuses = λ m ms same.
          let n = s.refuses m.units m ms same in
          ap (λ (y : List TextUnit). in_lines first_end (with_units y m ∷ ms))
          (append_assoc sp s.begun m.units)
          ∙ (in_indented first_end (with_units (sp ++ (s.begun ++ m.units)) m) ms n.0
          ∙ (ap (λ (y : List TextUnit). first_end (at y m ms)) n.1
          ∙ (first_fails (at (s.begun ++ m.units) m ms) (real (met_before m f)) n.2
          ∙ ap Err (real_before f m))));
      on = with_text s.bytes s.plain (real_offers f s.bytes s.offered) (Between [])
          (ap (λ (y : List TextUnit). in_lines first_end (with_units y (written []) ∷ []))
          (append_assoc sp s.begun (text s.bytes))
          ∙ (in_indented first_end (with_units (sp ++ x) (written [])) [] r.0
          ∙ (ap (λ (y : List TextUnit). first_end (at y (written []) [])) r.1
          ∙ first_reads (at x (written []) []) s.value [] r.2)));
    }

first_stuck : (l : Line) (ls : List Line) (fault : Fault) → kind_of l ≡ IndentedLine
    → first_end (at (after_spaces l.units) l ls) ≡ Err fault → LinesStuck first_end (l ∷ ls) fault
first_stuck l ls fault h failed = by_line (restat_outcome l h)
  where
    by_last : (t : Bool) → l.is_last ≡ t → ((ms : List Line)
        → in_lines first_end (l ∷ ms) ≡ in_lines too_many_end (lines_after l ms))
        → in_lines too_many_end (cond t (with_units [] l ∷ ls) ls) ≡ Err fault
        → LinesStuck first_end (l ∷ ls) fault
    by_last true last reads g = let r = in_blank too_many_end (with_units [] l) ls refl in
        no_fault (in_lines too_many_end (with_units [] l ∷ ls)) r.0 fault r.1 g
    by_last false last reads g =
        lines_after_one too_many_end first_end l ls fault
        (λ ms. reads ms ∙ ap (λ (t : Bool). in_lines too_many_end (cond t (with_units [] l ∷ ms) ms))
        last) (lines_stuck too_many_end ls fault (λ m ms e r. many_stuck m ms fault e r) g)

    by_line : Outcome (Spaced (spaces_of l.units)) (after_spaces l.units) l
        → LinesStuck first_end (l ∷ ls) fault
    by_line (stuck f s) = as_fault first_end (l ∷ ls) fault (real f)
        (errs (sym (first_fails (at (after_spaces l.units) l ls) (real f) (s.fails ls).2) ∙ failed))
        (stuck_here l ls f h s)
    by_line (through v so) =
        let reads = λ (ms : List Line). in_indented first_end l ms h
        ∙ first_reads (at (after_spaces l.units) l ms) v (lines_after l ms) (so ms).2 in
        by_last l.is_last refl reads (sym (reads ls) ∙ (in_indented first_end l ls h ∙ failed))

pub block_stuck : (ls : List Line) (fault : Fault) → in_lines first_end ls ≡ Err fault
    → LinesStuck first_end ls fault
block_stuck ls fault h = lines_stuck first_end ls fault (λ l ms e r. first_stuck l ms fault e r) h
