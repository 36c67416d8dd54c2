-- The first fault of a block.
use Rattle.std.proofs.Common.{arith, ◌≡◌, ℕ, Bool, true, false, cond, inl, inr, Result, Ok, Err, List, []}
use Rattle.std.proofs.Common.{◌∷◌, ◌++◌}
use Rattle.std.proofs.Common.{refl, sym, ap, subst, ◌∙◌, append_assoc}
use Rattle.nj_text.specs.declared.spot.Spot.{Spot}
use Rattle.nj_text.specs.Bytes.{begins_with}
use Rattle.nj_text.specs.Units.{TextUnit}
use Rattle.nj_text.specs.Lines.{Line, with_units, lines_after, Kind, CommentLine, TabLine, BlankLine}
use Rattle.nj_text.specs.Lines.{IndentedLine, PlainLine, kind_of, is_space_unit}
use Rattle.nj_text.specs.Inside.Meanings.{text_kind}
use Rattle.nj_text.specs.Calls.{State, Between, without_comments}
use Rattle.nj_text.proofs.Lists.{AllIn}
use Rattle.nj_manifest.specs.declared.cause.SyntaxCause.TheVariants as cause
use Rattle.nj_manifest.specs.declared.block_lines.Keys.{Keys}
use Rattle.nj_manifest.specs.Faults.{Fault, Placed}
use Rattle.nj_manifest.specs.LineSteps.{Step, ◌>>=◌}
use Rattle.nj_manifest.specs.Statements.{LineModel, line_next, block_by, block}
use Rattle.nj_manifest.specs.Leftmost.{continues, element, written_unit, written, are_plain, NamesThePlaceOf}
use Rattle.nj_manifest.specs.Leftmost.{met_before, offers}
use Rattle.nj_manifest.specs.Openings.{Parse, or_last}
use Rattle.nj_manifest.proofs.Choices.{no_lines}
use Rattle.nj_manifest.proofs.BlockLines.{in_front}
use Rattle.nj_manifest.proofs.LeftmostFronts.{front, element-front}
use Rattle.nj_manifest.proofs.LeftmostSteps.{at, text, Fits, Claim, begin, Stuck, Outcome, stuck, through}
use Rattle.nj_manifest.proofs.LeftmostHeads.{starts}
use Rattle.nj_manifest.proofs.LeftmostLines.{line_turn, key_bytes, key_line, key_plain, key_starts}
use Rattle.nj_manifest.proofs.LeftmostKinds.{kind_units, spaces_of, after_spaces, spaces_cut, spaces_pass}
use Rattle.nj_manifest.proofs.LeftmostKinds.{unspaced, kind_replaced, no_space_same, identifier_no_space}
use Rattle.nj_manifest.proofs.LeftmostKinds.{identifier_spaced, indented_spaces, tab_place}

-- Where the block of some lines fails: no element like the given one helps there, and some text does, with a
-- block
-- after it.
pub record BlockStuck (allowed : Keys) (ls : List Line) (fault : Fault) : Type 0 where
  pub before : List Line
  pub begun : List TextUnit
  pub line : Line
  pub others : List Line
  pub cut : ls ≡ continues before begun line others
  pub place : NamesThePlaceOf fault line
  pub refuses : (m : Line) (ms : List Line) → element m.units ≡ element line.units
      → block allowed (continues before begun m ms) ≡ Err (met_before m fault)
  pub bytes : List ℕ
  pub plain : are_plain bytes ≡ true
  pub offered : offers fault bytes ≡ true
  pub read : List LineModel
  pub some : (ms : List Line) → block allowed (continues before begun (written bytes) ms)
      ≡ in_front read (block allowed ms)

-- ---- one line

-- the property of an indented line, by the units after its spaces
abbrev Spaced : Keys → (spaces : List TextUnit) → Claim LineModel
Spaced allowed sp x e ms r = (kind_units (sp ++ x) ≡ IndentedLine) × (after_spaces (sp ++ x) ≡ x)
    × (line_next allowed (at x e ms) ≡ r)

line_outcome : (allowed : Keys) (l : Line) → kind_of l ≡ IndentedLine
    → Outcome (Spaced allowed (spaces_of l.units)) (after_spaces l.units) l
line_outcome allowed l h = line_turn l allowed (after_spaces l.units)
    (begin (Spaced allowed (spaces_of l.units)) (line_next allowed) starts (after_spaces l.units)
    (λ x e ms fit. by_fit x e ms fit))
  where
    by_fit : (x : List TextUnit) (e : Line) (ms : List Line) → Fits starts (after_spaces l.units) x
        → Spaced allowed (spaces_of l.units) x e ms (line_next allowed (at x e ms))
    by_fit x e ms (inl f) = (
      identifier_spaced (spaces_of l.units) x (spaces_pass l.units) f
          ∙ ap text_kind (indented_spaces l.units h),
      unspaced (spaces_of l.units) x (spaces_pass l.units) (identifier_no_space x f),
      refl,
    )
    by_fit x e ms (inr f) = (
      kind_replaced l.units x f ∙ h,
      unspaced (spaces_of l.units) x (spaces_pass l.units) (no_space_same l.units x f),
      refl,
    )

-- the addition of an indented line to a block
abbrev block_line : Keys → (us : List TextUnit) → Line → List Line → (others : Parse (List LineModel))
    → Parse (List LineModel)
block_line allowed us e ms others =
    line_next allowed (at (after_spaces us) e ms) >>=
    λ line. or_last e (no_lines (lines_after e ms)) others >>= λ more. Ok (line.0 ∷ more.0, more.1)

indented_block : (allowed : Keys) (l : Line) (ms : List Line) → kind_of l ≡ IndentedLine
    → block allowed (l ∷ ms) ≡ block_line allowed l.units l ms (block allowed ms)
unfolding block
indented_block allowed l ms h = ap (λ (k : Kind). block_by allowed k l ms (block allowed ms)) h

abbrev line_then : (others : Parse (List LineModel)) → LineModel × State → Parse (List LineModel)
line_then others line = others >>= λ more. Ok (line.0 ∷ more.0, more.1)

-- a line that is read, and is not the last
read_block : (allowed : Keys) (l : Line) (ms : List Line) (v : LineModel) (s : State)
    → kind_of l ≡ IndentedLine → l.is_last ≡ false
    → line_next allowed (at (after_spaces l.units) l ms) ≡ Ok (v, s)
    → block allowed (l ∷ ms) ≡ line_then (block allowed ms) (v, s)
read_block allowed l ms v s h last r = grind (arith, indented_block, no_lines)

bad_block : (allowed : Keys) (l : Line) (ms : List Line) (f : Fault) → kind_of l ≡ IndentedLine
    → line_next allowed (at (after_spaces l.units) l ms) ≡ Err f → block allowed (l ∷ ms) ≡ Err f
bad_block allowed l ms f h r = grind (arith, indented_block, no_lines)

one_in_front : (v : LineModel) (s : State) (others : Parse (List LineModel))
    → line_then others (v, s) ≡ in_front (v ∷ []) others
one_in_front v s others = grind arith

more_in_front : (v : LineModel) (s : State) (front : List LineModel) (others : Parse (List LineModel))
    → line_then (in_front front others) (v, s) ≡ in_front (v ∷ front) others
more_in_front v s front others = grind arith

bad_then : (others : Parse (List LineModel)) (line : LineModel × State) (f : Fault) → others ≡ Err f
    → line_then others line ≡ Err f
bad_then others line f h = rw h refl

same_fault : {A : Type 0} (r : Result A Fault) (f g : Fault) → r ≡ Err f → r ≡ Err g → g ≡ f
same_fault r f g h i = grind arith

-- ---- where the fault is in the first line

stuck_here : (allowed : Keys) (l : Line) (ls : List Line) (fault : Fault) → kind_of l ≡ IndentedLine
    → Stuck (Spaced allowed (spaces_of l.units)) (after_spaces l.units) l fault
    → BlockStuck allowed (l ∷ ls) fault
stuck_here allowed l ls fault h s =
    let sp = spaces_of l.units in
    record {
      before = [];
      begun = sp ++ s.begun;
      line = with_units s.left l;
      others = ls;
      cut = ap (λ (y : List TextUnit). with_units y l ∷ ls)
          (spaces_cut l.units ∙ (ap (λ (y : List TextUnit). sp ++ y) s.cut
          ∙ sym (append_assoc sp s.begun s.left)));
      place = s.place;
      refuses = λ m ms same.
          let r = s.refuses m.units m ms same in
          let assoc = append_assoc sp s.begun m.units in
          ap (λ (y : List TextUnit). block allowed (with_units y m ∷ ms)) assoc
          ∙ bad_block allowed (with_units (sp ++ (s.begun ++ m.units)) m) ms (met_before m fault) r.0
          (ap (λ (y : List TextUnit). line_next allowed (at y m ms)) r.1 ∙ r.2);
      bytes = s.bytes;
      plain = s.plain;
      offered = s.offered;
      read = s.value ∷ [];
      some = λ ms.
          let r = s.some ms in
          let assoc = append_assoc sp s.begun (text s.bytes) in
          ap (λ (y : List TextUnit). block allowed (with_units y (written []) ∷ ms)) assoc
          ∙ (read_block allowed (with_units (sp ++ (s.begun ++ text s.bytes)) (written [])) ms s.value
          (Between ms) r.0 refl (ap (λ (y : List TextUnit). line_next allowed (at y (written []) ms)) r.1
          ∙ r.2)
          ∙ one_in_front s.value (Between ms) (block allowed ms));
    }

tab_block : (allowed : Keys) (l : Line) (ms : List Line) (tab : Spot) → kind_of l ≡ TabLine tab
    → block allowed (l ∷ ms) ≡ Err (Placed tab cause.Tab)
unfolding block
tab_block allowed l ms tab h = ap (λ (k : Kind). block_by allowed k l ms (block allowed ms)) h

one_space : (sp : List TextUnit) → AllIn is_space_unit sp → AllIn is_space_unit (sp ++ written_unit 32 ∷ [])
one_space [] a = (refl, tt)
one_space (u ∷ sp) a = (a.0, one_space sp a.1)

one_space_begins : (sp : List TextUnit) → AllIn is_space_unit sp
    → begins_with is_space_unit (sp ++ written_unit 32 ∷ []) ≡ true
one_space_begins [] a = refl
one_space_begins (u ∷ sp) a = a.0

after_space : (allowed : Keys) (sp : List TextUnit) → AllIn is_space_unit sp
    → after_spaces (sp ++ text (32 ∷ key_bytes allowed)) ≡ text (key_bytes allowed)
after_space allowed sp a =
    ap after_spaces (sym (append_assoc sp (written_unit 32 ∷ []) (text (key_bytes allowed))))
    ∙ unspaced (sp ++ written_unit 32 ∷ []) (text (key_bytes allowed)) (one_space sp a)
    (identifier_no_space (text (key_bytes allowed)) (key_starts allowed))

spaced_key : (allowed : Keys) (sp : List TextUnit) → AllIn is_space_unit sp
    → kind_units (sp ++ text (32 ∷ key_bytes allowed)) ≡ IndentedLine
spaced_key allowed sp a =
    ap kind_units (sym (append_assoc sp (written_unit 32 ∷ []) (text (key_bytes allowed))))
    ∙ (identifier_spaced (sp ++ written_unit 32 ∷ []) (text (key_bytes allowed)) (one_space sp a)
    (key_starts allowed) ∙ ap text_kind (one_space_begins sp a))

tab_here : (allowed : Keys) (l : Line) (ls : List Line) (tab : Spot) → kind_of l ≡ TabLine tab
    → BlockStuck allowed (l ∷ ls) (Placed tab cause.Tab)
tab_here allowed l ls tab h =
    let sp = spaces_of l.units in
    let d = key_line allowed in
    record {
      before = [];
      begun = sp;
      line = with_units (after_spaces l.units) l;
      others = ls;
      cut = ap (λ (y : List TextUnit). with_units y l ∷ ls) (spaces_cut l.units);
      place = tab_place l.units tab l.end h;
      refuses = λ m ms same. tab_block allowed (with_units (sp ++ m.units) m) ms tab
          (kind_replaced l.units m.units (element-front m.units (after_spaces l.units) same) ∙ h);
      bytes = 32 ∷ key_bytes allowed;
      plain = key_plain allowed;
      offered = refl;
      read = d.0 ∷ [];
      some = λ ms.
          read_block allowed (with_units (sp ++ text (32 ∷ key_bytes allowed)) (written [])) ms d.0
          (Between ms) (spaced_key allowed sp (spaces_pass l.units)) refl
          (ap (λ (y : List TextUnit). line_next allowed (at y (written []) ms))
          (after_space allowed sp (spaces_pass l.units)) ∙ d.1 ms)
          ∙ one_in_front d.0 (Between ms) (block allowed ms);
    }

-- ---- where it is after the first line

-- after a line that adds nothing, and is not the last
stuck_after_comment : (allowed : Keys) (l : Line) (ls : List Line) (fault : Fault)
    → ((ms : List Line) → block allowed (l ∷ ms) ≡ block allowed ms) → BlockStuck allowed ls fault
    → BlockStuck allowed (l ∷ ls) fault
stuck_after_comment allowed l ls fault same r = record {
  before = l ∷ r.before;
  begun = r.begun;
  line = r.line;
  others = r.others;
  cut = ap (λ (y : List Line). l ∷ y) r.cut;
  place = r.place;
  refuses = λ m ms e. same (continues r.before r.begun m ms) ∙ r.refuses m ms e;
  bytes = r.bytes;
  plain = r.plain;
  offered = r.offered;
  read = r.read;
  some = λ ms. same (continues r.before r.begun (written r.bytes) ms) ∙ r.some ms;
}

-- after a line that is read, and is not the last
stuck_after_line : (allowed : Keys) (l : Line) (ls : List Line) (fault : Fault) (v : LineModel)
    → ((ms : List Line) → block allowed (l ∷ ms)
    ≡ line_then (block allowed ms) (v, Between (lines_after l ms))) → BlockStuck allowed ls fault
    → BlockStuck allowed (l ∷ ls) fault
stuck_after_line allowed l ls fault v reads r = record {
  before = l ∷ r.before;
  begun = r.begun;
  line = r.line;
  others = r.others;
  cut = ap (λ (y : List Line). l ∷ y) r.cut;
  place = r.place;
  refuses = λ m ms e. reads (continues r.before r.begun m ms)
      ∙ bad_then (block allowed (continues r.before r.begun m ms))
      (v, Between (lines_after l (continues r.before r.begun m ms))) (met_before m fault) (r.refuses m ms e);
  bytes = r.bytes;
  plain = r.plain;
  offered = r.offered;
  read = v ∷ r.read;
  some = λ ms.
      let xs = continues r.before r.begun (written r.bytes) ms in
      reads xs ∙ (ap (λ (y : Parse (List LineModel)). line_then y (v, Between (lines_after l xs))) (r.some ms)
      ∙ more_in_front v (Between (lines_after l xs)) r.read (block allowed ms));
}

not_last : (t : Bool) (a : List LineModel × List Line) (others : Parse (List LineModel)) (f : Fault)
    → cond t (Ok a) others ≡ Err f → (t ≡ false) × (others ≡ Err f)
not_last t a others f h = grind arith

then_fault : (others : Parse (List LineModel)) (line : LineModel × State) (f : Fault)
    → line_then others line ≡ Err f → others ≡ Err f
then_fault others line f h = grind arith

comment_block : (allowed : Keys) (l : Line) (ms : List Line) → kind_of l ≡ CommentLine
    → block allowed (l ∷ ms) ≡ or_last l (no_lines (lines_after l (without_comments ms))) (block allowed ms)
unfolding block
comment_block allowed l ms h = ap (λ (k : Kind). block_by allowed k l ms (block allowed ms)) h

comment_not_last : (allowed : Keys) (l : Line) (ms : List Line) → kind_of l ≡ CommentLine → l.is_last ≡ false
    → block allowed (l ∷ ms) ≡ block allowed ms
comment_not_last allowed l ms h last = grind (arith, comment_block, no_lines)

pub blank_block : (allowed : Keys) (l : Line) (ms : List Line) → kind_of l ≡ BlankLine
    → block allowed (l ∷ ms) ≡ no_lines (lines_after l ms)
unfolding block
blank_block allowed l ms h = ap (λ (k : Kind). block_by allowed k l ms (block allowed ms)) h

plain_block : (allowed : Keys) (l : Line) (ms : List Line) → kind_of l ≡ PlainLine
    → block allowed (l ∷ ms) ≡ no_lines (l ∷ ms)
unfolding block
plain_block allowed l ms h = ap (λ (k : Kind). block_by allowed k l ms (block allowed ms)) h

empty_block : (allowed : Keys) → block allowed [] ≡ no_lines []
unfolding block
empty_block allowed = refl

no_fault : {A : Type 0} (r : Result A Fault) (x : A) (f : Fault) → r ≡ Ok x → r ≡ Err f → ⊥
no_fault r x f h i = grind arith

as_fault : (allowed : Keys) (ls : List Line) (f g : Fault) → g ≡ f → BlockStuck allowed ls g
    → BlockStuck allowed ls f
as_fault allowed ls f g e s = subst (λ (h : Fault). BlockStuck allowed ls h) e s

pub block_stuck : (allowed : Keys) (ls : List Line) (fault : Fault) → block allowed ls ≡ Err fault
    → BlockStuck allowed ls fault
block_stuck allowed [] fault h = absurd (no_fault (block allowed []) ([], []) fault (empty_block allowed) h)
block_stuck allowed (l ∷ ls) fault h = by_kind (kind_of l) refl (block_stuck allowed ls fault)
  where
    by_line : kind_of l ≡ IndentedLine → Outcome (Spaced allowed (spaces_of l.units)) (after_spaces l.units) l
        → (block allowed ls ≡ Err fault → BlockStuck allowed ls fault) → BlockStuck allowed (l ∷ ls) fault
    by_line k (stuck f s) rest = as_fault allowed (l ∷ ls) fault f
        (same_fault (block allowed (l ∷ ls)) fault f h (bad_block allowed l ls f k (s.fails ls).2))
        (stuck_here allowed l ls f k s)
    by_line k (through v so) rest =
        let whole = indented_block allowed l ls k
        ∙ ap (λ (y : Step LineModel). y >>=
        λ line. or_last l (no_lines (lines_after l ls)) (block allowed ls) >>=
        λ more. Ok (line.0 ∷ more.0, more.1)) (so ls).2 in
        let failed = then_fault (or_last l (no_lines (lines_after l ls)) (block allowed ls))
        (v, Between (lines_after l ls)) fault (sym whole ∙ h) in
        let last = not_last l.is_last ([], lines_after l ls) (block allowed ls) fault failed in
        stuck_after_line allowed l ls fault v
        (λ ms. read_block allowed l ms v (Between (lines_after l ms)) k last.0 (so ms).2) (rest last.1)

    by_kind : (k : Kind) → kind_of l ≡ k → (block allowed ls ≡ Err fault → BlockStuck allowed ls fault)
        → BlockStuck allowed (l ∷ ls) fault
    by_kind CommentLine k rest =
        let last = not_last l.is_last ([], lines_after l (without_comments ls)) (block allowed ls) fault
        (sym (comment_block allowed l ls k) ∙ h) in
        stuck_after_comment allowed l ls fault (λ ms. comment_not_last allowed l ms k last.0) (rest last.1)
    by_kind (TabLine tab) k rest = as_fault allowed (l ∷ ls) fault (Placed tab cause.Tab)
        (same_fault (block allowed (l ∷ ls)) fault (Placed tab cause.Tab) h (tab_block allowed l ls tab k))
        (tab_here allowed l ls tab k)
    by_kind IndentedLine k rest = by_line k (line_outcome allowed l k) rest
    by_kind BlankLine k rest = absurd (no_fault (block allowed (l ∷ ls)) ([], lines_after l ls) fault
        (blank_block allowed l ls k) h)
    by_kind PlainLine k rest = absurd (no_fault (block allowed (l ∷ ls)) ([], l ∷ ls) fault
        (plain_block allowed l ls k) h)
