-- ` or `|@`. || The sections of a build statement that begin with `|`, `||` or `|@`.||` or `|@`.
use Rattle.std.proofs.Common.{arith, ◌≡◌, ℕ, Bool, true, false, cond, ◌&&◌, not, eqb, Option, None, Ok, inl}
use Rattle.std.proofs.Common.{inr}
use Rattle.std.proofs.Common.{List, [], ◌∷◌, ◌++◌, refl, sym, ap, ◌∙◌, append_assoc}
use Rattle.nj_text.specs.declared.fault.UnitFault.{UnitFault}
use Rattle.nj_text.specs.declared.sign.Sign.{Sign}
use Rattle.nj_text.specs.declared.sign.Sign.TheVariants as sign
use Rattle.nj_text.specs.Units.{TextUnit}
use Rattle.nj_text.specs.Lines.{Line, with_units}
use Rattle.nj_text.specs.Words.{begins_with_byte, next_fault, WordModel}
use Rattle.nj_text.specs.Calls.{State, unless_fault, is_sign, state_after_sign}
use Rattle.nj_text.specs.Inside.States.{reply}
use Rattle.nj_manifest.specs.Faults.{Fault}
use Rattle.nj_manifest.specs.LineSteps.{Step, ◌>>=◌, called, words_next, section_next}
use Rattle.nj_manifest.proofs.Choices.{words_if}
use Rattle.nj_manifest.proofs.LeftmostFronts.{front, byte-same, sign-same, front-append, front-two}
use Rattle.nj_manifest.proofs.LeftmostFronts.{front-bare, element-front}
use Rattle.nj_manifest.proofs.LeftmostSteps.{at, Fits, Passes, FailsAt}
use Rattle.nj_manifest.proofs.LeftmostSteps.{after_words}
use Rattle.nj_manifest.proofs.LeftmostWords.{settled, settled_fault}
use Rattle.nj_manifest.proofs.LeftmostWords.{one_more, WordsRun, WordsPass, WordsSeen, there, broken}
use Rattle.nj_manifest.proofs.LeftmostWords.{words_seen}
use Rattle.nj_manifest.specs.Leftmost.{offers}

-- ---- units that may follow words

pub colon_settled : (us : List TextUnit) → after_words us ≡ true → settled us ≡ true
colon_settled us h = grind arith

colon_is_not : (n : ℕ) → eqb 58 n ≡ false → (us : List TextUnit) → after_words us ≡ true
    → begins_with_byte n us ≡ false
colon_is_not n e us h = grind arith

colon_no_pipe : (us : List TextUnit) → after_words us ≡ true → begins_with_byte 124 us ≡ false
colon_no_pipe us h = colon_is_not 124 refl us h

no_and_both : (t s r : Bool) → t ≡ false → (t && s && r) ≡ false
no_and_both t s r h = rw h refl

no_and : (t s : Bool) → t ≡ false → (t && s) ≡ false
no_and t s h = rw h refl

-- ---- a sign before a section

abbrev section_by : Option UnitFault → Bool → (on other : State) → Step (List WordModel)
section_by f t on other = called (unless_fault f (cond t (reply true on) (reply false other))) >>=
    λ so. words_if so.0 so.1

section_is : (want : Sign) (us : List TextUnit) (e : Line) (ms : List Line) → settled us ≡ true
    → section_next want (at us e ms) ≡ section_by (next_fault us) (is_sign want us)
    (state_after_sign want (with_units us e) ms) (at us e ms)
unfolding section_next
section_is want us e ms h = grind arith

section_there : (f : Option UnitFault) (t : Bool) (on other : State) → f ≡ None → t ≡ true
    → section_by f t on other ≡ words_next on
section_there f t on other h g = rw (h, g) refl

section_absent : (f : Option UnitFault) (t : Bool) (on other : State) → f ≡ None → t ≡ false
    → section_by f t on other ≡ Ok ([], other)
section_absent f t on other h g = rw (h, g) refl

pub section_none : (want : Sign) (us : List TextUnit) (e : Line) (ms : List Line) → settled us ≡ true
    → is_sign want us ≡ false → section_next want (at us e ms) ≡ Ok ([], at us e ms)
section_none want us e ms h g = section_is want us e ms h ∙ section_absent _ _ _ _ (settled_fault us h) g

-- The units of a sign, the units that may follow it so that it stays that sign, and how it is read.
pub record Mark (want : Sign) (us : List TextUnit) : Type 0 where
  pub mark : List TextUnit
  pub rest : List TextUnit
  pub follows : List TextUnit → Bool
  pub cut : us ≡ mark ++ rest
  pub so : follows rest ≡ true
  pub same : (x y : List TextUnit) → front x ≡ front y → follows x ≡ follows y
  pub colons : (x : List TextUnit) → after_words x ≡ true → follows x ≡ true
  pub spaces : (x : List TextUnit) → follows (one_more x) ≡ true
  pub seen : (x : List TextUnit) → follows x ≡ true → front (mark ++ x) ≡ front us
  pub reads : (x : List TextUnit) (e : Line) (ms : List Line) → follows x ≡ true
      → section_next want (at (mark ++ x) e ms) ≡ words_next (at x e ms)

-- the test that `|` is alone
abbrev bare : List TextUnit → Bool
bare us = not (begins_with_byte 124 us) && not (begins_with_byte 64 us)

abbrev all : List TextUnit → Bool
all us = true

pipe_parts : (p q r : Bool) → (p && not q && not r) ≡ true → (p ≡ true) × (q ≡ false) × (r ≡ false)
pipe_parts p q r h = grind arith

pipe_whole : (p q r : Bool) → p ≡ true → q ≡ false → r ≡ false → (p && not q && not r) ≡ true
pipe_whole p q r h i j = rw (h, i, j) refl

both_not : (q r : Bool) → q ≡ false → r ≡ false → (not q && not r) ≡ true
both_not q r h i = rw (h, i) refl

not_both : (q r : Bool) → (not q && not r) ≡ true → (q ≡ false) × (r ≡ false)
not_both q r h = grind arith

pipe_mark : (us : List TextUnit) → settled us ≡ true → is_sign sign.Pipe us ≡ true → Mark sign.Pipe us
pipe_mark [] h g = absurd cc
pipe_mark (u ∷ us) h g =
    let p = pipe_parts (begins_with_byte 124 (u ∷ [])) (begins_with_byte 124 us) (begins_with_byte 64 us) g in
    record {
      mark = u ∷ [];
      rest = us;
      follows = bare;
      cut = refl;
      so = both_not _ _ p.1 p.2;
      same = λ x y e. ap (λ (t : Bool). not t && not (begins_with_byte 64 x)) (byte-same 124 x y e)
          ∙ ap (λ (t : Bool). not (begins_with_byte 124 y) && not t) (byte-same 64 x y e);
      colons = λ x c. both_not _ _ (colon_is_not 124 refl x c) (colon_is_not 64 refl x c);
      spaces = λ x. refl;
      seen = λ x f. let n = not_both _ _ f in front-bare u x n.0 n.1 ∙ sym (front-bare u us p.1 p.2);
      reads = λ x e ms f.
          let n = not_both _ _ f in
          section_is sign.Pipe (u ∷ x) e ms h
          ∙ section_there _ _ (at x e ms) _ (settled_fault (u ∷ us) h) (pipe_whole _ _ _ p.0 n.0 n.1);
    }

pipe2_mark : (us : List TextUnit) → settled us ≡ true → is_sign sign.Pipe2 us ≡ true → Mark sign.Pipe2 us
pipe2_mark [] h g = absurd cc
pipe2_mark (u ∷ []) h g = grind arith
pipe2_mark (u ∷ v ∷ us) h g = record {
  mark = u ∷ v ∷ [];
  rest = us;
  follows = all;
  cut = refl;
  so = refl;
  same = λ x y e. refl;
  colons = λ x c. refl;
  spaces = λ x. refl;
  seen = λ x f. front-two u v x us;
  reads = λ x e ms f. section_is sign.Pipe2 (u ∷ v ∷ x) e ms h
      ∙ section_there _ _ (at x e ms) _ (settled_fault (u ∷ v ∷ us) h) g;
}

pipe_at_mark : (us : List TextUnit) → settled us ≡ true → is_sign sign.PipeAt us ≡ true → Mark sign.PipeAt us
pipe_at_mark [] h g = absurd cc
pipe_at_mark (u ∷ []) h g = grind arith
pipe_at_mark (u ∷ v ∷ us) h g = record {
  mark = u ∷ v ∷ [];
  rest = us;
  follows = all;
  cut = refl;
  so = refl;
  same = λ x y e. refl;
  colons = λ x c. refl;
  spaces = λ x. refl;
  seen = λ x f. front-two u v x us;
  reads = λ x e ms f. section_is sign.PipeAt (u ∷ v ∷ x) e ms h
      ∙ section_there _ _ (at x e ms) _ (settled_fault (u ∷ v ∷ us) h) g;
}

-- the signs that begin sections
pub record IsMark (want : Sign) : Type 0 where
  pub none : (us : List TextUnit) → after_words us ≡ true → is_sign want us ≡ false
  pub mark : (us : List TextUnit) → settled us ≡ true → is_sign want us ≡ true → Mark want us

pub is_pipe : IsMark sign.Pipe
is_pipe = record { none = λ us h. no_and_both _ _ _ (colon_no_pipe us h); mark = pipe_mark }

pub is_pipe2 : IsMark sign.Pipe2
is_pipe2 = record { none = λ us h. no_and _ _ (colon_no_pipe us h); mark = pipe2_mark }

pub is_pipe_at : IsMark sign.PipeAt
is_pipe_at = record { none = λ us h. no_and _ _ (colon_no_pipe us h); mark = pipe_at_mark }

-- ---- a section

-- The units of a section that is present, up to its end or a fault in it; a word may always follow.
pub record SectionRun (want : Sign) (us : List TextUnit) : Type 0 where
  pub used : List TextUnit
  pub left : List TextUnit
  pub cut : us ≡ used ++ left
  pub fits : (z : List TextUnit) → Fits after_words us (used ++ one_more z)
  pub word : WordModel
  pub words : List WordModel
  pub more : (z : List TextUnit) (e : Line) (ms : List Line) → settled z ≡ true
      → section_next want (at (used ++ one_more z) e ms) ≡ Ok (word ∷ words, at z e ms)

pub record SectionPass (want : Sign) (us : List TextUnit) (run : SectionRun want us) : Type 0 where
  pub value : List WordModel
  pub stops : settled run.left ≡ true
  pub goes : (x : List TextUnit) (e : Line) (ms : List Line) → Fits after_words run.left x
      → section_next want (at (run.used ++ x) e ms) ≡ Ok (value, at x e ms)
  pub settles : (x : List TextUnit) → Fits after_words run.left x → Fits after_words us (run.used ++ x)

pub data SectionSeen (want : Sign) (us : List TextUnit) (e : Line) : Type 0 where
  absent : (so : is_sign want us ≡ false) → SectionSeen want us e
  present : (run : SectionRun want us) (words : SectionPass want us run) → SectionSeen want us e
  faulty : (fault : Fault) (of : (bytes : List ℕ) → offers fault bytes ≡ true) (run : SectionRun want us)
      (here : FailsAt (section_next want) us e fault run.used run.left) → SectionSeen want us e

-- units that fit in place of settled units are settled
pub fits_settled : (us x : List TextUnit) → settled us ≡ true → Fits after_words us x → settled x ≡ true
fits_settled us x h h1 = grind arith

module _ (want : Sign) (us : List TextUnit) (e : Line) (m : Mark want us) where
  -- after the words of the section the sign stays that sign
  still_follows : (run : WordsRun m.rest) (x : List TextUnit) → Fits m.follows m.rest (run.used ++ x)
      → m.follows (run.used ++ x) ≡ true
  still_follows run x (inl h) = h
  still_follows run x (inr h) = m.same (run.used ++ x) m.rest h ∙ m.so

  follows_fit : (run : WordsRun m.rest) (x : List TextUnit) → Fits after_words run.left x
      → m.follows (run.used ++ x) ≡ true
  follows_fit run x (inl h) = still_follows run x (run.fits m.follows x (m.colons x h))
  follows_fit run x (inr h) = m.same (run.used ++ x) m.rest
      (front-append run.used x run.left h ∙ ap front (sym run.cut)) ∙ m.so

  section_reads : (run : WordsRun m.rest) (x : List TextUnit) (d : Line) (ms : List Line)
      → m.follows (run.used ++ x) ≡ true → section_next want (at ((m.mark ++ run.used) ++ x) d ms)
      ≡ words_next (at (run.used ++ x) d ms)
  section_reads run x d ms h = ap (λ (y : List TextUnit). section_next want (at y d ms))
      (append_assoc m.mark run.used x) ∙ m.reads (run.used ++ x) d ms h

  section_sees : (run : WordsRun m.rest) (x : List TextUnit) → m.follows (run.used ++ x) ≡ true
      → Fits after_words us ((m.mark ++ run.used) ++ x)
  section_sees run x h = inr (ap front (append_assoc m.mark run.used x) ∙ m.seen (run.used ++ x) h)

  abbrev marked : WordsRun m.rest → SectionRun want us
  marked run = record {
    used = m.mark ++ run.used;
    left = run.left;
    cut = m.cut ∙ (ap (λ (y : List TextUnit). m.mark ++ y) run.cut
        ∙ sym (append_assoc m.mark run.used run.left));
    fits = λ z. section_sees run (one_more z)
        (still_follows run (one_more z) (run.fits m.follows (one_more z) (m.spaces z)));
    word = run.word;
    words = run.words;
    more = λ z d ms h. section_reads run (one_more z) d ms
        (still_follows run (one_more z) (run.fits m.follows (one_more z) (m.spaces z))) ∙ run.more z d ms h;
  }

  by_words : WordsSeen m.rest e → SectionSeen want us e
  by_words (there words) = present (marked words.run) (record {
    value = words.value;
    stops = words.stops;
    goes = λ x d ms fit. section_reads words.run x d ms (follows_fit words.run x fit)
        ∙ words.goes x d ms (fits_settled words.run.left x words.stops fit);
    settles = λ x fit. section_sees words.run x (follows_fit words.run x fit);
  })
  by_words (broken fault of run n) = faulty fault of (marked run) (record {
    cut = (marked run).cut;
    place = n.place;
    fails = λ ms. ap (λ (y : List TextUnit). section_next want (at y e ms)) m.cut
        ∙ (m.reads m.rest e ms m.so ∙ n.fails ms);
    refuses = λ x d ms same.
        let seen = front-append run.used x run.left (element-front x run.left same) ∙ ap front (sym run.cut)
        in
        section_reads run x d ms (m.same (run.used ++ x) m.rest seen ∙ m.so) ∙ n.refuses x d ms same;
  })

pub section_seen : (want : Sign) (us : List TextUnit) (e : Line) → IsMark want → settled us ≡ true
    → SectionSeen want us e
section_seen want us e is h = by_sign (is_sign want us) refl
  where
    by_sign : (b : Bool) → is_sign want us ≡ b → SectionSeen want us e
    by_sign false g = absent g
    by_sign true g =
        let m = is.mark us h g in
        by_words want us e m (words_seen m.rest e)

-- ---- as readings that pass

abbrev pub pass_words : (t : List TextUnit → Bool) (us : List TextUnit)
    → ((x : List TextUnit) → after_words x ≡ true → t x ≡ true) → WordsPass us
    → Passes words_next t after_words us
pass_words t us more words = record {
  used = words.run.used;
  left = words.run.left;
  value = words.value;
  cut = words.run.cut;
  goes = λ x e ms fit. words.goes x e ms (fits_settled words.run.left x words.stops fit);
  settled = λ x fit. by_fit x fit;
}
  where
    by_fit : (x : List TextUnit) → Fits after_words words.run.left x → Fits t us (words.run.used ++ x)
    by_fit x (inl h) = words.run.fits t x (more x h)
    by_fit x (inr h) = inr (front-append words.run.used x words.run.left h ∙ ap front (sym words.run.cut))

abbrev pub pass_absent : (want : Sign) (us : List TextUnit) → IsMark want → settled us ≡ true
    → is_sign want us ≡ false → Passes (section_next want) after_words after_words us
pass_absent want us is h g = record {
  used = [];
  left = us;
  value = [];
  cut = refl;
  goes = λ x e ms fit. section_none want x e ms (fits_settled us x h fit) (no_sign x fit);
  settled = λ x fit. fit;
}
  where
    no_sign : (x : List TextUnit) → Fits after_words us x → is_sign want x ≡ false
    no_sign x (inl f) = is.none x f
    no_sign x (inr f) = sign-same want x us f ∙ g

abbrev pub pass_present : (want : Sign) (us : List TextUnit) (run : SectionRun want us)
    → SectionPass want us run → Passes (section_next want) after_words after_words us
pass_present want us run words = record {
  used = run.used;
  left = run.left;
  value = words.value;
  cut = run.cut;
  goes = words.goes;
  settled = words.settles;
}
