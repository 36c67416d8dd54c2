-- Words along a line: the words that are read, and the bad unit that ends them.
use Rattle.std.proofs.lemmas.Grind.{common_steps}
use Rattle.std.proofs.Common.{◌≡◌, ℕ, zero, suc, ◌<◌, Bool, true, false, cond, ◌&&◌, not, eqb, Option, Some}
use Rattle.std.proofs.Common.{None, Ok, Err, inl, inr, List, [], ◌∷◌, ◌++◌, length, refl, sym, ap, ◌∙◌}
use Rattle.std.proofs.Common.{append_assoc, arith}
use Rattle.std.specs.List.{take_while}
use Rattle.std.proofs.lemmas.Bool.{and_parts}
use Rattle.nj_text.specs.declared.fault.UnitFault.{UnitFault}
use Rattle.nj_text.specs.declared.spot.Spot.{Spot}
use Rattle.nj_text.specs.Bytes.{drop_while, begins_with}
use Rattle.nj_text.specs.Units.{Meaning}
use Rattle.nj_text.specs.Units.{TextUnit, is_ordinary_in}
use Rattle.nj_text.specs.Lines.{Line, with_units, spot_of_first}
use Rattle.nj_text.specs.Words.{is_blank, opens_word, in_word, fault_of, next_fault, parts_of, WordModel}
use Rattle.nj_text.specs.Inside.Meanings.{is_blank_meaning, opens_word_meaning, in_word_meaning}
use Rattle.nj_text.specs.Calls.{State, unless_fault, path_word_of}
use Rattle.nj_text.specs.Inside.States.{reply}
use Rattle.nj_text.proofs.Lists.{AllIn, AllIn-take_while, take_while-cons_yes}
use Rattle.nj_manifest.specs.Faults.{Fault, bad_unit}
use Rattle.nj_manifest.specs.LineSteps.{Step, called, words_next}
use Rattle.nj_manifest.specs.Leftmost.{written_unit, offers}
use Rattle.nj_manifest.proofs.Choices.{words_from}
use Rattle.nj_manifest.proofs.WordLimits.{words_next-fails, words_next-ends, words_next-more}
use Rattle.nj_manifest.proofs.LeftmostRuns.{both_parts, after_stops, none_passed, run_passed, run_taken, skip}
use Rattle.nj_manifest.proofs.LeftmostRuns.{skip_stops, skip_gap, gap_of, gap_passes, gap_cut}
use Rattle.nj_manifest.proofs.LeftmostFronts.{front, begins-same, fault-same, front-append, element-front}
use Rattle.nj_manifest.proofs.LeftmostSteps.{at, Fits, fits-alone, fits-gap, FailsAt}
use Rattle.nj_manifest.proofs.LeftmostSteps.{bad-place, bad-kept, bad-offers}
use Rattle.nj_manifest.proofs.LeftmostNames.{no_blank_there}

-- ---- tests on the units that follow

abbrev pub is_sound : Option UnitFault → Bool
is_sound None = true
is_sound (Some bad) = false

-- a word may end before the given units
abbrev pub ends_word : List TextUnit → Bool
ends_word us = not (begins_with in_word us) && is_sound (next_fault us)

-- words end before the given units
abbrev pub settled : List TextUnit → Bool
settled us = not (begins_with is_blank us) && (not (begins_with opens_word us) && is_sound (next_fault us))

pub not_so : (t : Bool) → not t ≡ true → t ≡ false
not_so t h = grind arith

pub so_not : (t : Bool) → t ≡ false → not t ≡ true
so_not t h = rw h refl

sound-is : (f : Option UnitFault) → is_sound f ≡ true → f ≡ None
sound-is f h = grind arith

pub is-sound : (f : Option UnitFault) → f ≡ None → is_sound f ≡ true
is-sound f h = rw h refl

pub both_so : (s t : Bool) → s ≡ true → t ≡ true → (s && t) ≡ true
both_so s t h g = rw (h, g) refl

pub settled_blank : (us : List TextUnit) → settled us ≡ true → begins_with is_blank us ≡ false
settled_blank us h = not_so _ (and_parts _ _ h).0

settled_word : (us : List TextUnit) → settled us ≡ true → begins_with opens_word us ≡ false
settled_word us h = not_so _ (and_parts _ _ (and_parts _ _ h).1).0

pub settled_fault : (us : List TextUnit) → settled us ≡ true → next_fault us ≡ None
settled_fault us h = sound-is _ (and_parts _ _ (and_parts _ _ h).1).1

pub settled_so : (us : List TextUnit) → begins_with is_blank us ≡ false → begins_with opens_word us ≡ false
    → next_fault us ≡ None → settled us ≡ true
settled_so us b w f = both_so _ _ (so_not _ b) (both_so _ _ (so_not _ w) (is-sound _ f))

ends_in : (us : List TextUnit) → ends_word us ≡ true → begins_with in_word us ≡ false
ends_in us h = not_so _ (and_parts _ _ h).0

ends_fault : (us : List TextUnit) → ends_word us ≡ true → next_fault us ≡ None
ends_fault us h = sound-is _ (and_parts _ _ h).1

pub ends_same : (x y : List TextUnit) → front x ≡ front y → ends_word x ≡ ends_word y
ends_same x y h = grind (arith, begins-same, fault-same)

pub settled_same : (x y : List TextUnit) → front x ≡ front y → settled x ≡ settled y
settled_same x y h = grind (arith, begins-same, fault-same)

neither_in : (m : Meaning) → is_blank_meaning m ≡ false → opens_word_meaning m ≡ false
    → in_word_meaning m ≡ false
neither_in m h g = grind arith

unit_no_word : (us : List TextUnit) → begins_with is_blank us ≡ false → begins_with opens_word us ≡ false
    → begins_with in_word us ≡ false
unit_no_word us b w = grind arith

pub settled_ends : (us : List TextUnit) → settled us ≡ true → ends_word us ≡ true
settled_ends us h = grind arith

pub opening_in : (m : Meaning) → opens_word_meaning m ≡ true → in_word_meaning m ≡ true
opening_in m h = grind arith

opening_no_fault : (m : Meaning) (spot : Spot) → opens_word_meaning m ≡ true → fault_of m spot ≡ None
opening_no_fault m spot h = grind arith

opening_no_pipe : (m : Meaning) → opens_word_meaning m ≡ true → is_ordinary_in (λ c. eqb c 124) m ≡ false
opening_no_pipe m h = grind arith

-- a bad unit does not belong to a word
bad_no_word : (m : Meaning) (spot : Spot) (bad : UnitFault) → fault_of m spot ≡ Some bad
    → in_word_meaning m ≡ false
bad_no_word m spot bad h = grind arith

pub bad_ends : (us : List TextUnit) (bad : UnitFault) → next_fault us ≡ Some bad
    → begins_with in_word us ≡ false
bad_ends us bad h = grind arith

-- ---- one word

abbrev pub word_call : State → Step (Option WordModel)
word_call s = called (path_word_of s)

-- by the fault there, whether a word begins there, the fault after it, and the word
abbrev word_by : Option UnitFault → Bool → Option UnitFault → WordModel → (there other : State)
    → Step (Option WordModel)
word_by f t g w there other = called (unless_fault f
    (cond t (unless_fault g (reply (Some w) there)) (reply None other)))

abbrev word_here : List TextUnit → Line → List Line → Step (Option WordModel)
word_here us e ms =
    word_by (next_fault us) (begins_with opens_word us) (next_fault (drop_while in_word us))
    (record { spot = spot_of_first us e.end; parts = parts_of (take_while in_word us) })
    (at (drop_while in_word us) e ms) (at us e ms)

word_is_here : (us : List TextUnit) (e : Line) (ms : List Line)
    → word_call (at us e ms) ≡ word_here (skip us) e ms
word_is_here us e ms = refl

word_at_units : (us x : List TextUnit) (e : Line) (ms : List Line) → skip us ≡ x
    → word_call (at us e ms) ≡ word_here x e ms
word_at_units us x e ms h = ap (λ (y : List TextUnit). word_here y e ms) h

abbrev pub word_of : TextUnit → List TextUnit → WordModel
word_of u run = record { spot = u.spot; parts = parts_of (u ∷ run) }

word_ok : (f : Option UnitFault) (t : Bool) (g : Option UnitFault) (w w' : WordModel)
    (there there' other : State) → f ≡ None → t ≡ true → g ≡ None → w ≡ w' → there ≡ there'
    → word_by f t g w there other ≡ Ok (Some w', there')
word_ok f t g w w' there there' other h i j k l = rw (h, i, j, k, l) refl

word_none : (f : Option UnitFault) (t : Bool) (g : Option UnitFault) (w : WordModel) (there other : State)
    → f ≡ None → t ≡ false → word_by f t g w there other ≡ Ok (None, other)
word_none f t g w there other h i = rw (h, i) refl

word_bad : (f : Option UnitFault) (t : Bool) (g : Option UnitFault) (w : WordModel) (there other : State)
    (bad : UnitFault) → f ≡ Some bad → word_by f t g w there other ≡ Err (bad_unit bad)
word_bad f t g w there other bad h = rw h refl

word_bad_after : (f : Option UnitFault) (t : Bool) (g : Option UnitFault) (w : WordModel)
    (there other : State) (bad : UnitFault) → f ≡ None → t ≡ true → g ≡ Some bad
    → word_by f t g w there other ≡ Err (bad_unit bad)
word_bad_after f t g w there other bad h i j = rw (h, i, j) refl

run_reads : (u : TextUnit) (run x : List TextUnit) (e : Line) (ms : List Line) → opens_word u ≡ true
    → AllIn in_word (u ∷ run) → ends_word x ≡ true
    → word_here ((u ∷ run) ++ x) e ms ≡ Ok (Some (word_of u run), at x e ms)
run_reads u run x e ms o a h =
    let rest : drop_while in_word ((u ∷ run) ++ x) ≡ x = run_passed in_word (u ∷ run) x a (ends_in x h) in
    let taken : take_while in_word ((u ∷ run) ++ x) ≡ u ∷ run = run_taken in_word (u ∷ run) x a (ends_in x h)
    in
    word_ok _ _ _ _ (word_of u run) _ (at x e ms) _ (opening_no_fault u.means u.spot o) o
    (ap next_fault rest ∙ ends_fault x h)
    (ap (λ (y : List TextUnit). record { spot = u.spot; parts = parts_of y }) taken)
    (ap (λ (y : List TextUnit). at y e ms) rest)

run_fails : (u : TextUnit) (run x : List TextUnit) (e : Line) (ms : List Line) (bad : UnitFault)
    → opens_word u ≡ true → AllIn in_word (u ∷ run) → next_fault x ≡ Some bad
    → word_here ((u ∷ run) ++ x) e ms ≡ Err (bad_unit bad)
run_fails u run x e ms bad o a h = grind (arith, run_passed, bad_ends, word_bad_after, opening_no_fault)

none_reads : (x : List TextUnit) (e : Line) (ms : List Line) → settled x ≡ true
    → word_here x e ms ≡ Ok (None, at x e ms)
none_reads x e ms h = word_none _ _ _ _ _ _ (settled_fault x h) (settled_word x h)

bad_reads : (x : List TextUnit) (e : Line) (ms : List Line) (bad : UnitFault) → next_fault x ≡ Some bad
    → word_here x e ms ≡ Err (bad_unit bad)
bad_reads x e ms bad h = word_bad _ _ _ _ _ _ bad h

-- a unit of a word is not a blank
word_no_blank : (m : Meaning) → opens_word_meaning m ≡ true → is_blank_meaning m ≡ false
word_no_blank m h = grind arith

pub word_reads : (gap : List TextUnit) (u : TextUnit) (run x : List TextUnit) (e : Line) (ms : List Line)
    → AllIn is_blank gap → opens_word u ≡ true → AllIn in_word (u ∷ run) → ends_word x ≡ true
    → word_call (at ((gap ++ u ∷ run) ++ x) e ms) ≡ Ok (Some (word_of u run), at x e ms)
word_reads gap u run x e ms g o a h = grind (
  arith,
  append_assoc,
  word_at_units,
  skip_gap,
  none_passed,
  word_no_blank,
  run_reads,
)

pub word_fails : (gap : List TextUnit) (u : TextUnit) (run x : List TextUnit) (e : Line) (ms : List Line)
    (bad : UnitFault) → AllIn is_blank gap → opens_word u ≡ true → AllIn in_word (u ∷ run)
    → next_fault x ≡ Some bad
    → word_call (at ((gap ++ u ∷ run) ++ x) e ms) ≡ Err (bad_unit bad)
word_fails gap u run x e ms bad g o a h =
    ap (λ (y : List TextUnit). word_call (at y e ms)) (append_assoc gap (u ∷ run) x)
    ∙ (word_at_units (gap ++ ((u ∷ run) ++ x)) ((u ∷ run) ++ x) e ms
    (skip_gap gap ((u ∷ run) ++ x) g ∙ none_passed is_blank ((u ∷ run) ++ x) (word_no_blank u.means o))
    ∙ run_fails u run x e ms bad o a h)

pub no_word_reads : (gap x : List TextUnit) (e : Line) (ms : List Line) → AllIn is_blank gap
    → settled x ≡ true → word_call (at (gap ++ x) e ms) ≡ Ok (None, at x e ms)
no_word_reads gap x e ms g h = grind (arith, word_at_units, skip_gap, none_passed, settled_blank, none_reads)

pub bad_word_reads : (gap x : List TextUnit) (e : Line) (ms : List Line) (bad : UnitFault)
    → AllIn is_blank gap → begins_with is_blank x ≡ false → next_fault x ≡ Some bad
    → word_call (at (gap ++ x) e ms) ≡ Err (bad_unit bad)
bad_word_reads gap x e ms bad g n h = grind (arith, word_at_units, skip_gap, none_passed, bad_reads)

-- ` x`, written after blanks
abbrev pub one_more : List TextUnit → List TextUnit
one_more z = written_unit 32 ∷ written_unit 120 ∷ z

abbrev pub word_x : WordModel
word_x = word_of (written_unit 120) []

pub one_more_reads : (gap z : List TextUnit) (e : Line) (ms : List Line) → AllIn is_blank gap
    → ends_word z ≡ true → word_call (at (gap ++ one_more z) e ms) ≡ Ok (Some word_x, at z e ms)
one_more_reads gap z e ms g h = grind (arith, word_at_units, skip_gap, run_reads)

-- ---- words, one after the other

-- Some units of a line, up to the end of its words or a fault among them; a word may always follow.
pub record WordsRun (us : List TextUnit) : Type 0 where
  pub used : List TextUnit
  pub left : List TextUnit
  pub cut : us ≡ used ++ left
  pub fits : (t : List TextUnit → Bool) (x : List TextUnit) → t x ≡ true → Fits t us (used ++ x)
  pub word : WordModel
  pub words : List WordModel
  pub more : (z : List TextUnit) (e : Line) (ms : List Line) → settled z ≡ true
      → words_next (at (used ++ one_more z) e ms) ≡ Ok (word ∷ words, at z e ms)

pub record WordsPass (us : List TextUnit) : Type 0 where
  pub run : WordsRun us
  pub value : List WordModel
  pub stops : settled run.left ≡ true
  pub goes : (x : List TextUnit) (e : Line) (ms : List Line) → settled x ≡ true
      → words_next (at (run.used ++ x) e ms) ≡ Ok (value, at x e ms)

pub data WordsSeen (us : List TextUnit) (e : Line) : Type 0 where
  there : (words : WordsPass us) → WordsSeen us e
  broken : (fault : Fault) (of : (bytes : List ℕ) → offers fault bytes ≡ true) (run : WordsRun us)
      (here : FailsAt words_next us e fault run.used run.left) → WordsSeen us e

one_more_words : (gap z : List TextUnit) (e : Line) (ms : List Line) → AllIn is_blank gap → settled z ≡ true
    → words_next (at (gap ++ one_more z) e ms) ≡ Ok (word_x ∷ [], at z e ms)
one_more_words gap z e ms g h =
    words_next-more (at (gap ++ one_more z) e ms) word_x (at z e ms)
    (one_more_reads gap z e ms g (settled_ends z h))
    ∙ ap (words_from (Some word_x) (at z e ms))
    (words_next-ends (at z e ms) (at z e ms) (no_word_reads [] z e ms tt h))

gap_run : (us : List TextUnit) → WordsRun us
gap_run us = record {
  used = gap_of us;
  left = skip us;
  cut = gap_cut us;
  fits = λ t x h. fits-gap t us x h;
  word = word_x;
  words = [];
  more = λ z e ms h. one_more_words (gap_of us) z e ms (gap_passes us) h;
}

-- a fault before the next word
bad_first : (us : List TextUnit) (e : Line) (bad : UnitFault) → next_fault (skip us) ≡ Some bad
    → WordsSeen us e
unfolding gap_run
bad_first us e bad f = broken (bad_unit bad) (bad-offers bad) (gap_run us) (record {
  cut = gap_cut us;
  place = bad-place (skip us) e bad f;
  fails = λ ms. words_next-fails (at us e ms) (bad_unit bad)
      (word_is_here us e ms ∙ bad_reads (skip us) e ms bad f);
  refuses = λ x d ms same.
      words_next-fails (at (gap_of us ++ x) d ms) (bad_unit bad)
      (bad_word_reads (gap_of us) x d ms bad (gap_passes us) (no_blank_there us x same)
      (fault-same x (skip us) (element-front x (skip us) same) ∙ f)) ∙ bad-kept (with_units x d) bad;
})

no_first : (us : List TextUnit) (e : Line) → settled (skip us) ≡ true → WordsSeen us e
unfolding gap_run
no_first us e h = there (record {
  run = gap_run us;
  value = [];
  stops = h;
  goes = λ x d ms g. words_next-ends (at (gap_of us ++ x) d ms) (at x d ms)
      (no_word_reads (gap_of us) x d ms (gap_passes us) g);
})

fits-words : (t : List TextUnit → Bool) (us gap : List TextUnit) (u : TextUnit)
    (run used left x : List TextUnit) → AllIn is_blank gap → opens_word u ≡ true
    → us ≡ ((gap ++ u ∷ run) ++ used) ++ left → Fits t us (((gap ++ u ∷ run) ++ used) ++ x)
fits-words t us [] u run used left x g o c = grind arith
fits-words t us (v ∷ gap) u run used left x g o c = grind arith

pub fits-word : (t : List TextUnit → Bool) (us gap : List TextUnit) (u : TextUnit)
    (run left x : List TextUnit) → AllIn is_blank gap → opens_word u ≡ true → us ≡ (gap ++ u ∷ run) ++ left
    → Fits t us ((gap ++ u ∷ run) ++ x)
fits-word t us [] u run left x g o c = fits-alone t us u run left x (opening_no_pipe u.means o) c
fits-word t us (v ∷ gap) u run left x g o c = grind arith

-- the reading after a word that is not the last
from_more : (w : WordModel) (s : State) (others : Step (List WordModel)) (ws : List WordModel) (after : State)
    → others ≡ Ok (ws, after) → words_from (Some w) s others ≡ Ok (w ∷ ws, after)
from_more w s others ws after h = rw h refl

from_bad : (w : WordModel) (s : State) (others : Step (List WordModel)) (f : Fault) → others ≡ Err f
    → words_from (Some w) s others ≡ Err f
from_bad w s others f h = rw h refl

-- a word before other units
module _ (us gap : List TextUnit) (u : TextUnit) (run rest : List TextUnit) (e : Line)
    (g : AllIn is_blank gap) (o : opens_word u ≡ true) (a : AllIn in_word (u ∷ run))
    (c : us ≡ (gap ++ u ∷ run) ++ rest) where
  word_before : (y : List TextUnit) (d : Line) (ms : List Line) → ends_word y ≡ true
      → words_next (at ((gap ++ u ∷ run) ++ y) d ms)
      ≡ words_from (Some (word_of u run)) (at y d ms) (words_next (at y d ms))
  word_before y d ms h = words_next-more (at ((gap ++ u ∷ run) ++ y) d ms) (word_of u run) (at y d ms)
      (word_reads gap u run y d ms g o a h)

  -- a fault right after the word
  broken_after : (bad : UnitFault) → next_fault rest ≡ Some bad → WordsSeen us e
  broken_after bad f = broken (bad_unit bad) (bad-offers bad) (record {
    used = gap ++ u ∷ run;
    left = rest;
    cut = c;
    fits = λ t x h. fits-word t us gap u run rest x g o c;
    word = word_of u run;
    words = word_x ∷ [];
    more = λ z d ms h. word_before (one_more z) d ms refl
        ∙ from_more (word_of u run) (at (one_more z) d ms) _ (word_x ∷ []) (at z d ms)
        (one_more_words [] z d ms tt h);
  }) (record {
    cut = c;
    place = bad-place rest e bad f;
    fails = λ ms. words_next-fails (at us e ms) (bad_unit bad)
        (ap (λ (y : List TextUnit). word_call (at y e ms)) c ∙ word_fails gap u run rest e ms bad g o a f);
    refuses = λ x d ms same. words_next-fails (at ((gap ++ u ∷ run) ++ x) d ms) (bad_unit bad)
        (word_fails gap u run x d ms bad g o a (fault-same x rest (element-front x rest same) ∙ f))
        ∙ bad-kept (with_units x d) bad;
  })

  -- the units that end the word end it with other units after them too
  module _ (ends : ends_word rest ≡ true) (others : WordsRun rest) where
    ends_before : (x : List TextUnit) → ends_word x ≡ true → ends_word (others.used ++ x) ≡ true
    ends_before x h = by_fit (others.fits ends_word x h)
      where
        by_fit : Fits ends_word rest (others.used ++ x) → ends_word (others.used ++ x) ≡ true
        by_fit (inl h) = h
        by_fit (inr h) = ends_same (others.used ++ x) rest h ∙ ends

    further : (x : List TextUnit) (d : Line) (ms : List Line) → ends_word (others.used ++ x) ≡ true
        → words_next (at (((gap ++ u ∷ run) ++ others.used) ++ x) d ms)
        ≡ words_from (Some (word_of u run)) (at (others.used ++ x) d ms)
        (words_next (at (others.used ++ x) d ms))
    further x d ms h = ap (λ (y : List TextUnit). words_next (at y d ms))
        (append_assoc (gap ++ u ∷ run) others.used x) ∙ word_before (others.used ++ x) d ms h

    whole_cut : us ≡ ((gap ++ u ∷ run) ++ others.used) ++ others.left
    whole_cut = c ∙ (ap (λ (y : List TextUnit). (gap ++ u ∷ run) ++ y) others.cut
        ∙ sym (append_assoc (gap ++ u ∷ run) others.used others.left))

    longer_run : WordsRun us
    longer_run = record {
      used = (gap ++ u ∷ run) ++ others.used;
      left = others.left;
      cut = whole_cut;
      fits = λ t x h. fits-words t us gap u run others.used others.left x g o whole_cut;
      word = word_of u run;
      words = others.word ∷ others.words;
      more = λ z d ms h. further (one_more z) d ms (ends_before (one_more z) refl)
          ∙ from_more (word_of u run) (at (others.used ++ one_more z) d ms) _ (others.word ∷ others.words)
          (at z d ms) (others.more z d ms h);
    }

    longer_broken : (fault : Fault) → ((bytes : List ℕ) → offers fault bytes ≡ true)
        → FailsAt words_next rest e fault others.used others.left → WordsSeen us e
    unfolding longer_run
    longer_broken fault of n = broken fault of longer_run (record {
      cut = whole_cut;
      place = n.place;
      fails = λ ms. ap (λ (y : List TextUnit). words_next (at y e ms)) c
          ∙ (word_before rest e ms ends ∙ from_bad (word_of u run) (at rest e ms) _ fault (n.fails ms));
      refuses = λ x d ms same.
          let seen = front-append others.used x others.left (element-front x others.left same)
          ∙ ap front (sym others.cut) in
          further x d ms (ends_same (others.used ++ x) rest seen ∙ ends)
          ∙ from_bad (word_of u run) (at (others.used ++ x) d ms) _ _ (n.refuses x d ms same);
    })

  longer_pass : (ends : ends_word rest ≡ true) → WordsPass rest → WordsSeen us e
  unfolding longer_run
  longer_pass ends words = there (record {
    run = longer_run ends words.run;
    value = word_of u run ∷ words.value;
    stops = words.stops;
    goes = λ x d ms h. further ends words.run x d ms (ends_before ends words.run x (settled_ends x h))
        ∙ from_more (word_of u run) (at (words.run.used ++ x) d ms) _ words.value (at x d ms)
        (words.goes x d ms h);
  })

  longer : ends_word rest ≡ true → WordsSeen rest e → WordsSeen us e
  longer ends (there words) = longer_pass ends words
  longer ends (broken fault of others n) = longer_broken ends others fault of n

shorter : (xs ys : List TextUnit) (u : TextUnit) (run rest : List TextUnit) → xs ≡ (ys ++ u ∷ run) ++ rest
    → length rest < length xs
shorter xs ys u run rest c = grind (arith, common_steps)

words_seen_in : (limit : ℕ) (us : List TextUnit) (e : Line) → length us < limit → WordsSeen us e
words_seen_in zero us e h = absurd (omega arith)
words_seen_in (suc limit) us e h = by_fault (next_fault (skip us)) refl
    (λ rest shorter. words_seen_in limit rest e shorter)
  where
    by_end : (u : TextUnit) (run rest : List TextUnit) → opens_word u ≡ true → AllIn in_word (u ∷ run)
        → begins_with in_word rest ≡ false → us ≡ (gap_of us ++ u ∷ run) ++ rest → (f : Option UnitFault)
        → next_fault rest ≡ f
        → ((rest : List TextUnit) → length rest < limit → WordsSeen rest e) → WordsSeen us e
    by_end u run rest o a n c (Some bad) f more =
        broken_after us (gap_of us) u run rest e (gap_passes us) o a c bad f
    by_end u run rest o a n c None f more =
        let short = shorter us (gap_of us) u run rest c in
        longer us (gap_of us) u run rest e (gap_passes us) o a c (both_so _ _ (so_not _ n) (is-sound _ f))
        (more rest (omega arith))

    by_run : (run : List TextUnit) → AllIn in_word run → (r : List TextUnit) → skip us ≡ r
        → begins_with opens_word r ≡ true → take_while in_word r ≡ run
        → ((rest : List TextUnit) → length rest < limit → WordsSeen rest e) → WordsSeen us e
    by_run run a [] r o t more = absurd cc
    by_run [] a (v ∷ vs) r o t more = absurd (no_units v (take_while in_word vs) run_there)
      where
        no_units : (w : TextUnit) (ws : List TextUnit) → ◌≡◌ {A = List TextUnit} (w ∷ ws) [] → ⊥
        no_units w ws g = absurd cc

        run_there : ◌≡◌ {A = List TextUnit} (v ∷ take_while in_word vs) []
        run_there = sym (take_while-cons_yes in_word v vs (opening_in v.means o)) ∙ t
    by_run (u ∷ run) a (v ∷ vs) r o t more =
        let taken : ◌≡◌ {A = List TextUnit} (v ∷ take_while in_word vs) (u ∷ run) =
        sym (take_while-cons_yes in_word v vs (opening_in v.means o)) ∙ t in
        let first : v ≡ u = cc in
        let rest = drop_while in_word (v ∷ vs) in
        let parts : skip us ≡ (u ∷ run) ++ rest =
        r ∙ (both_parts in_word (v ∷ vs) ∙ ap (λ (y : List TextUnit). y ++ rest) t) in
        let cut : us ≡ (gap_of us ++ u ∷ run) ++ rest =
        gap_cut us ∙ (ap (λ (y : List TextUnit). gap_of us ++ y) parts
        ∙ sym (append_assoc (gap_of us) (u ∷ run) rest)) in
        by_end u run rest (ap opens_word (sym first) ∙ o) a (after_stops in_word (v ∷ vs)) cut
        (next_fault rest) refl more

    by_word : (b : Bool) → begins_with opens_word (skip us) ≡ b → next_fault (skip us) ≡ None
        → ((rest : List TextUnit) → length rest < limit → WordsSeen rest e) → WordsSeen us e
    by_word false w f more = no_first us e (settled_so (skip us) (skip_stops us) w f)
    by_word true w f more = by_run (take_while in_word (skip us)) (AllIn-take_while in_word (skip us))
        (skip us) refl w refl more

    by_fault : (f : Option UnitFault) → next_fault (skip us) ≡ f
        → ((rest : List TextUnit) → length rest < limit → WordsSeen rest e) → WordsSeen us e
    by_fault (Some bad) f more = bad_first us e bad f
    by_fault None f more = by_word (begins_with opens_word (skip us)) refl f more

pub words_seen : (us : List TextUnit) (e : Line) → WordsSeen us e
words_seen us e = words_seen_in (suc (length us)) us e (omega arith)
