-- The one output after `build`: it is read, or stuck where it is missing or broken.
use Rattle.std.proofs.Common.{arith, ◌≡◌, ℕ, Bool, true, false, cond, not, Option, Some, None, Ok, Err, inl}
use Rattle.std.proofs.Common.{inr}
use Rattle.std.proofs.Common.{List, [], ◌∷◌, ◌++◌, refl, sym, ap, ◌∙◌, append_assoc, codes}
use Rattle.std.specs.List.{take_while}
use Rattle.nj_text.specs.declared.fault.UnitFault.{UnitFault}
use Rattle.nj_text.specs.declared.sign.Sign.TheVariants as sign
use Rattle.nj_text.specs.declared.spot.Spot.{Spot}
use Rattle.nj_text.specs.Bytes.{drop_while, begins_with}
use Rattle.nj_text.specs.Units.{TextUnit}
use Rattle.nj_text.specs.Lines.{Line, with_units, spot_of_first}
use Rattle.nj_text.specs.Words.{is_blank, opens_word, in_word, next_fault, WordModel}
use Rattle.nj_text.specs.Calls.{State, unless_fault, is_empty, is_sign}
use Rattle.nj_text.specs.Inside.States.{reply}
use Rattle.nj_text.proofs.Lists.{AllIn, AllIn-take_while, take_while-cons_yes}
use Rattle.nj_manifest.specs.declared.cause.SyntaxCause.TheVariants as cause
use Rattle.nj_manifest.specs.declared.cause.Wanted.TheVariants as wanted
use Rattle.nj_manifest.specs.Faults.{Fault, Placed, bad_unit}
use Rattle.nj_manifest.specs.LineSteps.{Step, ◌>>=◌, called}
use Rattle.nj_manifest.specs.Leftmost.{are_plain, offers}
use Rattle.nj_manifest.proofs.Choices.{unless_missing}
use Rattle.nj_manifest.proofs.LeftmostRuns.{both_parts, after_stops, skip, skip_stops, gap_of}
use Rattle.nj_manifest.proofs.LeftmostRuns.{gap_passes, gap_cut}
use Rattle.nj_manifest.proofs.LeftmostFronts.{front, fault-same, sign-same, element-front}
use Rattle.nj_manifest.proofs.LeftmostSteps.{at, text, after_name, after_words, Fits, fits-gap, Passes}
use Rattle.nj_manifest.proofs.LeftmostSteps.{FailsAt, bad-place, bad-kept, bad-offers}
use Rattle.nj_manifest.proofs.LeftmostNames.{no_blank_there}
use Rattle.nj_manifest.proofs.LeftmostWords.{settled, settled_so, settled_same}
use Rattle.nj_manifest.proofs.LeftmostWords.{settled_ends, ends_word, ends_same, so_not, both_so, is-sound}
use Rattle.nj_manifest.proofs.LeftmostWords.{opening_in, word_of, word_x, word_reads, word_fails}
use Rattle.nj_manifest.proofs.LeftmostWords.{no_word_reads, bad_word_reads, one_more_reads, fits-word}
use Rattle.nj_manifest.proofs.LeftmostSections.{colon_settled}
use Rattle.nj_manifest.proofs.DyndepLeftmostMarks.{marked, output_there, output_word}

-- the text written after the output
abbrev pub after_output : List ℕ
after_output = codes ":dyndep"

-- where the output is missing or broken, and a text that may be written there
pub record OutputStuck (us : List TextUnit) (e : Line) (fault : Fault) : Type 0 where
  pub used : List TextUnit
  pub left : List TextUnit
  pub here : FailsAt output_word us e fault used left
  pub bytes : List ℕ
  pub plain : are_plain bytes ≡ true
  pub offered : offers fault bytes ≡ true
  pub word : WordModel
  pub fits : Fits after_name us (used ++ text bytes)
  pub reads : (d : Line) (ms : List Line)
      → output_word (at (used ++ text bytes) d ms) ≡ Ok (word, at (text after_output) d ms)

pub data OutputSeen (us : List TextUnit) (e : Line) : Type 0 where
  reads_on : (passes : Passes output_word after_name after_words us) → OutputSeen us e
  ends_here : (fault : Fault) (so : OutputStuck us e fault) → OutputSeen us e

-- ---- the places of fronts that are seen alike

-- units that are seen alike are at the same place, if any
pub spot-same : (x y : List TextUnit) (d e : Spot) → front x ≡ front y → is_empty y ≡ false
    → spot_of_first x d ≡ spot_of_first y e
spot-same x y d e h n = grind arith

-- ---- no word

-- by the fault there, and whether `|` is there
abbrev missing_by : Option UnitFault → Bool → (there other : State) → Spot → Step WordModel
missing_by f t there other spot = called (unless_fault f (cond t (reply true there) (reply false other))) >>=
    λ pipe. unless_missing (not pipe.0) (marked spot) (Err (Placed spot (cause.Expected wanted.Path)))

missing_is : (f : Option UnitFault) (t u : Bool) (there other : State) (spot : Spot) → f ≡ None → t ≡ u
    → missing_by f t there other spot ≡ Err (cond u (marked spot) (Placed spot (cause.Expected wanted.Path)))
missing_is f t u there other spot h g = grind arith

output_missing : (x : List TextUnit) (d : Line) (ms : List Line) (u : Bool) → settled x ≡ true
    → is_sign sign.Pipe x ≡ u → output_there None (at x d ms)
    ≡ Err (cond u (marked (spot_of_first x d.end))
    (Placed (spot_of_first x d.end) (cause.Expected wanted.Path)))
output_missing x d ms u h g = grind arith

found_some : (r : Step (Option WordModel)) (w : WordModel) (s : State) → r ≡ Ok (Some w, s)
    → (r >>= λ found. output_there found.0 found.1) ≡ Ok (w, s)
found_some r w s h = rw h refl

found_none : (r : Step (Option WordModel)) (s : State) → r ≡ Ok (None, s)
    → (r >>= λ found. output_there found.0 found.1) ≡ output_there None s
found_none r s h = rw h refl

found_bad : (r : Step (Option WordModel)) (f : Fault) → r ≡ Err f
    → (r >>= λ found. output_there found.0 found.1) ≡ Err f
found_bad r f h = rw h refl

-- ` x` is written before anything is read
first_stuck : (us : List TextUnit) (e : Line) (fault : Fault) → offers fault (32 ∷ 120 ∷ after_output) ≡ true
    → FailsAt output_word us e fault (gap_of us) (skip us) → OutputStuck us e fault
first_stuck us e fault o n = record {
  used = gap_of us;
  left = skip us;
  here = n;
  bytes = 32 ∷ 120 ∷ after_output;
  plain = refl;
  offered = o;
  word = word_x;
  fits = fits-gap after_name us (text (32 ∷ 120 ∷ after_output)) refl;
  reads = λ d ms. found_some _ word_x (at (text after_output) d ms)
      (one_more_reads (gap_of us) (text after_output) d ms (gap_passes us) refl);
}

bad_first : (us : List TextUnit) (e : Line) (bad : UnitFault) → next_fault (skip us) ≡ Some bad
    → FailsAt output_word us e (bad_unit bad) (gap_of us) (skip us)
bad_first us e bad f = record {
  cut = gap_cut us;
  place = bad-place (skip us) e bad f;
  fails = λ ms. ap (λ (y : List TextUnit). output_word (at y e ms)) (gap_cut us)
      ∙ found_bad _ (bad_unit bad) (bad_word_reads (gap_of us) (skip us) e ms bad (gap_passes us)
      (skip_stops us) f);
  refuses = λ x d ms same.
      found_bad _ (bad_unit bad) (bad_word_reads (gap_of us) x d ms bad (gap_passes us)
      (no_blank_there us x same) (fault-same x (skip us) (element-front x (skip us) same) ∙ f))
      ∙ bad-kept (with_units x d) bad;
}

none_read : (gap x : List TextUnit) (d : Line) (ms : List Line) (u : Bool) → AllIn is_blank gap
    → settled x ≡ true → is_sign sign.Pipe x ≡ u
    → output_word (at (gap ++ x) d ms) ≡ Err
    (cond u (marked (spot_of_first x d.end)) (Placed (spot_of_first x d.end) (cause.Expected wanted.Path)))
none_read gap x d ms u a h g = grind (arith, found_none, no_word_reads, output_missing)

none_first : (us : List TextUnit) (e : Line) → settled (skip us) ≡ true → is_sign sign.Pipe (skip us) ≡ false
    → FailsAt output_word us e (Placed (spot_of_first (skip us) e.end) (cause.Expected wanted.Path))
    (gap_of us) (skip us)
none_first us e h g = grind (
  arith,
  gap_cut,
  output_word,
  none_read,
  gap_of,
  skip,
  gap_passes,
  element-front,
  settled_same,
  sign-same,
)

some_pipe : (us : List TextUnit) → is_sign sign.Pipe us ≡ true → is_empty us ≡ false
some_pipe us h = grind arith

pipe_first : (us : List TextUnit) (e : Line) → settled (skip us) ≡ true → is_sign sign.Pipe (skip us) ≡ true
    → FailsAt output_word us e (marked (spot_of_first (skip us) e.end)) (gap_of us) (skip us)
pipe_first us e h g = grind (
  arith,
  gap_cut,
  output_word,
  none_read,
  gap_of,
  skip,
  gap_passes,
  element-front,
  settled_same,
  sign-same,
  marked,
  spot-same,
  some_pipe,
)

module _ (us : List TextUnit) (u : TextUnit) (run rest : List TextUnit) (e : Line) (o : opens_word u ≡ true)
    (a : AllIn in_word (u ∷ run)) (c : us ≡ (gap_of us ++ u ∷ run) ++ rest) where
  bad_after : (bad : UnitFault) → next_fault rest ≡ Some bad → OutputStuck us e (bad_unit bad)
  bad_after bad f = record {
    used = gap_of us ++ u ∷ run;
    left = rest;
    here = record {
      cut = c;
      place = bad-place rest e bad f;
      fails = λ ms. ap (λ (y : List TextUnit). output_word (at y e ms)) c
          ∙ found_bad _ (bad_unit bad) (word_fails (gap_of us) u run rest e ms bad (gap_passes us) o a f);
      refuses = λ x d ms same. found_bad _ (bad_unit bad)
          (word_fails (gap_of us) u run x d ms bad (gap_passes us) o a
          (fault-same x rest (element-front x rest same) ∙ f)) ∙ bad-kept (with_units x d) bad;
    };
    bytes = after_output;
    plain = refl;
    offered = bad-offers bad after_output;
    word = word_of u run;
    fits = fits-word after_name us (gap_of us) u run rest (text after_output) (gap_passes us) o c;
    reads = λ d ms. found_some _ (word_of u run) (at (text after_output) d ms)
        (word_reads (gap_of us) u run (text after_output) d ms (gap_passes us) o a refl);
  }

  output_passes : ends_word rest ≡ true → Passes output_word after_name after_words us
  output_passes h = record {
    used = gap_of us ++ u ∷ run;
    left = rest;
    value = word_of u run;
    cut = c;
    goes = λ x d ms fit. found_some _ (word_of u run) (at x d ms)
        (word_reads (gap_of us) u run x d ms (gap_passes us) o a (ends x fit));
    settled = λ x fit. fits-word after_name us (gap_of us) u run rest x (gap_passes us) o c;
  }
    where
      ends : (x : List TextUnit) → Fits after_words rest x → ends_word x ≡ true
      ends x (inl f) = settled_ends x (colon_settled x f)
      ends x (inr f) = ends_same x rest f ∙ h

pub output_seen : (us : List TextUnit) (e : Line) → OutputSeen us e
output_seen us e = by_fault (next_fault (skip us)) refl
  where
    by_end : (u : TextUnit) (run rest : List TextUnit) → opens_word u ≡ true → AllIn in_word (u ∷ run)
        → begins_with in_word rest ≡ false → us ≡ (gap_of us ++ u ∷ run) ++ rest → (f : Option UnitFault)
        → next_fault rest ≡ f → OutputSeen us e
    by_end u run rest o a n c (Some bad) f = ends_here (bad_unit bad) (bad_after us u run rest e o a c bad f)
    by_end u run rest o a n c None f = reads_on
        (output_passes us u run rest e o a c (both_so _ _ (so_not _ n) (is-sound _ f)))

    by_run : (run : List TextUnit) → AllIn in_word run → (r : List TextUnit) → skip us ≡ r
        → begins_with opens_word r ≡ true → take_while in_word r ≡ run → OutputSeen us e
    by_run run a [] r o t = absurd cc
    by_run [] a (v ∷ vs) r o t = absurd (no_units v (take_while in_word vs) run_there)
      where
        no_units : (w : TextUnit) (ws : List TextUnit) → ◌≡◌ {A = List TextUnit} (w ∷ ws) [] → ⊥
        no_units w ws g = absurd cc

        run_there : ◌≡◌ {A = List TextUnit} (v ∷ take_while in_word vs) []
        run_there = sym (take_while-cons_yes in_word v vs (opening_in v.means o)) ∙ t
    by_run (u ∷ run) a (v ∷ vs) r o t =
        let taken : ◌≡◌ {A = List TextUnit} (v ∷ take_while in_word vs) (u ∷ run) =
        sym (take_while-cons_yes in_word v vs (opening_in v.means o)) ∙ t in
        let first : v ≡ u = cc in
        let rest = drop_while in_word (v ∷ vs) in
        let parts : skip us ≡ (u ∷ run) ++ rest =
        r ∙ (both_parts in_word (v ∷ vs) ∙ ap (λ (y : List TextUnit). y ++ rest) t) in
        let cut : us ≡ (gap_of us ++ u ∷ run) ++ rest =
        gap_cut us ∙ (ap (λ (y : List TextUnit). gap_of us ++ y) parts
        ∙ sym (append_assoc (gap_of us) (u ∷ run) rest)) in
        by_end u run rest (ap opens_word (sym first) ∙ o) a (after_stops in_word (v ∷ vs)) cut
        (next_fault rest) refl

    by_pipe : (t : Bool) → is_sign sign.Pipe (skip us) ≡ t → settled (skip us) ≡ true → OutputSeen us e
    by_pipe true g h = ends_here _ (first_stuck us e _ refl (pipe_first us e h g))
    by_pipe false g h = ends_here _ (first_stuck us e _ refl (none_first us e h g))

    by_word : (b : Bool) → begins_with opens_word (skip us) ≡ b → next_fault (skip us) ≡ None
        → OutputSeen us e
    by_word false w f = by_pipe (is_sign sign.Pipe (skip us)) refl (settled_so (skip us) (skip_stops us) w f)
    by_word true w f = by_run (take_while in_word (skip us)) (AllIn-take_while in_word (skip us)) (skip us)
        refl w refl

    by_fault : (f : Option UnitFault) → next_fault (skip us) ≡ f → OutputSeen us e
    by_fault (Some bad) f = ends_here (bad_unit bad)
        (first_stuck us e (bad_unit bad) (bad-offers bad _) (bad_first us e bad f))
    by_fault None f = by_word (begins_with opens_word (skip us)) refl f
