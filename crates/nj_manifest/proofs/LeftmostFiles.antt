-- The one word after `include` or `subninja`.
use Rattle.std.proofs.Common.{arith, ◌≡◌, ℕ, Bool, true, false, Option, Some, None, Ok, Err, inl, inr, List}
use Rattle.std.proofs.Common.{[], ◌∷◌}
use Rattle.std.proofs.Common.{◌++◌, refl, sym, ap, ◌∙◌, append_assoc}
use Rattle.std.specs.List.{take_while}
use Rattle.nj_text.specs.declared.fault.UnitFault.{UnitFault}
use Rattle.nj_text.specs.Bytes.{drop_while, begins_with}
use Rattle.nj_text.specs.Units.{TextUnit}
use Rattle.nj_text.specs.Lines.{Line, with_units, spot_of_first}
use Rattle.nj_text.specs.Words.{opens_word, in_word, next_fault, WordModel}
use Rattle.nj_text.specs.Calls.{State}
use Rattle.nj_text.proofs.Lists.{AllIn, AllIn-take_while, take_while-cons_yes}
use Rattle.nj_manifest.specs.declared.cause.SyntaxCause.TheVariants as cause
use Rattle.nj_manifest.specs.declared.cause.Wanted.TheVariants as wanted
use Rattle.nj_manifest.specs.Faults.{Fault, Placed, bad_unit}
use Rattle.nj_manifest.specs.LineSteps.{Step, ◌>>=◌}
use Rattle.nj_manifest.specs.Leftmost.{are_plain, offers}
use Rattle.nj_manifest.proofs.Choices.{path_there}
use Rattle.nj_manifest.proofs.LeftmostRuns.{both_parts, after_stops, skip, skip_stops, gap_of, gap_passes}
use Rattle.nj_manifest.proofs.LeftmostRuns.{gap_cut}
use Rattle.nj_manifest.proofs.LeftmostFronts.{fault-same, element-front}
use Rattle.nj_manifest.proofs.LeftmostSteps.{at, text, after_name, after_words, Fits, fits-gap, Passes}
use Rattle.nj_manifest.proofs.LeftmostSteps.{FailsAt, bad-place, bad-kept, bad-offers}
use Rattle.nj_manifest.proofs.LeftmostNames.{no_blank_there}
use Rattle.nj_manifest.proofs.LeftmostWords.{settled, settled_so, settled_same, settled_ends, ends_word}
use Rattle.nj_manifest.proofs.LeftmostWords.{ends_same, so_not, both_so, is-sound, opening_in, word_call}
use Rattle.nj_manifest.proofs.LeftmostWords.{word_of, word_x, word_reads, word_fails, no_word_reads}
use Rattle.nj_manifest.proofs.LeftmostWords.{bad_word_reads, one_more_reads, fits-word}
use Rattle.nj_manifest.proofs.LeftmostSections.{colon_settled}

-- a word that is required
abbrev pub file_word : State → Step WordModel
file_word s = word_call s >>= λ found. path_there found.0 found.1

-- where the word is missing or broken, and a text that may be written there
pub record FileStuck (us : List TextUnit) (e : Line) (fault : Fault) : Type 0 where
  pub used : List TextUnit
  pub left : List TextUnit
  pub here : FailsAt file_word us e fault used left
  pub bytes : List ℕ
  pub plain : are_plain bytes ≡ true
  pub offered : offers fault bytes ≡ true
  pub word : WordModel
  pub fits : Fits after_name us (used ++ text bytes)
  pub reads : (d : Line) (ms : List Line) → file_word (at (used ++ text bytes) d ms) ≡ Ok (word, at [] d ms)

pub data FileSeen (us : List TextUnit) (e : Line) : Type 0 where
  reads_on : (passes : Passes file_word after_name after_words us) → FileSeen us e
  ends_here : (fault : Fault) (so : FileStuck us e fault) → FileSeen us e

found_some : (r : Step (Option WordModel)) (w : WordModel) (s : State) → r ≡ Ok (Some w, s)
    → (r >>= λ found. path_there found.0 found.1) ≡ Ok (w, s)
found_some r w s h = rw h refl

found_none : (r : Step (Option WordModel)) (us : List TextUnit) (e : Line) (ms : List Line)
    → r ≡ Ok (None, at us e ms) → (r >>= λ found. path_there found.0 found.1)
    ≡ Err (Placed (spot_of_first us e.end) (cause.Expected wanted.Path))
found_none r us e ms h = rw h refl

found_bad : (r : Step (Option WordModel)) (f : Fault) → r ≡ Err f
    → (r >>= λ found. path_there found.0 found.1) ≡ Err f
found_bad r f h = rw h refl

-- ` x` is written before anything is read
first_stuck : (us : List TextUnit) (e : Line) (fault : Fault) → offers fault (32 ∷ 120 ∷ []) ≡ true
    → FailsAt file_word us e fault (gap_of us) (skip us) → FileStuck us e fault
first_stuck us e fault o n = record {
  used = gap_of us;
  left = skip us;
  here = n;
  bytes = 32 ∷ 120 ∷ [];
  plain = refl;
  offered = o;
  word = word_x;
  fits = fits-gap after_name us (text (32 ∷ 120 ∷ [])) refl;
  reads = λ d ms. found_some _ word_x (at [] d ms) (one_more_reads (gap_of us) [] d ms (gap_passes us) refl);
}

bad_first : (us : List TextUnit) (e : Line) (bad : UnitFault) → next_fault (skip us) ≡ Some bad
    → FailsAt file_word us e (bad_unit bad) (gap_of us) (skip us)
bad_first us e bad f = record {
  cut = gap_cut us;
  place = bad-place (skip us) e bad f;
  fails = λ ms. ap (λ (y : List TextUnit). file_word (at y e ms)) (gap_cut us)
      ∙ found_bad _ (bad_unit bad) (bad_word_reads (gap_of us) (skip us) e ms bad (gap_passes us)
      (skip_stops us) f);
  refuses = λ x d ms same.
      found_bad _ (bad_unit bad) (bad_word_reads (gap_of us) x d ms bad (gap_passes us)
      (no_blank_there us x same) (fault-same x (skip us) (element-front x (skip us) same) ∙ f))
      ∙ bad-kept (with_units x d) bad;
}

none_first : (us : List TextUnit) (e : Line) → settled (skip us) ≡ true
    → FailsAt file_word us e (Placed (spot_of_first (skip us) e.end) (cause.Expected wanted.Path)) (gap_of us)
    (skip us)
none_first us e h = grind (
  arith,
  gap_cut,
  found_none,
  skip,
  no_word_reads,
  gap_of,
  gap_passes,
  settled_same,
  element-front,
)

module _ (us : List TextUnit) (u : TextUnit) (run rest : List TextUnit) (e : Line) (o : opens_word u ≡ true)
    (a : AllIn in_word (u ∷ run)) (c : us ≡ (gap_of us ++ u ∷ run) ++ rest) where
  bad_after : (bad : UnitFault) → next_fault rest ≡ Some bad → FileStuck us e (bad_unit bad)
  bad_after bad f = record {
    used = gap_of us ++ u ∷ run;
    left = rest;
    here = record {
      cut = c;
      place = bad-place rest e bad f;
      fails = λ ms. ap (λ (y : List TextUnit). file_word (at y e ms)) c
          ∙ found_bad _ (bad_unit bad) (word_fails (gap_of us) u run rest e ms bad (gap_passes us) o a f);
      refuses = λ x d ms same. found_bad _ (bad_unit bad)
          (word_fails (gap_of us) u run x d ms bad (gap_passes us) o a
          (fault-same x rest (element-front x rest same) ∙ f)) ∙ bad-kept (with_units x d) bad;
    };
    bytes = [];
    plain = refl;
    offered = bad-offers bad [];
    word = word_of u run;
    fits = fits-word after_name us (gap_of us) u run rest [] (gap_passes us) o c;
    reads = λ d ms. found_some _ (word_of u run) (at [] d ms)
        (word_reads (gap_of us) u run [] d ms (gap_passes us) o a refl);
  }

  file_passes : ends_word rest ≡ true → Passes file_word after_name after_words us
  file_passes h = record {
    used = gap_of us ++ u ∷ run;
    left = rest;
    value = word_of u run;
    cut = c;
    goes = λ x d ms fit. found_some _ (word_of u run) (at x d ms)
        (word_reads (gap_of us) u run x d ms (gap_passes us) o a (ends x fit));
    settled = λ x fit. fits-word after_name us (gap_of us) u run rest x (gap_passes us) o c;
  }
    where
      ends : (x : List TextUnit) → Fits after_words rest x → ends_word x ≡ true
      ends x (inl f) = settled_ends x (colon_settled x f)
      ends x (inr f) = ends_same x rest f ∙ h

pub file_seen : (us : List TextUnit) (e : Line) → FileSeen us e
file_seen us e = by_fault (next_fault (skip us)) refl
  where
    by_end : (u : TextUnit) (run rest : List TextUnit) → opens_word u ≡ true → AllIn in_word (u ∷ run)
        → begins_with in_word rest ≡ false → us ≡ (gap_of us ++ u ∷ run) ++ rest → (f : Option UnitFault)
        → next_fault rest ≡ f → FileSeen us e
    by_end u run rest o a n c (Some bad) f = ends_here (bad_unit bad) (bad_after us u run rest e o a c bad f)
    by_end u run rest o a n c None f = reads_on
        (file_passes us u run rest e o a c (both_so _ _ (so_not _ n) (is-sound _ f)))

    by_run : (run : List TextUnit) → AllIn in_word run → (r : List TextUnit) → skip us ≡ r
        → begins_with opens_word r ≡ true → take_while in_word r ≡ run → FileSeen us e
    by_run run a [] r o t = absurd cc
    by_run [] a (v ∷ vs) r o t = absurd (no_units v (take_while in_word vs) run_there)
      where
        no_units : (w : TextUnit) (ws : List TextUnit) → ◌≡◌ {A = List TextUnit} (w ∷ ws) [] → ⊥
        no_units w ws g = absurd cc

        run_there : ◌≡◌ {A = List TextUnit} (v ∷ take_while in_word vs) []
        run_there = sym (take_while-cons_yes in_word v vs (opening_in v.means o)) ∙ t
    by_run (u ∷ run) a (v ∷ vs) r o t =
        let taken : ◌≡◌ {A = List TextUnit} (v ∷ take_while in_word vs) (u ∷ run) =
        sym (take_while-cons_yes in_word v vs (opening_in v.means o)) ∙ t in
        let first : v ≡ u = cc in
        let rest = drop_while in_word (v ∷ vs) in
        let parts : skip us ≡ (u ∷ run) ++ rest =
        r ∙ (both_parts in_word (v ∷ vs) ∙ ap (λ (y : List TextUnit). y ++ rest) t) in
        let cut : us ≡ (gap_of us ++ u ∷ run) ++ rest =
        gap_cut us ∙ (ap (λ (y : List TextUnit). gap_of us ++ y) parts
        ∙ sym (append_assoc (gap_of us) (u ∷ run) rest)) in
        by_end u run rest (ap opens_word (sym first) ∙ o) a (after_stops in_word (v ∷ vs)) cut
        (next_fault rest) refl

    by_word : (b : Bool) → begins_with opens_word (skip us) ≡ b → next_fault (skip us) ≡ None → FileSeen us e
    by_word false w f = ends_here _ (first_stuck us e _ refl
        (none_first us e (settled_so (skip us) (skip_stops us) w f)))
    by_word true w f = by_run (take_while in_word (skip us)) (AllIn-take_while in_word (skip us)) (skip us)
        refl w refl

    by_fault : (f : Option UnitFault) → next_fault (skip us) ≡ f → FileSeen us e
    by_fault (Some bad) f = ends_here (bad_unit bad)
        (first_stuck us e (bad_unit bad) (bad-offers bad _) (bad_first us e bad f))
    by_fault None f = by_word (begins_with opens_word (skip us)) refl f
