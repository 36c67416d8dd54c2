-- Where no path and no section may come, and where one word has to: each is passed, or the line is stuck
-- there.
use Rattle.std.proofs.Common.{arith, ◌≡◌, ℕ, Bool, true, false, cond, not, Option, Some, None, Ok, Err, inl}
use Rattle.std.proofs.Common.{inr}
use Rattle.std.proofs.Common.{List, [], ◌∷◌, ◌++◌, refl, sym, ap, ◌∙◌}
use Rattle.std.specs.List.{take_while, list_all}
use Rattle.std.specs.Str.{bytes_eq}
use Rattle.std.proofs.lemmas.Bool.{and_parts, and_from, eq-eqb}
use Rattle.nj_text.specs.declared.fault.UnitFault.{UnitFault}
use Rattle.nj_text.specs.declared.sign.Sign.{Sign}
use Rattle.nj_text.specs.declared.spot.Spot.{Spot}
use Rattle.nj_text.specs.Bytes.{drop_while, is_space, begins_with}
use Rattle.nj_text.specs.Units.{TextUnit}
use Rattle.nj_text.specs.Lines.{Line, with_units, spot_of_first}
use Rattle.nj_text.specs.Words.{is_blank, opens_word, in_word, next_fault, parts_of, WordModel}
use Rattle.nj_text.specs.Calls.{State, Between, Inside, Failed, Reply, unless_fault, fault_spot, is_empty}
use Rattle.nj_text.specs.Calls.{is_sign, state_after_sign}
use Rattle.nj_text.specs.Inside.States.{reply}
use Rattle.nj_text.proofs.Lists.{AllIn}
use Rattle.nj_manifest.specs.declared.cause.Wanted.{Wanted}
use Rattle.nj_manifest.specs.Faults.{Fault, bad_unit}
use Rattle.nj_manifest.specs.LineSteps.{Step, ◌>>=◌, called, name_next}
use Rattle.nj_manifest.specs.Leftmost.{written, are_plain, offers_next, offers}
use Rattle.nj_manifest.specs.Dyndeps.{is_same_spot}
use Rattle.nj_manifest.specs.DyndepLeftmost.{are_apart}
use Rattle.nj_manifest.proofs.Choices.{unless_missing}
use Rattle.nj_manifest.proofs.LeftmostRuns.{none_passed, skip, skip_again, skip_stops, skip_gap, gap_of}
use Rattle.nj_manifest.proofs.LeftmostRuns.{gap_passes, gap_cut}
use Rattle.nj_manifest.proofs.LeftmostFronts.{front, begins-same, fault-same, sign-same, front-append}
use Rattle.nj_manifest.proofs.LeftmostFronts.{element-front}
use Rattle.nj_manifest.proofs.LeftmostSteps.{at, text, after_name, after_words, Fits, fits-gap, Passes}
use Rattle.nj_manifest.proofs.LeftmostSteps.{FailsAt, fault-place, bad-place, bad-kept, bad-offers, Claim}
use Rattle.nj_manifest.proofs.LeftmostSteps.{Along, Outcome, stuck, stick, pass}
use Rattle.nj_manifest.proofs.LeftmostNames.{NamePasses, name_skips, no_blank_there}
use Rattle.nj_manifest.proofs.LeftmostWords.{not_so, settled, settled_so, settled_blank, settled_fault}
use Rattle.nj_manifest.proofs.LeftmostWords.{settled_same, opening_in}
use Rattle.nj_manifest.proofs.LeftmostSections.{IsMark, fits_settled}
use Rattle.nj_manifest.proofs.LeftmostBuilds.{itself}
use Rattle.nj_manifest.proofs.LeftmostTurns.{ReadTo, name_turn}
use Rattle.nj_manifest.proofs.DyndepLeftmostMarks.{marked, this_word, path_step, path_by, unbarred, bar_step}
use Rattle.nj_manifest.proofs.DyndepLeftmostOutputs.{spot-same}

-- ---- units apart

same_itself : (a : Spot) → is_same_spot a a ≡ true
same_itself a = and_from _ _ (eq-eqb a.line a.line refl) (eq-eqb a.column a.column refl)

apart_tail : (u : TextUnit) (us : List TextUnit) → are_apart (u ∷ us) ≡ true → are_apart us ≡ true
apart_tail u us h = (and_parts _ _ h).1

pub apart_after : (used us : List TextUnit) → are_apart (used ++ us) ≡ true → are_apart us ≡ true
apart_after [] us h = h
apart_after (u ∷ used) us h = apart_after used us (apart_tail u (used ++ us) h)

apart_dropped : (p : TextUnit → Bool) (us : List TextUnit) → are_apart us ≡ true
    → are_apart (drop_while p us) ≡ true
apart_dropped p [] h = h
apart_dropped p (u ∷ us) h = grind (arith, apart_dropped p us (apart_tail u us h), apart_tail u us h)

-- The first of the units that are left is not at the given place.
elsewhere : (p : TextUnit → Bool) (spot end : Spot) (us : List TextUnit)
    → list_all (λ v. not (is_same_spot v.spot spot)) us ≡ true → is_empty (drop_while p us) ≡ false
    → is_same_spot (spot_of_first (drop_while p us) end) spot ≡ false
elsewhere p spot end [] h n = absurd cc
elsewhere p spot end (u ∷ us) h n = by_test (p u) n (elsewhere p spot end us (and_parts _ _ h).1)
  where
    by_test : (t : Bool) → is_empty (cond t (drop_while p us) (u ∷ us)) ≡ false
        → (is_empty (drop_while p us) ≡ false
        → is_same_spot (spot_of_first (drop_while p us) end) spot ≡ false)
        → is_same_spot (spot_of_first (cond t (drop_while p us) (u ∷ us)) end) spot ≡ false
    by_test true n rest = rest n
    by_test false n rest = not_so _ (and_parts _ _ h).0

-- ---- no path

-- by the fault there, and whether a word opens there
abbrev clear_by : Option UnitFault → Bool → Spot → State → Step Bool
clear_by (Some bad) opens spot s = Err (bad_unit bad)
clear_by None true spot s = Err (marked spot)
clear_by None false spot s = Ok (true, s)

abbrev clear_at : List TextUnit → Line → List Line → Step Bool
clear_at us e ms = clear_by (next_fault us) (begins_with opens_word us) (spot_of_first us e.end) (at us e ms)

-- No path may come here, whatever becomes of a path that does.
abbrev pub clear_step : State → Step Bool
clear_step (Between ls) = Ok (true, Between ls)
clear_step (Inside l ls) = clear_at (skip l.units) l ls
clear_step (Failed f) = Ok (true, Failed f)

fault_there : (us : List TextUnit) (bad : UnitFault) → next_fault us ≡ Some bad → is_empty us ≡ false
fault_there us bad h = grind arith

-- by the fault there, whether a word opens there, and the fault after it
abbrev word_by : Option UnitFault → Bool → Option UnitFault → (there other : Reply (Option WordModel))
    → Reply (Option WordModel)
word_by f t g there other = unless_fault f (cond t (unless_fault g there) other)

abbrev path_here : List TextUnit → Line → List Line → Step Bool
path_here us e ms =
    let r = word_by (next_fault us) (begins_with opens_word us) (next_fault (drop_while in_word us))
    (reply (Some (record { spot = spot_of_first us e.end; parts = parts_of (take_while in_word us) }))
    (at (drop_while in_word us) e ms)) (reply None (at us e ms)) in
    path_by (spot_of_first us e.end) r

module _ (us : List TextUnit) (e : Line) (ms : List Line) where
  abbrev by_parts : Option UnitFault → Bool → Option UnitFault → Step Bool
  by_parts f t g =
      let r = word_by f t g (reply (Some (record
      { spot = spot_of_first us e.end; parts = parts_of (take_while in_word us) }))
      (at (drop_while in_word us) e ms)) (reply None (at us e ms)) in
      path_by (spot_of_first us e.end) r

  same_spot : (bad : UnitFault) (t : Bool) → is_same_spot (fault_spot bad) (spot_of_first us e.end) ≡ t
      → path_by (spot_of_first us e.end) (Err bad)
      ≡ unless_missing t (marked (spot_of_first us e.end)) (Err (bad_unit bad))
  same_spot bad t h = ap (λ (t : Bool). unless_missing t (marked (spot_of_first us e.end))
      (Err (bad_unit bad))) h

word_after : (us : List TextUnit) (e : Line) (bad : UnitFault) → are_apart us ≡ true
    → begins_with opens_word us ≡ true → next_fault (drop_while in_word us) ≡ Some bad
    → is_same_spot (fault_spot bad) (spot_of_first us e.end) ≡ false
word_after [] e bad a o h = absurd cc
word_after (u ∷ us) e bad a o h =
    let dropped : drop_while in_word (u ∷ us) ≡ drop_while in_word us =
    ap (λ (t : Bool). cond t (drop_while in_word us) (u ∷ us)) (opening_in u.means o) in
    let remainder : next_fault (drop_while in_word us) ≡ Some bad = ap next_fault (sym dropped) ∙ h in
    ap (λ (p : Spot). is_same_spot p u.spot) (fault-place (drop_while in_word us) e.end bad remainder)
    ∙ elsewhere in_word u.spot e.end us (and_parts _ _ a).0
    (fault_there (drop_while in_word us) bad remainder)

path_cleared : (us : List TextUnit) (e : Line) (ms : List Line) → are_apart us ≡ true
    → path_here us e ms ≡ clear_at us e ms
path_cleared us e ms a = by_fault (next_fault us) refl
  where
    by_after : (g : Option UnitFault) → next_fault (drop_while in_word us) ≡ g
        → begins_with opens_word us ≡ true → by_parts us e ms None true g
        ≡ Err (marked (spot_of_first us e.end))
    by_after None h o = refl
    by_after (Some bad) h o = same_spot us e ms bad false (word_after us e bad a o h)

    by_opens : (t : Bool) → begins_with opens_word us ≡ t
        → by_parts us e ms None t (next_fault (drop_while in_word us))
        ≡ clear_by None t (spot_of_first us e.end) (at us e ms)
    by_opens true o = by_after (next_fault (drop_while in_word us)) refl o
    by_opens false o = refl

    by_fault : (f : Option UnitFault) → next_fault us ≡ f
        → path_here us e ms ≡ clear_by (next_fault us) (begins_with opens_word us) (spot_of_first us e.end)
        (at us e ms)
    by_fault None h =
        ap (λ (f : Option UnitFault). by_parts us e ms f (begins_with opens_word us)
        (next_fault (drop_while in_word us))) h
        ∙ (by_opens (begins_with opens_word us) refl
        ∙ ap (λ (f : Option UnitFault). clear_by f (begins_with opens_word us) (spot_of_first us e.end)
        (at us e ms)) (sym h))
    by_fault (Some bad) h =
        ap (λ (f : Option UnitFault). by_parts us e ms f (begins_with opens_word us)
        (next_fault (drop_while in_word us))) h
        ∙ (same_spot us e ms bad true (ap (λ (p : Spot). is_same_spot p (spot_of_first us e.end))
        (fault-place us e.end bad h) ∙ same_itself (spot_of_first us e.end))
        ∙ ap (λ (f : Option UnitFault). clear_by f (begins_with opens_word us) (spot_of_first us e.end)
        (at us e ms)) (sym h))

word_again : (us : List TextUnit) (e : Line) (ms : List Line)
    → path_step (at us e ms) ≡ path_here (skip us) e ms
word_again us e ms = grind (arith, path_by, skip, skip_again)

-- Among units that are apart, both have the same result.
pub path_is_clear : (us : List TextUnit) (e : Line) (ms : List Line) → are_apart us ≡ true
    → path_step (at us e ms) ≡ clear_step (at us e ms)
path_is_clear us e ms a = word_again us e ms ∙ path_cleared (skip us) e ms (apart_dropped is_blank us a)

-- If there is no path, both report it, whether or not the units are apart.
pub path_is_passed : (us : List TextUnit) (e : Line) (ms : List Line) (y : Bool × State)
    → clear_step (at us e ms) ≡ Ok y → path_step (at us e ms) ≡ Ok y
path_is_passed us e ms y h = grind (arith, word_again, skip)

-- ---- continuing where there is no path

clear_ok : (f : Option UnitFault) (t : Bool) (spot : Spot) (s : State) → f ≡ None → t ≡ false
    → clear_by f t spot s ≡ Ok (true, s)
clear_ok f t spot s h g = rw (h, g) refl

clear_word : (f : Option UnitFault) (t : Bool) (spot : Spot) (s : State) → f ≡ None → t ≡ true
    → clear_by f t spot s ≡ Err (marked spot)
clear_word f t spot s h g = rw (h, g) refl

clear_bad : (f : Option UnitFault) (t : Bool) (spot : Spot) (s : State) (bad : UnitFault) → f ≡ Some bad
    → clear_by f t spot s ≡ Err (bad_unit bad)
clear_bad f t spot s bad h = rw h refl

clear_after : (gap x : List TextUnit) (d : Line) (ms : List Line) → AllIn is_blank gap
    → begins_with is_blank x ≡ false → clear_step (at (gap ++ x) d ms) ≡ clear_at x d ms
clear_after gap x d ms a n = grind (arith, skip_gap, none_passed)

settled_opens : (us : List TextUnit) → settled us ≡ true → begins_with opens_word us ≡ false
settled_opens us h = not_so _ (and_parts _ _ (and_parts _ _ h).1).0

abbrev clear_passes : (t : List TextUnit → Bool) (us : List TextUnit)
    → ((x : List TextUnit) → after_words x ≡ true → t x ≡ true) → settled (skip us) ≡ true
    → Passes clear_step t after_words us
clear_passes t us more h = record {
  used = gap_of us;
  left = skip us;
  value = true;
  cut = gap_cut us;
  goes = λ x d ms fit.
      let stays = fits_settled (skip us) x h fit in
      clear_after (gap_of us) x d ms (gap_passes us) (settled_blank x stays)
      ∙ clear_ok _ _ _ _ (settled_fault x stays) (settled_opens x stays);
  settled = λ x fit. by_fit x fit;
}
  where
    by_fit : (x : List TextUnit) → Fits after_words (skip us) x → Fits t us (gap_of us ++ x)
    by_fit x (inl f) = fits-gap t us x (more x f)
    by_fit x (inr f) = inr (front-append (gap_of us) x (skip us) f ∙ ap front (sym (gap_cut us)))

bad_there : (us : List TextUnit) (e : Line) (bad : UnitFault) → next_fault (skip us) ≡ Some bad
    → FailsAt clear_step us e (bad_unit bad) (gap_of us) (skip us)
bad_there us e bad f = grind (
  arith,
  gap_cut,
  bad-place,
  skip,
  clear_bad,
  clear_after,
  gap_of,
  gap_passes,
  no_blank_there,
  fault-same,
  element-front,
  bad-kept,
)

opening_there : (us : List TextUnit) → begins_with opens_word us ≡ true → is_empty us ≡ false
opening_there us h = grind arith

word_there : (us : List TextUnit) (e : Line) → next_fault (skip us) ≡ None
    → begins_with opens_word (skip us) ≡ true
    → FailsAt clear_step us e (marked (spot_of_first (skip us) e.end)) (gap_of us) (skip us)
word_there us e f o = record {
  cut = gap_cut us;
  place = refl;
  fails = λ ms. clear_word _ _ _ _ f o;
  refuses = λ x d ms same.
      let sees = element-front x (skip us) same in
      clear_after (gap_of us) x d ms (gap_passes us) (no_blank_there us x same)
      ∙ (clear_word _ _ _ _ (fault-same x (skip us) sees ∙ f) (begins-same opens_word x (skip us) sees ∙ o)
      ∙ ap (λ (p : Spot). Err (marked p)) (spot-same x (skip us) d.end e.end sees
      (opening_there (skip us) o)));
}

clear_skips : (gap x : List TextUnit) (d : Line) (ms : List Line) → AllIn is_blank gap
    → clear_step (at (gap ++ x) d ms) ≡ clear_step (at x d ms)
clear_skips gap x d ms a = ap (λ (y : List TextUnit). clear_at y d ms) (skip_gap gap x a)

-- ---- no section

-- by the fault there, and whether the sign is there
abbrev bar_by : Option UnitFault → Bool → (there other : State) → Spot → Step Bool
bar_by f t there other spot = called (unless_fault f (cond t (reply true there) (reply false other))) >>=
    unbarred spot

abbrev bar_at : Sign → List TextUnit → Line → List Line → Spot → Step Bool
bar_at want us e ms spot = bar_by (next_fault us) (is_sign want us)
    (state_after_sign want (with_units us e) ms) (at us e ms) spot

bar_is : (want : Sign) (us : List TextUnit) (e : Line) (ms : List Line) → settled us ≡ true
    → bar_step want (at us e ms) ≡ bar_at want us e ms (spot_of_first us e.end)
bar_is want us e ms h = grind arith

bar_none : (f : Option UnitFault) (t : Bool) (there other : State) (spot : Spot) → f ≡ None → t ≡ false
    → bar_by f t there other spot ≡ Ok (true, other)
bar_none f t there other spot h g = rw (h, g) refl

bar_there : (f : Option UnitFault) (t : Bool) (there other : State) (spot : Spot) → f ≡ None → t ≡ true
    → bar_by f t there other spot ≡ Err (marked spot)
bar_there f t there other spot h g = rw (h, g) refl

abbrev bar_passes : (want : Sign) (us : List TextUnit) → IsMark want → settled us ≡ true
    → is_sign want us ≡ false → Passes (bar_step want) after_words after_words us
bar_passes want us is h g = record {
  used = [];
  left = us;
  value = true;
  cut = refl;
  goes = λ x e ms fit.
      let stays = fits_settled us x h fit in
      bar_is want x e ms stays ∙ bar_none _ _ _ _ _ (settled_fault x stays) (no_sign x fit);
  settled = λ x fit. fit;
}
  where
    no_sign : (x : List TextUnit) → Fits after_words us x → is_sign want x ≡ false
    no_sign x (inl f) = is.none x f
    no_sign x (inr f) = sign-same want x us f ∙ g

bar_fails : (want : Sign) (us : List TextUnit) (e : Line) → settled us ≡ true → is_sign want us ≡ true
    → is_empty us ≡ false → FailsAt (bar_step want) us e (marked (spot_of_first us e.end)) [] us
bar_fails want us e h g some = grind (
  arith,
  bar_is,
  bar_there,
  settled_fault,
  element-front,
  settled_same,
  sign-same,
  marked,
  spot-same,
)

some_unit : (want : Sign) → is_sign want [] ≡ false → (us : List TextUnit) → is_sign want us ≡ true
    → is_empty us ≡ false
some_unit want n us h = grind arith

-- ---- turns

-- the same reading in another form
pub along-same : {B : Type 0} {P : Claim B} {whole : List TextUnit} {t : List TextUnit → Bool}
    {us : List TextUnit} (k k' : State → Step B) → ((s : State) → k s ≡ k' s) → Along P whole k t us
    → Along P whole k' t us
along-same {P = P} k h so a = grind arith

module _ {B : Type 0} {P : Claim B} {whole : List TextUnit} (e : Line) where
  -- There is no path here.
  pub clear_turn : {t : List TextUnit → Bool} {us : List TextUnit} (k : State → Step B)
      (g : Bool × State → Step B) → ((s : State) → k s ≡ (clear_step s >>= g)) → Along P whole k t us
      → ((x : List TextUnit) → after_words x ≡ true → t x ≡ true)
      → (tail : List ℕ) → are_plain tail ≡ true → after_words (text tail) ≡ true
      → ReadTo (λ ms. clear_step (at (text tail) (written []) ms) >>= g)
      → (settled (skip us) ≡ true → Along P whole (λ s. g (true, s)) after_words (skip us)
      → Outcome P whole e) → Outcome P whole e
  clear_turn {t = t} {us = us} k g so a more tail plain fit done next = by_fault (next_fault (skip us)) refl
    where
      stuck_at : (fault : Fault) → ((bytes : List ℕ) → offers fault bytes ≡ true)
          → FailsAt clear_step us e fault (gap_of us) (skip us) → Outcome P whole e
      stuck_at fault of n = stuck fault (stick k clear_step g so a n tail plain (of tail) done.0
          (fits-gap t us (text tail) (more (text tail) fit))
          (λ ms. so (at (gap_of us ++ text tail) (written []) ms)
          ∙ (ap (λ r. r >>= g) (clear_skips (gap_of us) (text tail) (written []) ms (gap_passes us))
          ∙ done.1 ms)))

      by_word : (b : Bool) → begins_with opens_word (skip us) ≡ b → next_fault (skip us) ≡ None
          → Outcome P whole e
      by_word true o f = stuck_at (marked (spot_of_first (skip us) e.end)) (λ bytes. refl)
          (word_there us e f o)
      by_word false o f =
          let h = settled_so (skip us) (skip_stops us) o f in
          next h (pass k clear_step g so a (clear_passes t us more h))

      by_fault : (f : Option UnitFault) → next_fault (skip us) ≡ f → Outcome P whole e
      by_fault (Some bad) f = stuck_at (bad_unit bad) (bad-offers bad) (bad_there us e bad f)
      by_fault None f = by_word (begins_with opens_word (skip us)) refl f

  -- No section begins here with the given sign.
  pub bar_turn : {us : List TextUnit} (want : Sign) → IsMark want → is_sign want [] ≡ false
      → (k : State → Step B) (g : Bool × State → Step B) → ((s : State) → k s ≡ (bar_step want s >>= g))
      → Along P whole k after_words us → settled us ≡ true
      → ReadTo (λ ms. bar_step want (at [] (written []) ms) >>= g)
      → (Along P whole (λ s. g (true, s)) after_words us → Outcome P whole e) → Outcome P whole e
  bar_turn {us = us} want is none k g so a h done next = by_sign (is_sign want us) refl
    where
      by_sign : (b : Bool) → is_sign want us ≡ b → Outcome P whole e
      by_sign true s = stuck _ (stick k (bar_step want) g so a
          (bar_fails want us e h s (some_unit want none us s)) [] refl refl done.0 (inl refl)
          (λ ms. so (at [] (written []) ms) ∙ done.1 ms))
      by_sign false s = next (pass k (bar_step want) g so a (bar_passes want us is h s))

  -- This word is here.
  pub word_turn : {t : List TextUnit → Bool} {us : List TextUnit} (word : List ℕ) (want : Wanted)
      (k next : State → Step B) → ((s : State) → k s ≡ (name_next want s >>= this_word word next))
      → Along P whole k t us → (tail : List ℕ) → are_plain tail ≡ true
      → offers_next want (drop_while is_space tail) ≡ true → t (text tail) ≡ true
      → ReadTo (λ ms. name_next want (at (text tail) (written []) ms) >>= this_word word next)
      → ((n : NamePasses want t us e) → Along P whole next after_name n.passes.left → Outcome P whole e)
      → Outcome P whole e
  word_turn {t = t} {us = us} word want k next so a tail plain offered fit done then =
      name_turn e want k (this_word word next) so a tail plain offered fit done
      (λ n b. by_word n (bytes_eq n.passes.value.name word) refl b)
    where
      other_reads : (n : NamePasses want t us e) (x : List TextUnit) (d : Line) (ms : List Line) (s : State)
          → bytes_eq n.passes.value.name word ≡ false → name_next want (at x d ms) ≡ Ok (n.passes.value, s)
          → k (at x d ms) ≡ Err (marked n.passes.value.spot)
      other_reads n x d ms s h r = so (at x d ms)
          ∙ (ap (λ y. y >>= this_word word next) r
          ∙ ap (λ (t : Bool). unless_missing t (marked n.passes.value.spot) (next s)) h)

      other : (n : NamePasses want t us e) → bytes_eq n.passes.value.name word ≡ false
          → FailsAt k us e (marked n.passes.value.spot) (gap_of us) (skip us)
      other n h = record {
        cut = gap_cut us;
        place = n.spot;
        fails = λ ms.
            let a = n.again (skip us) e ms refl in
            ap (λ (y : List TextUnit). k (at y e ms)) (gap_cut us)
            ∙ other_reads n (gap_of us ++ skip us) e ms a.0 h a.1;
        refuses = λ x d ms same.
            let a = n.again x d ms same in
            (other_reads n (gap_of us ++ x) d ms a.0 h a.1);
      }

      by_word : (n : NamePasses want t us e) (b : Bool) → bytes_eq n.passes.value.name word ≡ b
          → Along P whole (λ s. this_word word next (n.passes.value, s)) after_name n.passes.left
          → Outcome P whole e
      by_word n true h b = then n (along-same _ next
          (λ s. ap (λ (t : Bool). unless_missing t (marked n.passes.value.spot) (next s)) h) b)
      by_word n false h b = stuck _ (stick k k (λ x. Ok x) (λ s. itself (k s)) a (other n h) tail plain refl
          done.0 (fits-gap t us (text tail) fit)
          (λ ms. so (at (gap_of us ++ text tail) (written []) ms)
          ∙ (ap (λ r. r >>= this_word word next)
          (name_skips want (gap_of us) (text tail) (written []) ms (gap_passes us)) ∙ done.1 ms)))
