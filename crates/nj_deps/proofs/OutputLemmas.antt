-- Lemmas on how outputs are held.
use Rattle.std.proofs.lemmas.Grind.{common_steps}
use Rattle.std.proofs.Common.{◌≡◌, ◌≢◌, ◌⊎◌, ◌<◌, ◌≤◌, ◌+◌, ℕ, zero, suc, Bool, true, false, cond, Some}
use Rattle.std.proofs.Common.{None, List, [], ◌∷◌, ◌++◌, length, get_or, slice_get, slice_range}
use Rattle.std.proofs.Common.{nat_eq, refl, sym, ap, subst, ◌∙◌, inl, inr, arith, length-append, add-one}
use Rattle.std.specs.Prelude.{slice_set, slice_index_or}
use Rattle.std.specs.List.{AllByRecursion}
use Rattle.std.proofs.lemmas.Bool.{cases_lt, eq-eqb}
use Rattle.std.proofs.lemmas.Bool.Decides.{eqb_tells}
use Rattle.std.proofs.lemmas.List.{length-set, get_or-set_same}
use Rattle.std.proofs.lemmas.List.{get_or-set_other, get_or_append_left}
use Rattle.std.proofs.Math.Seq.{get_or-append_seam}
use Rattle.nj_deps.specs.declared.logged_outputs.HeldOutput.{HeldOutput}
use Rattle.nj_deps.specs.Logs.{OutputModel, IsOfPaths, with_output, output_of}
use Rattle.nj_deps.specs.Inside.OutputsHeld.{OutputsModel, logged, all_logged, IsHeld, later_place, place_of}
use Rattle.nj_deps.specs.Inside.OutputsHeld.{ArePlaces, with_held, AreOutputsHeld, Keeps}
use Rattle.nj_deps.specs.Inside.RecordsRead.{BeginsWith, AppendsNumbers}

-- ---- their inputs

part-grown : (inputs more : List ℕ) (start end : ℕ) → start ≤ end → end ≤ length inputs
    → slice_range (inputs ++ more) start end ≡ slice_range inputs start end
part-grown inputs more start end rises ends = grind (arith, common_steps)

-- inputs that are appended change no output
pub logged-grown : (inputs more : List ℕ) (count : ℕ) (outputs : List HeldOutput)
    → AllByRecursion (IsHeld (length inputs) count) outputs
    → all_logged (inputs ++ more) outputs ≡ all_logged inputs outputs
logged-grown inputs more count [] held = refl
logged-grown inputs more count (o ∷ outputs) held = grind (
  arith,
  part-grown inputs more o.start o.end held.0.rises held.0.ends,
  logged-grown inputs more count outputs held.1,
)

pub held-grown : (size count size' count' : ℕ) (outputs : List HeldOutput) → size ≤ size' → count ≤ count'
    → AllByRecursion (IsHeld size count) outputs → AllByRecursion (IsHeld size' count') outputs
held-grown size count size' count' [] larger more held = tt
held-grown size count size' count' (o ∷ outputs) larger more held = grind (
  arith,
  held-grown size count size' count' outputs larger more held.1,
)

pub held-set : (size count : ℕ) (outputs : List HeldOutput) (h : HeldOutput)
    → AllByRecursion (IsHeld size count) outputs → IsHeld size count h
    → AllByRecursion (IsHeld size count) (with_held outputs h)
held-set size count [] h held one = (one, tt)
held-set size count (o ∷ outputs) h held one = grind (
  arith,
  nat_eq o.output h.output,
  held-set size count outputs h held.1 one,
)

pub logged-set : (inputs : List ℕ) (outputs : List HeldOutput) (h : HeldOutput)
    → all_logged inputs (with_held outputs h) ≡ with_output (all_logged inputs outputs) (logged inputs h)
logged-set inputs [] h = refl
logged-set inputs (o ∷ outputs) h = grind (arith, nat_eq o.output h.output, logged-set inputs outputs h)

-- ---- their places

later-zero : (place : ℕ) → later_place place ≡ 0 → place ≡ 0
later-zero place e = grind arith

-- a new output comes last
pub set-new : (outputs : List HeldOutput) (h : HeldOutput) → place_of outputs h.output ≡ 0
    → with_held outputs h ≡ outputs ++ h ∷ []
set-new [] h none = refl
set-new (o ∷ outputs) h none = by (nat_eq o.output h.output) none (set-new outputs h)
  where
    by : (b : Bool) → cond b 1 (later_place (place_of outputs h.output)) ≡ 0
        → (place_of outputs h.output ≡ 0 → with_held outputs h ≡ outputs ++ h ∷ [])
        → cond b (h ∷ outputs) (o ∷ with_held outputs h) ≡ o ∷ outputs ++ h ∷ []
    by true none rest = absurd (omega arith)
    by false none rest = ap (λ os. o ∷ os) (rest (later-zero (place_of outputs h.output) none))

-- the facts about a place
pub record IsAt (outputs : List HeldOutput) (h : HeldOutput) (index : ℕ) : Type 0 where
  pub within : index < length outputs
  pub set : with_held outputs h ≡ slice_set outputs index h

pub set-at : (outputs : List HeldOutput) (h : HeldOutput) (index : ℕ) → place_of outputs h.output ≡ suc index
    → IsAt outputs h index
set-at [] h index at = absurd (omega arith)
set-at (o ∷ outputs) h index at = let r =
    by (nat_eq o.output h.output) index (place_of outputs h.output) at (set-at outputs h) in
    record { within = r.0; set = r.1 }
  where
    by : (b : Bool) (i place : ℕ) → cond b 1 (later_place place) ≡ suc i
        → ((j : ℕ) → place ≡ suc j → IsAt outputs h j)
        → (i < suc (length outputs)) × (cond b (h ∷ outputs) (o ∷ with_held outputs h)
        ≡ slice_set (o ∷ outputs) i h)
    by true zero place at rest = (omega arith, refl)
    by true (suc i) place at rest = absurd (omega arith)
    by false i zero at rest = absurd (omega arith)
    by false zero (suc place) at rest = absurd (omega arith)
    by false (suc i) (suc place) at rest = let r = rest i (omega arith) in let within : i < length outputs =
        r.within in (omega arith, ap (λ os. o ∷ os) r.set)

-- ---- places that are kept

pushed-other : (outputs : List HeldOutput) (h : HeldOutput) (n : ℕ) → nat_eq h.output n ≡ false
    → place_of (outputs ++ h ∷ []) n ≡ place_of outputs n
pushed-other [] h n other = ap (λ b. cond b 1 0) other
pushed-other (o ∷ outputs) h n other = grind (arith, nat_eq o.output n, pushed-other outputs h n other)

pushed-same : (outputs : List HeldOutput) (h : HeldOutput) → place_of outputs h.output ≡ 0
    → place_of (outputs ++ h ∷ []) h.output ≡ suc (length outputs)
pushed-same [] h none = ap (λ b. cond b 1 0) (eq-eqb h.output h.output refl)
pushed-same (o ∷ outputs) h none = by (nat_eq o.output h.output) none (pushed-same outputs h)
  where
    by : (b : Bool) → cond b 1 (later_place (place_of outputs h.output)) ≡ 0
        → (place_of outputs h.output ≡ 0 → place_of (outputs ++ h ∷ []) h.output ≡ suc (length outputs))
        → cond b 1 (later_place (place_of (outputs ++ h ∷ []) h.output)) ≡ suc (suc (length outputs))
    by true none rest = absurd (omega arith)
    by false none rest = ap later_place (rest (later-zero (place_of outputs h.output) none))

-- an output that is replaced keeps each place
pub kept-place : (outputs : List HeldOutput) (h : HeldOutput) (n : ℕ) → place_of outputs h.output ≢ 0
    → place_of (with_held outputs h) n ≡ place_of outputs n
kept-place [] h n there = absurd (there refl)
kept-place (o ∷ outputs) h n there = by (kept-place outputs h n) (eqb_tells o.output h.output)
  where
    by : (place_of outputs h.output ≢ 0 → place_of (with_held outputs h) n ≡ place_of outputs n)
        → ((nat_eq o.output h.output ≡ true) × (o.output ≡ h.output))
        ⊎ ((nat_eq o.output h.output ≡ false) × (o.output ≢ h.output))
        → place_of (with_held (o ∷ outputs) h) n ≡ place_of (o ∷ outputs) n
    by rest (inl same) =
        ap (λ b. place_of (cond b (h ∷ outputs) (o ∷ with_held outputs h)) n) same.0
        ∙ ap (λ k. cond (nat_eq k n) 1 (later_place (place_of outputs n))) (sym same.1)
    by rest (inr other) =
        let again = λ (e : place_of outputs h.output ≡ 0). there
        (ap (λ b. cond b 1 (later_place (place_of outputs h.output))) other.0 ∙ ap later_place e) in
        ap (λ b. place_of (cond b (h ∷ outputs) (o ∷ with_held outputs h)) n) other.0
        ∙ ap (λ p. cond (nat_eq o.output n) 1 (later_place p)) (rest again)

pub places-kept : (outputs : List HeldOutput) (places : List ℕ) (h : HeldOutput) → ArePlaces outputs places
    → place_of outputs h.output ≢ 0 → ArePlaces (with_held outputs h) places
places-kept outputs places h are there n below = are n below ∙ sym (kept-place outputs h n there)

pub places-new : (outputs : List HeldOutput) (places : List ℕ) (h : HeldOutput) → ArePlaces outputs places
    → h.output < length places → place_of outputs h.output ≡ 0
    → ArePlaces (outputs ++ h ∷ []) (slice_set places h.output (length outputs + 1))
places-new outputs places h are known none n below = grind (
  arith,
  eqb_tells,
  nat_eq,
  length,
  get_or-set_same,
  add-one,
  pushed-same,
  get_or-set_other,
  length-set,
  pushed-other,
)

-- no output has a path that is new
place-past : (size count n : ℕ) (outputs : List HeldOutput) → AllByRecursion (IsHeld size count) outputs
    → count ≤ n → place_of outputs n ≡ 0
place-past size count n [] held past = refl
place-past size count n (o ∷ outputs) held past = grind (
  arith,
  place-past size count n outputs held.1 past,
  eqb_tells o.output n,
  nat_eq o.output n,
)

pub places-path : (size : ℕ) (outputs : List HeldOutput) (places : List ℕ)
    → AllByRecursion (IsHeld size (length places)) outputs → ArePlaces outputs places
    → ArePlaces outputs (places ++ 0 ∷ [])
places-path size outputs places held are n below = by (cases_lt n (length places))
  where
    by : (n < length places) ⊎ (length places ≤ n)
        → slice_index_or (places ++ 0 ∷ []) n 0 ≡ place_of outputs n
    by (inl before) = get_or_append_left places (0 ∷ []) 0 n before ∙ are n before
    by (inr past) =
        let last : n ≡ length places = omega (arith, length-append places (0 ∷ [])) in
        ap (λ k. slice_index_or (places ++ 0 ∷ []) k 0) last ∙ get_or-append_seam places 0 [] 0
        ∙ sym (place-past size (length places) n outputs held past)

-- ---- the found output

pub found-none : (inputs : List ℕ) (outputs : List HeldOutput) (n : ℕ) → place_of outputs n ≡ 0
    → output_of (all_logged inputs outputs) n ≡ None
found-none inputs [] n none = refl
found-none inputs (o ∷ outputs) n none = by (nat_eq o.output n) none (found-none inputs outputs n)
  where
    by : (b : Bool) → cond b 1 (later_place (place_of outputs n)) ≡ 0
        → (place_of outputs n ≡ 0 → output_of (all_logged inputs outputs) n ≡ None)
        → cond b (Some (logged inputs o)) (output_of (all_logged inputs outputs) n) ≡ None
    by true none rest = absurd (omega arith)
    by false none rest = rest (later-zero (place_of outputs n) none)

pub record IsFoundAt (inputs : List ℕ) (outputs : List HeldOutput) (n index : ℕ) : Type 0 where
  pub within : index < length outputs
  pub found : slice_get (all_logged inputs outputs) index ≡ output_of (all_logged inputs outputs) n

pub found-at : (inputs : List ℕ) (outputs : List HeldOutput) (n index : ℕ) → place_of outputs n ≡ suc index
    → IsFoundAt inputs outputs n index
found-at inputs [] n index at = absurd (omega arith)
found-at inputs (o ∷ outputs) n index at = let r =
    by (nat_eq o.output n) index (place_of outputs n) at (found-at inputs outputs n) in
    record { within = r.0; found = r.1 }
  where
    by : (b : Bool) (i place : ℕ) → cond b 1 (later_place place) ≡ suc i
        → ((j : ℕ) → place ≡ suc j → IsFoundAt inputs outputs n j)
        → (i < suc (length outputs)) × (slice_get (all_logged inputs (o ∷ outputs)) i
        ≡ cond b (Some (logged inputs o)) (output_of (all_logged inputs outputs) n))
    by true zero place at rest = (omega arith, refl)
    by true (suc i) place at rest = absurd (omega arith)
    by false i zero at rest = absurd (omega arith)
    by false zero (suc place) at rest = absurd (omega arith)
    by false (suc i) (suc place) at rest = let r = rest i (omega arith) in let within : i < length outputs =
        r.within in (omega arith, r.found)

-- ---- numbers are of paths

pub known-more : (count count' : ℕ) (ns : List ℕ) → count ≤ count' → AllByRecursion (λ n. n < count) ns
    → AllByRecursion (λ n. n < count') ns
known-more count count' [] more known = tt
known-more count count' (n ∷ ns) more known = grind (arith, known-more count count' ns more known.1)

pub paths-one : (count count' : ℕ) (o : OutputModel) → count ≤ count' → IsOfPaths count o → IsOfPaths count' o
paths-one count h o more known = grind (arith, known-more)

pub paths-more : (count count' : ℕ) (outputs : List OutputModel) → count ≤ count'
    → AllByRecursion (IsOfPaths count) outputs → AllByRecursion (IsOfPaths count') outputs
paths-more count count' [] more known = tt
paths-more count count' (o ∷ outputs) more known =
    (paths-one count count' o more known.0, paths-more count count' outputs more known.1)

pub paths-set : (count : ℕ) (outputs : List OutputModel) (o : OutputModel)
    → AllByRecursion (IsOfPaths count) outputs → IsOfPaths count o
    → AllByRecursion (IsOfPaths count) (with_output outputs o)
paths-set count [] o known one = (one, tt)
paths-set count (p ∷ outputs) o known one = grind (
  arith,
  nat_eq p.output o.output,
  paths-set count outputs o known.1 one,
)

pub paths_at : (count : ℕ) (outputs : List OutputModel) (index : ℕ) (o : OutputModel)
    → AllByRecursion (IsOfPaths count) outputs → slice_get outputs index ≡ Some o → IsOfPaths count o
paths_at count [] index o known at = cc
paths_at count (p ∷ outputs) zero o known at = let is : p ≡ o = cc in subst (IsOfPaths count) is known.0
paths_at count (p ∷ outputs) (suc index) o known at = paths_at count outputs index o known.1 at

-- ---- a place that is read

get_or-same : (xs : List ℕ) (i d e : ℕ) → i < length xs → get_or xs i d ≡ get_or xs i e
get_or-same xs i d e below = grind (arith, common_steps)

pub place-is : (outputs : List HeldOutput) (places : List ℕ) (n place : ℕ) → n < length places
    → ArePlaces outputs places → place ≡ slice_index_or places n place → place ≡ place_of outputs n
place-is outputs places n place below are at = at ∙ get_or-same places n place 0 below ∙ are n below

-- no output has a number that is not a path's
pub unknown-output : (count n : ℕ) (outputs : List OutputModel) → AllByRecursion (IsOfPaths count) outputs
    → count ≤ n → output_of outputs n ≡ None
unknown-output count n [] known past = refl
unknown-output count n (o ∷ outputs) known past = grind (
  arith,
  eqb_tells o.output n,
  unknown-output count n outputs known.1 past,
  nat_eq o.output n,
)

-- ---- all together

abbrev pub view : List ℕ → List HeldOutput → List ℕ → OutputsModel
view inputs outputs places = record { count = length places; outputs = all_logged inputs outputs }

-- inputs that are appended, and another path
pub held-now : (ins ins' : List ℕ) (outs outs' : List HeldOutput) (places places' : List ℕ)
    → AreOutputsHeld ins outs places → BeginsWith ins ins' → outs' ≡ outs → length places' ≡ length places
    → ArePlaces outs' places'
    → AreOutputsHeld ins' outs' places'
held-now ins ins' outs outs' places places' held grown same count are = record {
  held = subst (AllByRecursion (IsHeld (length ins') (length places'))) (sym same)
      (held-grown (length ins) (length places) (length ins') (length places') outs larger (omega arith)
      held.held);
  are_places = are;
  of_paths = subst (λ os. AllByRecursion (IsOfPaths (length places')) (all_logged ins' os)) (sym same)
      (subst (AllByRecursion (IsOfPaths (length places'))) (sym texts)
      (paths-more (length places) (length places') (all_logged ins outs) (omega arith) held.of_paths));
}
  where
    larger : length ins ≤ length ins'
    larger = let l = ap length grown.1 in omega (arith, length-append ins grown.0)

    texts : all_logged ins' outs ≡ all_logged ins outs
    texts = ap (λ xs. all_logged xs outs) grown.1 ∙ logged-grown ins grown.0 (length places) outs held.held

pub path-held : (ins : List ℕ) (outs : List HeldOutput) (places : List ℕ) → AreOutputsHeld ins outs places
    → AreOutputsHeld ins outs (places ++ 0 ∷ [])
path-held ins outs places held = grind (arith, held-grown, length, length-append, places-path, paths-more)

pub not-kept : (output time count : ℕ) (bytes ins ins' : List ℕ) (outs : List HeldOutput) (places : List ℕ)
    (old : OutputsModel) (all : Bool) → AreOutputsHeld ins outs places → view ins outs places ≡ old
    → count ≡ length places → BeginsWith ins ins' → AppendsNumbers count bytes ins ins' all → all ≡ false
    → Keeps output time bytes old (view ins' outs places) false
not-kept output time count bytes ins ins' outs places old all held is counts grown appended none = (
  (λ inputs cut below known. subst (AppendsNumbers count bytes ins ins') none appended inputs cut
      (subst (λ k. AllByRecursion (λ n. n < k) inputs) (sym (counts ∙ ap (λ (t : OutputsModel). t.count) is))
      known)),
  ap (λ os. record { count = length places; outputs = os })
      (ap (λ xs. all_logged xs outs) grown.1 ∙ logged-grown ins grown.0 (length places) outs held.held) ∙ is,
)

part-appended : (ins ns : List ℕ) → slice_range (ins ++ ns) (length ins) (length (ins ++ ns)) ≡ ns
part-appended ins ns = grind (arith, common_steps)

-- an output that is kept, with numbers that were appended
pub record IsKept (output time : ℕ) (ins ins' : List ℕ) (outs outs' : List HeldOutput)
    (places places' : List ℕ) (h : HeldOutput) : Type 0 where
  pub is_output : h.output ≡ output
  pub is_time : h.time ≡ time
  pub starts : h.start ≡ length ins
  pub ends : h.end ≡ length ins'
  pub set : outs' ≡ with_held outs h
  pub count : length places' ≡ length places
  pub are : ArePlaces outs' places'

kept-text : (output time : ℕ) (ins ins' ns : List ℕ) (outs outs' : List HeldOutput) (places places' : List ℕ)
    (h : HeldOutput) → IsKept output time ins ins' outs outs' places places' h → ins' ≡ ins ++ ns
    → AreOutputsHeld ins outs places → all_logged ins' outs'
    ≡ with_output (all_logged ins outs) (record { output = output; time = time; inputs = ns })
kept-text output time ins h ns outs h1 places h2 h3 kept appended held = grind (
  arith,
  logged-set,
  logged-grown,
  length,
  slice_range,
  part-appended,
)

pub is-kept : (output time count : ℕ) (bytes ins ins' : List ℕ) (outs outs' : List HeldOutput)
    (places places' : List ℕ) (old : OutputsModel) (all : Bool) (h : HeldOutput)
    → AreOutputsHeld ins outs places
    → view ins outs places ≡ old → count ≡ length places → AppendsNumbers count bytes ins ins' all
    → all ≡ true → output < count → IsKept output time ins ins' outs outs' places places' h
    → Keeps output time bytes old (view ins' outs' places') true
is-kept output time count bytes ins ins' outs outs' places places' old all h held is counts appended known
    below kept =
    let read = subst (AppendsNumbers count bytes ins ins') known appended in
    let same : count ≡ old.count = counts ∙ ap (λ (t : OutputsModel). t.count) is in (
      read.0,
      read.2,
      subst (λ k. output < k) same below,
      subst (λ k. AllByRecursion (λ n. n < k) read.0) same read.3,
      ap (λ k. record { count = k; outputs = all_logged ins' outs' })
          (kept.count ∙ ap (λ (t : OutputsModel). t.count) is)
          ∙ ap (λ os. record { count = old.count; outputs = os })
          (kept-text output time ins ins' read.0 outs outs' places places' h kept read.1 held)
          ∙ ap (λ os. record {
            count = old.count;
            outputs =
                with_output os (record { output = output; time = time; inputs = read.0 });
          })
          (ap (λ (t : OutputsModel). t.outputs) is),
    )

pub kept-held : (output time count : ℕ) (bytes ins ins' : List ℕ) (outs outs' : List HeldOutput)
    (places places' : List ℕ) (all : Bool) (h : HeldOutput) → AreOutputsHeld ins outs places
    → count ≡ length places → AppendsNumbers count bytes ins ins' all → all ≡ true → output < count
    → IsKept output time ins ins' outs outs' places places' h
    → AreOutputsHeld ins' outs' places'
kept-held output time count bytes ins ins' outs outs' places places' all h held counts appended known below
    kept =
    let read = subst (AppendsNumbers count bytes ins ins') known appended in
    let l : length ins' ≡ length ins + length read.0 = ap length read.1 ∙ length-append ins read.0 in
    let starts = kept.starts in
    let ends = kept.ends in
    let paths = kept.count in
    let is = kept.is_output in
    let old = held-grown (length ins) (length places) (length ins') (length places') outs (omega arith)
    (omega arith) held.held in
    record {
      held = subst (AllByRecursion (IsHeld (length ins') (length places'))) (sym kept.set)
          (held-set (length ins') (length places') outs h old
          (record { output = omega arith; rises = omega arith; ends = omega arith }));
      are_places = kept.are;
      of_paths = subst (AllByRecursion (IsOfPaths (length places')))
          (sym (kept-text output time ins ins' read.0 outs outs' places places' h kept read.1 held))
          (paths-set (length places') (all_logged ins outs)
          (record { output = output; time = time; inputs = read.0 })
          (paths-more (length places) (length places') (all_logged ins outs) (omega arith) held.of_paths)
          (record {
            output = omega arith;
            inputs =
                known-more count (length places') read.0 (omega arith) read.3;
          }));
    }
