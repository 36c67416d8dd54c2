-- Names along a line: where a name is read, and where there is no name.
use Rattle.std.proofs.Common.{arith, ◌≡◌, ℕ, Bool, true, false, Option, Some, None, Ok, Err, List, [], ◌∷◌}
use Rattle.std.proofs.Common.{◌++◌}
use Rattle.std.proofs.Common.{refl, sym, ap, ◌∙◌, append_assoc}
use Rattle.std.specs.List.{take_while}
use Rattle.nj_text.specs.declared.fault.UnitFault.{UnitFault}
use Rattle.nj_text.specs.declared.spot.Spot.{Spot}
use Rattle.nj_text.specs.Bytes.{drop_while, is_identifier_byte, begins_with}
use Rattle.nj_text.specs.Units.{TextUnit, is_ordinary_in}
use Rattle.nj_text.specs.Lines.{Line, with_units, spot_of_first}
use Rattle.nj_text.specs.Words.{is_blank, in_identifier, fault_of, next_fault}
use Rattle.nj_text.specs.Calls.{State, unless_fault, bytes_of, some_bytes}
use Rattle.nj_text.specs.Inside.States.{reply}
use Rattle.nj_text.proofs.Lists.{AllIn, AllIn-take_while}
use Rattle.nj_manifest.specs.declared.cause.SyntaxCause.TheVariants as cause
use Rattle.nj_manifest.specs.declared.cause.Wanted.{Wanted}
use Rattle.nj_manifest.specs.Faults.{Fault, Placed, bad_unit}
use Rattle.nj_manifest.specs.LineSteps.{Step, ◌>>=◌, called, NameModel, name_next}
use Rattle.nj_manifest.specs.Leftmost.{element}
use Rattle.nj_manifest.proofs.Choices.{named}
use Rattle.nj_manifest.proofs.LeftmostRuns.{both_parts, after_stops, none_passed, none_taken, run_passed}
use Rattle.nj_manifest.proofs.LeftmostRuns.{run_taken, skip, skip_again, skip_stops, skip_gap, gap_of}
use Rattle.nj_manifest.proofs.LeftmostRuns.{gap_passes, gap_cut}
use Rattle.nj_manifest.proofs.LeftmostFronts.{identifier_no_pipe, begins-same, fault-same, element-front}
use Rattle.nj_manifest.proofs.LeftmostFronts.{element-identifier}
use Rattle.nj_manifest.proofs.LeftmostSteps.{at, blank_no_pipe, Fits, by_fits, fits-alone, Passes, FailsAt}
use Rattle.nj_manifest.proofs.LeftmostSteps.{bad-place, bad-kept, bad-offers, opens-none, after_name}
use Rattle.nj_manifest.proofs.LeftmostSteps.{is_separator, separator_is, ordinary_no_fault, OfWanted}

pub identifier_no_blank : (u : TextUnit) → in_identifier u ≡ true → is_blank u ≡ false
identifier_no_blank u h = grind arith

identifier_no_fault : (u : TextUnit) → in_identifier u ≡ true → fault_of u.means u.spot ≡ None
identifier_no_fault u h = ordinary_no_fault is_identifier_byte u.means u.spot h

-- ---- the readings after the blanks

-- by the fault there, the identifier, its place, and the rest after it
abbrev named_by : Wanted → Option UnitFault → List TextUnit → Spot → State → Step NameModel
named_by want f run spot s = called (unless_fault f (reply (some_bytes (bytes_of run)) s)) >>=
    λ n. named want spot n.0 n.1

abbrev name_here : Wanted → List TextUnit → Line → List Line → Step NameModel
name_here want us e ms = named_by want (next_fault us) (take_while in_identifier us) (spot_of_first us e.end)
    (at (drop_while in_identifier us) e ms)

name_is_here : (want : Wanted) (us : List TextUnit) (e : Line) (ms : List Line)
    → name_next want (at us e ms) ≡ name_here want (skip us) e ms
unfolding name_next
name_is_here want us e ms = rw (skip_again us) refl

-- after blanks
name_after : (want : Wanted) (gap x : List TextUnit) (e : Line) (ms : List Line) → AllIn is_blank gap
    → begins_with is_blank x ≡ false → name_next want (at (gap ++ x) e ms) ≡ name_here want x e ms
name_after want gap x e ms h n = grind (arith, name_is_here, skip_gap, none_passed)

-- blanks before a name do not matter
pub name_skips : (want : Wanted) (gap x : List TextUnit) (e : Line) (ms : List Line) → AllIn is_blank gap
    → name_next want (at (gap ++ x) e ms) ≡ name_next want (at x e ms)
name_skips want gap x e ms h = grind (arith, name_is_here, skip_gap)

named_ok : (want : Wanted) (f : Option UnitFault) (run run' : List TextUnit) (spot spot' : Spot)
    (s s' : State) (b : ℕ) (bs : List ℕ) → f ≡ None → run ≡ run' → spot ≡ spot' → s ≡ s'
    → bytes_of run' ≡ b ∷ bs → named_by want f run spot s ≡ Ok (record { spot = spot'; name = b ∷ bs }, s')
named_ok want f run run' spot spot' s s' b bs e r p h g = rw (e, r, p, h, g) refl

named_bad : (want : Wanted) (f : Option UnitFault) (bad : UnitFault) (run : List TextUnit) (spot : Spot)
    (s : State) → f ≡ Some bad → named_by want f run spot s ≡ Err (bad_unit bad)
named_bad want f bad run spot s e = rw e refl

named_none : (want : Wanted) (f : Option UnitFault) (run : List TextUnit) (spot : Spot) (s : State) → f ≡ None
    → bytes_of run ≡ [] → named_by want f run spot s ≡ Err (Placed spot (cause.Expected want))
named_none want f run spot s e g = rw (e, g) refl

-- the name that a run of units makes
pub name_reads : (want : Wanted) (gap run x : List TextUnit) (u : TextUnit) (e : Line) (ms : List Line)
    (b : ℕ) (bs : List ℕ) → AllIn is_blank gap → AllIn in_identifier (u ∷ run) → bytes_of (u ∷ run) ≡ b ∷ bs
    → begins_with in_identifier x ≡ false
    → name_next want (at ((gap ++ u ∷ run) ++ x) e ms)
    ≡ Ok (record { spot = u.spot; name = b ∷ bs }, at x e ms)
name_reads want gap run x u e ms b bs g i h n =
    ap (λ (y : List TextUnit). name_next want (at y e ms)) (append_assoc gap (u ∷ run) x)
    ∙ (name_after want gap ((u ∷ run) ++ x) e ms g (identifier_no_blank u i.0)
    ∙ named_ok want (next_fault ((u ∷ run) ++ x)) (take_while in_identifier ((u ∷ run) ++ x)) (u ∷ run) u.spot
    u.spot (at (drop_while in_identifier ((u ∷ run) ++ x)) e ms) (at x e ms) b bs
    (identifier_no_fault u i.0) (run_taken in_identifier (u ∷ run) x i n) refl
    (ap (λ (y : List TextUnit). at y e ms) (run_passed in_identifier (u ∷ run) x i n)) h)

-- ---- the result of reading a name

-- the same element begins with the same identifier
pub same_run : (x y : List TextUnit) → element x ≡ element y
    → take_while in_identifier x ≡ take_while in_identifier y
same_run x y h = grind (arith, begins-same, element-front, element-identifier, none_taken)

-- the units after the blanks are seen as if they came in their place
pub no_blank_there : (us x : List TextUnit) → element x ≡ element (skip us) → begins_with is_blank x ≡ false
no_blank_there us x h = begins-same is_blank x (skip us) (element-front x (skip us) h) ∙ skip_stops us

-- The name that is read; with the same element in its place a name is read too.
pub record NamePasses (want : Wanted) (t : List TextUnit → Bool) (us : List TextUnit) (e : Line) : Type 0
  where
    pub passes : Passes (name_next want) t after_name us
    pub spot : passes.value.spot ≡ spot_of_first (skip us) e.end
    pub again : (x : List TextUnit) (d : Line) (ms : List Line) → element x ≡ element (skip us)
        → (s : State) × (name_next want (at (gap_of us ++ x) d ms) ≡ Ok (passes.value, s))

pub data NameSeen (want : Wanted) (t : List TextUnit → Bool) (us : List TextUnit) (e : Line) : Type 0 where
  there : (name : NamePasses want t us e) → NameSeen want t us e
  missing : (fault : Fault) (of : OfWanted want fault)
      (here : FailsAt (name_next want) us e fault (gap_of us) (skip us)) → NameSeen want t us e

same_spot : (x : List TextUnit) (u : TextUnit) (run : List TextUnit) (end : Spot)
    → take_while in_identifier x ≡ u ∷ run → spot_of_first x end ≡ u.spot
same_spot x u run end h = grind arith

passes_name : (want : Wanted) (t : List TextUnit → Bool) (us : List TextUnit) (e : Line) (run : List TextUnit)
    (u : TextUnit) (b : ℕ) (bs : List ℕ) → take_while in_identifier (skip us) ≡ u ∷ run
    → AllIn in_identifier (u ∷ run) → bytes_of (u ∷ run) ≡ b ∷ bs → NamePasses want t us e
passes_name want t us e run u b bs r i h =
    let g = gap_passes us in
    let left = drop_while in_identifier (skip us) in
    let parts : skip us ≡ (u ∷ run) ++ left =
    both_parts in_identifier (skip us) ∙ ap (λ (y : List TextUnit). y ++ left) r in
    let cut : us ≡ (gap_of us ++ u ∷ run) ++ left =
    gap_cut us ∙ (ap (λ (y : List TextUnit). gap_of us ++ y) parts
    ∙ sym (append_assoc (gap_of us) (u ∷ run) left)) in
    let stops = λ (x : List TextUnit) (fit : Fits after_name left x). by_fits left x
    (begins_with in_identifier) (λ y o. opens-none is_separator (is_ordinary_in is_identifier_byte)
    (separator_is (λ c. is_identifier_byte c ≡ false) refl refl refl) y o)
    (λ y f. begins-same in_identifier y left f) (after_stops in_identifier (skip us)) fit in
    record {
      passes = record {
        used = gap_of us ++ u ∷ run;
        left = left;
        value = record { spot = u.spot; name = b ∷ bs };
        cut = cut;
        goes = λ x d ms fit. name_reads want (gap_of us) run x u d ms b bs g i h (stops x fit);
        settled = λ x fit. settled_by (gap_of us) g x cut;
      };
      spot = sym (same_spot (skip us) u run e.end r);
      again = λ x d ms same.
          let x_run = same_run x (skip us) same ∙ r in
          let sees = fault-same x (skip us) (element-front x (skip us) same) in (
            at (drop_while in_identifier x) d ms,
            name_after want (gap_of us) x d ms g (no_blank_there us x same)
                ∙ named_ok want (next_fault x) (take_while in_identifier x) (u ∷ run) (spot_of_first x d.end)
                u.spot (at (drop_while in_identifier x) d ms) (at (drop_while in_identifier x) d ms) b bs
                (sees ∙ (ap next_fault parts ∙ identifier_no_fault u i.0)) x_run
                (same_spot x u run d.end x_run) refl h,
          );
    }
  where
    settled_by : (gap : List TextUnit) → AllIn is_blank gap → (x : List TextUnit)
        → us ≡ (gap ++ u ∷ run) ++ drop_while in_identifier (skip us) → Fits t us ((gap ++ u ∷ run) ++ x)
    settled_by [] a x c = fits-alone t us u run (drop_while in_identifier (skip us)) x
        (identifier_no_pipe u i.0) c
    settled_by (v ∷ gap) a x c = fits-alone t us v (gap ++ u ∷ run) (drop_while in_identifier (skip us)) x
        (blank_no_pipe v.means a.0) c

pub name_seen : (want : Wanted) (t : List TextUnit → Bool) (us : List TextUnit) (e : Line)
    → NameSeen want t us e
name_seen want t us e = by_fault (next_fault (skip us)) refl
  where
    by_run : (run : List TextUnit) → take_while in_identifier (skip us) ≡ run → next_fault (skip us) ≡ None
        → AllIn in_identifier run → (bs : List ℕ) → bytes_of run ≡ bs → NameSeen want t us e
    by_run [] r f i (b ∷ bs) h = absurd cc
    by_run (u ∷ run) r f i (b ∷ bs) h = there (passes_name want t us e run u b bs r i h)
    by_run run r f i [] h = missing (Placed (spot_of_first (skip us) e.end) (cause.Expected want))
        (λ bytes h. h) (record {
          cut = gap_cut us;
          place = refl;
          fails = λ ms. name_is_here want us e ms
              ∙ named_none want (next_fault (skip us)) (take_while in_identifier (skip us))
              (spot_of_first (skip us) e.end) (at (drop_while in_identifier (skip us)) e ms) f
              (ap bytes_of r ∙ h);
          refuses = λ x d ms same.
              let sees = fault-same x (skip us) (element-front x (skip us) same) in
              (name_after want (gap_of us) x d ms (gap_passes us) (no_blank_there us x same)
              ∙ named_none want (next_fault x) (take_while in_identifier x) (spot_of_first x d.end)
              (at (drop_while in_identifier x) d ms) (sees ∙ f)
              (ap bytes_of (same_run x (skip us) same ∙ r) ∙ h));
        })

    by_fault : (f : Option UnitFault) → next_fault (skip us) ≡ f → NameSeen want t us e
    by_fault None f = by_run (take_while in_identifier (skip us)) refl f
        (AllIn-take_while in_identifier (skip us)) (bytes_of (take_while in_identifier (skip us))) refl
    by_fault (Some bad) f = missing (bad_unit bad) (λ bytes h. bad-offers bad bytes) (record {
      cut = gap_cut us;
      place = bad-place (skip us) e bad f;
      fails = λ ms. name_is_here want us e ms
          ∙ named_bad want (next_fault (skip us)) bad (take_while in_identifier (skip us))
          (spot_of_first (skip us) e.end) (at (drop_while in_identifier (skip us)) e ms) f;
      refuses = λ x d ms same.
          let sees = fault-same x (skip us) (element-front x (skip us) same) in
          (name_after want (gap_of us) x d ms (gap_passes us) (no_blank_there us x same)
          ∙ named_bad want (next_fault x) bad (take_while in_identifier x) (spot_of_first x d.end)
          (at (drop_while in_identifier x) d ms) (sees ∙ f)) ∙ bad-kept (with_units x d) bad;
    })
