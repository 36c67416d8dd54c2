-- Stale edges and their chains of reasons.
use Rattle.std.proofs.Common.{◌≡◌, ℕ, zero, suc, ◌<◌, ◌+◌, Bool, true, false, cond, Option, Some, None, ◌⊎◌}
use Rattle.std.proofs.Common.{inl, inr}
use Rattle.std.proofs.Common.{List, [], ◌∷◌, length, refl, sym, ap, ◌∙◌, subst, arith}
use Rattle.std.specs.Prelude.{Contains, is_some, slice_get, if◌then◌else◌, ◌==◌, not, ◌&&◌, pos}
use Rattle.std.specs.Option.{option_or}
use Rattle.nj_cycles.specs.Cycles.{IsRank}
use Rattle.nj_edges.specs.Edges.{EdgePaths, edge_at, inputs_of, outputs_of, counted_inputs_of, maker_of}
use Rattle.nj_edges.specs.Needs.{makers_of_inputs}
use Rattle.nj_build_log.specs.Logs.{entry_of}
use Rattle.nj_build_log.specs.declared.entry.Entry.{Entry}
use Rattle.nj_stale.specs.States.{Evidence, State, IsStateOf, facts_at, is_missing, is_before, is_stale}
use Rattle.nj_stale.specs.States.{is_stale_by, is_stale_file, newest_input, first_reason, by_discovery}
use Rattle.nj_stale.specs.States.{by_input, by_missing, by_log, by_output, by_outputs, by_phony_outputs}
use Rattle.nj_stale.specs.States.{by_files}
use Rattle.nj_stale.specs.Laws.{IsBlamed, IsOwnReason, StaleEdgesHaveReasons}
use Rattle.nj_stale.specs.Laws.IsBlamed.{by_itself, by_source, by_edge}
use Rattle.nj_stale.specs.declared.evidence.EdgeFacts.{EdgeFacts}
use Rattle.nj_stale.specs.declared.reason.Reason.{Reason}
use Rattle.nj_stale.specs.declared.reason.Reason.TheVariants.{UnknownInputs, StaleInput, MissingOutput}
use Rattle.nj_stale.specs.declared.reason.Reason.TheVariants.{OlderOutput, OtherCommand, EarlierBuild}
use Rattle.nj_stale.specs.declared.reason.Reason.TheVariants.{NotLogged}
use Rattle.nj_stale.proofs.StateLemmas.{contains_head, contains_tail, needs_maker}

-- ---- own reasons

abbrev GivesOwn : Option Reason → Type 0
GivesOwn given = (reason : Reason) → given ≡ Some reason → IsOwnReason reason

none_given : GivesOwn None
none_given reason e = absurd (cc)

one_given : (own : Reason) → IsOwnReason own → GivesOwn (Some own)
one_given own is reason e = subst IsOwnReason (let same : own ≡ reason = cc in same) is

if_given : (b : Bool) (one other : Option Reason) → GivesOwn one → GivesOwn other
    → GivesOwn (cond b one other)
if_given true one other f g = f
if_given false one other f g = g

or_given : (one other : Option Reason) → GivesOwn one → GivesOwn other → GivesOwn (option_or one other)
or_given None other f g = g
or_given (Some reason) other f g = f

missing_own : (place : ℕ) → IsOwnReason (MissingOutput place)
missing_own place at e = cc

first_own : (asked : List ℕ → ℕ → Option Reason) → ((path : List ℕ) (place : ℕ) → GivesOwn (asked path place))
    → (place : ℕ) (paths : List (List ℕ)) → GivesOwn (first_reason asked place paths)
first_own asked own place [] = none_given
first_own asked own place (path ∷ paths) =
    or_given (asked path place) (first_reason asked (place + 1) paths) (own path place)
    (first_own asked own (place + 1) paths)

discovery_own : (facts : EdgeFacts) → GivesOwn (by_discovery facts)
discovery_own facts =
    if_given facts.is_unknown (Some UnknownInputs) None (one_given UnknownInputs (λ at e. cc)) none_given

log_own : (facts : EdgeFacts) (newest : Option ℕ) (entry : Option Entry) (place : ℕ)
    → GivesOwn (by_log facts newest entry place)
log_own facts newest None place =
    if_given facts.generator None (Some (NotLogged place)) none_given
    (one_given (NotLogged place) (λ at e. cc))
log_own facts newest (Some entry) place =
    if_given (not facts.generator && not (entry.hash == facts.command_hash)) (Some (OtherCommand place))
    (if is_before entry.time newest then Some (EarlierBuild place) else None)
    (one_given (OtherCommand place) (λ at e. cc))
    (if_given (is_before entry.time newest) (Some (EarlierBuild place)) None
    (one_given (EarlierBuild place) (λ at e. cc)) none_given)

output_own : (facts : EdgeFacts) (newest : Option ℕ) (time : ℕ) (entry : Option Entry) (place : ℕ)
    → GivesOwn (by_output facts newest time entry place)
output_own facts newest time entry place =
    if_given (time == 0) (Some (MissingOutput place)) _ (one_given (MissingOutput place) (missing_own place))
    (if_given (is_before (pos time) newest && not (facts.restat && is_some entry)) (Some (OlderOutput place))
    (by_log facts newest entry place) (one_given (OlderOutput place) (λ at e. cc))
    (log_own facts newest entry place))

files_own : (known : Evidence) (facts : EdgeFacts) (newest : Option ℕ) (edge : EdgePaths)
    → GivesOwn (by_files known facts newest edge)
files_own known facts newest edge =
    if_given edge.is_phony (by_phony_outputs known edge) (by_outputs known facts newest edge)
    (if_given (length (inputs_of edge) == 0) (first_reason (by_missing known) 0 (outputs_of edge)) None
    (first_own (by_missing known) (λ path place. if_given (is_missing known path) (Some (MissingOutput place))
    None
    (one_given (MissingOutput place) (missing_own place)) none_given) 0 (outputs_of edge)) none_given)
    (first_own _ (λ path place. output_own facts newest (known.disk_time path) (entry_of known.lines path)
    place)
    0 (outputs_of edge))

-- ---- reasons that are inputs

-- the input at a place is stale
record IsInput (known : Evidence) (s : State) (paths : List (List ℕ)) (first : ℕ) (reason : Reason) : Type 0
  where
    place : ℕ
    path : List ℕ
    at : slice_get paths place ≡ Some path
    stale : is_stale_file known s path ≡ true
    reason_is : reason ≡ StaleInput (first + place)

found_input : (known : Evidence) (s : State) (first : ℕ) (paths : List (List ℕ)) (reason : Reason)
    → first_reason (by_input known s) first paths ≡ Some reason → IsInput known s paths first reason
found_input known s first [] reason e = absurd (cc)
found_input known s first (path ∷ paths) reason e =
    by (is_stale_file known s path) refl (found_input known s (first + 1) paths reason) e
  where
    by : (b : Bool) → is_stale_file known s path ≡ b
        → (first_reason (by_input known s) (first + 1) paths ≡ Some reason
        → IsInput known s paths (first + 1) reason)
        → option_or (if b then Some (StaleInput first) else None)
        (first_reason (by_input known s) (first + 1) paths) ≡ Some reason
        → IsInput known s (path ∷ paths) first reason
    by true is later e = record {
      place = 0;
      path = path;
      at = refl;
      stale = is;
      reason_is =
          let same : StaleInput first ≡ reason = cc in
          sym same ∙ ap StaleInput (let n : first ≡ first + 0 = omega arith in n);
    }
    by false is later e =
        let found = later e in
        record {
          place = suc found.place;
          path = found.path;
          at = found.at;
          stale = found.stale;
          reason_is = found.reason_is
              ∙ ap StaleInput (let n : first + 1 + found.place ≡ first + suc found.place = omega arith in n);
        }

contains_at : (paths : List (List ℕ)) (place : ℕ) (path : List ℕ) → slice_get paths place ≡ Some path
    → Contains paths path
contains_at [] place path at = absurd (cc)
contains_at (first ∷ paths) zero path at =
    subst (λ (p : List ℕ). Contains (first ∷ paths) p) (let same : first ≡ path = cc in same)
    (contains_head first paths)
contains_at (first ∷ paths) (suc place) path at =
    contains_tail first path paths (contains_at paths place path at)

-- ---- chains

one_of : (one other last : Option Reason) (reason : Reason)
    → option_or one (option_or other last) ≡ Some reason
    → (one ≡ Some reason) ⊎ ((other ≡ Some reason) ⊎ (last ≡ Some reason))
one_of (Some r) other last reason e = inl e
one_of None (Some r) last reason e = inr (inl e)
one_of None None last reason e = inr (inr e)

some_there : (found : Option Reason) → is_some found ≡ true → (reason : Reason) × (found ≡ Some reason)
some_there None none = absurd (cc)
some_there (Some reason) some = (reason, refl)

module _ (known : Evidence) (s : State) (rank : ℕ → ℕ)
    (is : IsRank (makers_of_inputs known.edges) (length known.edges) rank) (fits : IsStateOf known s) where
  -- the edge at which an input is stale
  by_maker : (edge : ℕ) (reason : Reason)
      → ((maker : ℕ) → maker < length known.edges → rank maker < rank edge → is_stale s maker ≡ true
      → IsBlamed known s maker)
      → s.reason edge ≡ Some reason
      → (found : IsInput known s (counted_inputs_of (edge_at known.edges edge)) 0 reason)
      → (m : Option ℕ) → maker_of known.edges found.path ≡ m → IsBlamed known s edge
  by_maker edge reason lower given found None none =
      by_source found.place found.path (given ∙ ap Some found.reason_is ∙ zero_before found.place) found.at
      none
      (sym (ap (λ m. is_stale_by m known s found.path) none) ∙ found.stale)
    where
      zero_before : (n : ℕ) → Some (StaleInput (0 + n)) ≡ Some (StaleInput n)
      zero_before n = ap (λ k. Some (StaleInput k)) (omega arith)
  by_maker edge reason lower given found (Some maker) made =
      let needs = needs_maker known.edges edge found.path maker
      (contains_at (counted_inputs_of (edge_at known.edges edge)) found.place found.path found.at) made in
      by_edge found.place found.path maker
      (given ∙ ap Some found.reason_is ∙ ap (λ k. Some (StaleInput k))
      (let n : 0 + found.place ≡ found.place = omega arith in n))
      found.at made
      (lower maker (is.within edge maker needs) (is.falls edge maker needs)
      (sym (ap (λ m. is_stale_by m known s found.path) made) ∙ found.stale))

  blamed_by : (edge : ℕ) → edge < length known.edges
      → ((maker : ℕ) → maker < length known.edges → rank maker < rank edge → is_stale s maker ≡ true
      → IsBlamed known s maker)
      → (reason : Reason) → s.reason edge ≡ Some reason → IsBlamed known s edge
  blamed_by edge lt lower reason given =
      let paths = edge_at known.edges edge in
      let facts = facts_at known edge in
      elim (one_of (by_discovery facts) (first_reason (by_input known s) 0 (counted_inputs_of paths))
      (by_files known facts (newest_input s paths) paths) reason (sym (fits.edge edge lt) ∙ given)) [
        | inl found ↦ by_itself reason given (discovery_own facts reason found)
        | inr (inl found) ↦
            (let input = found_input known s 0 (counted_inputs_of paths) reason found in
            by_maker edge reason lower given input (maker_of known.edges input.path) refl)
        | inr (inr found) ↦ by_itself reason given
            (files_own known facts (newest_input s paths) paths reason found)
      ]

  blamed_below : (n edge : ℕ) → edge < length known.edges → rank edge < n → is_stale s edge ≡ true
      → IsBlamed known s edge
  blamed_below zero edge lt below stale = absurd (omega arith)
  blamed_below (suc n) edge lt below stale =
      let there = some_there (s.reason edge) stale in
      blamed_by edge lt (λ maker within falls. blamed_below n maker within (omega arith)) there.0 there.1

stale_if_blamed : (known : Evidence) (s : State) (edge : ℕ) → IsBlamed known s edge → is_stale s edge ≡ true
stale_if_blamed known s edge (by_itself reason given own) = ap is_some given
stale_if_blamed known s edge (by_source place path given at none missing) = ap is_some given
stale_if_blamed known s edge (by_edge place path maker given at made blamed) = ap is_some given

pub reasons : StaleEdgesHaveReasons
reasons known s acyclic fits edge lt = (
  blamed_below known s acyclic.0 acyclic.1 fits (suc (acyclic.0 edge)) edge lt (omega arith),
  stale_if_blamed known s edge,
)
