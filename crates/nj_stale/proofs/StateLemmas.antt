-- A build without cycles has one state, and no other.
use Rattle.std.proofs.Common.{◌≡◌, ℕ, zero, suc, ◌<◌, ◌≤◌, ◌+◌, Bool, true, false, cond, Option, Some, None}
use Rattle.std.proofs.Common.{List, [], ◌∷◌, length, map, refl, sym, ap, ap₂, ◌∙◌, subst, arith, max}
use Rattle.std.specs.Prelude.{Contains, option_map, unwrap_or, is_some, not, ◌&&◌, if◌then◌else◌}
use Rattle.std.specs.Option.{option_or}
use Rattle.std.proofs.lemmas.List.{get_or-map, length-map}
use Rattle.std.proofs.lemmas.List.Elements.{Contains-append_left, Contains-append_right}
use Rattle.nj_cycles.specs.Cycles.{Needs, IsRank}
use Rattle.nj_edges.specs.Edges.{EdgePaths, edge_at, inputs_of, counted_inputs_of, maker_of, first_edge}
use Rattle.nj_edges.specs.Needs.{makers_of_inputs}
use Rattle.nj_stale.specs.States.{Evidence, State, IsStateOf, facts_at, is_missing, is_stale_by}
use Rattle.nj_stale.specs.States.{is_stale_file, newest, newest_input, output_time, first_reason}
use Rattle.nj_stale.specs.States.{by_discovery, by_input, by_files, reason_of}
use Rattle.nj_stale.specs.Laws.{SomeStateFits, OneStateFits}
use Rattle.nj_stale.specs.declared.reason.Reason.{Reason}
use Rattle.nj_stale.specs.declared.reason.Reason.TheVariants.{StaleInput}

-- ---- lists

pub contains_head : (x : List ℕ) (xs : List (List ℕ)) → Contains (x ∷ xs) x
contains_head x xs = Contains-append_left (x ∷ []) xs x (0, omega arith, refl)

pub contains_tail : (x y : List ℕ) (xs : List (List ℕ)) → Contains xs y → Contains (x ∷ xs) y
contains_tail x y xs c = Contains-append_right (x ∷ []) xs y c

contains_map : (f : List ℕ → Option ℕ) (xs : List (List ℕ)) (x : List ℕ) → Contains xs x
    → Contains (map f xs) (f x)
contains_map f xs x c =
    (c.0, omega (arith, c.1, length-map xs f), get_or-map f xs c.0 x (f x) c.1 ∙ ap f c.2)

pub reasons_agree : (asked other : List ℕ → ℕ → Option Reason) (place : ℕ) (paths : List (List ℕ))
    → ((path : List ℕ) (at : ℕ) → Contains paths path → asked path at ≡ other path at)
    → first_reason asked place paths ≡ first_reason other place paths
reasons_agree asked other place [] same = refl
reasons_agree asked other place (path ∷ paths) same =
    ap (λ r. option_or r (first_reason asked (place + 1) paths)) (same path place (contains_head path paths))
    ∙ ap (option_or (other path place)) (reasons_agree asked other (place + 1) paths
    (λ q at c. same q at (contains_tail path q paths c)))

pub newest_agree : (time other : List ℕ → ℕ) (paths : List (List ℕ))
    → ((path : List ℕ) → Contains paths path → time path ≡ other path)
    → newest time paths ≡ newest other paths
newest_agree time other [] same = refl
newest_agree time other (path ∷ paths) same =
    ap₂ (λ (n : ℕ) (o : Option ℕ). Some (max n (unwrap_or o 0))) (same path (contains_head path paths))
    (newest_agree time other paths (λ q c. same q (contains_tail path q paths c)))

-- ---- makers

first_within : (test : EdgePaths → Bool) (edges : List EdgePaths) (edge : ℕ)
    → first_edge test edges ≡ Some edge
    → edge < length edges
first_within test [] edge none = absurd (cc)
first_within test (e ∷ edges) edge is = by (test e) (first_edge test edges) (first_within test edges) is
  where
    by : (b : Bool) (found : Option ℕ) → ((n : ℕ) → found ≡ Some n → n < length edges)
        → cond b (Some 0) (option_map (λ n. n + 1) found) ≡ Some edge → edge < suc (length edges)
    by true found below first = let zero_is : 0 ≡ edge = cc in omega arith
    by false None below none = absurd (cc)
    by false (Some n) below more = let next_is : n + 1 ≡ edge = cc in let lt = below n refl in omega arith

pub maker_within : (edges : List EdgePaths) (path : List ℕ) (edge : ℕ) → maker_of edges path ≡ Some edge
    → edge < length edges
maker_within edges path edge is = first_within _ edges edge is

-- an edge needs the makers of the inputs that count
pub needs_maker : (edges : List EdgePaths) (edge : ℕ) (path : List ℕ) (maker : ℕ)
    → Contains (counted_inputs_of (edge_at edges edge)) path → maker_of edges path ≡ Some maker
    → Needs (makers_of_inputs edges) edge maker
needs_maker edges edge path maker c is =
    let e = edge_at edges edge in
    let among : Contains (inputs_of e) path =
    Contains-append_left (counted_inputs_of e) e.order_only_inputs path c in
    subst (λ (m : Option ℕ). Contains (makers_of_inputs edges edge) m) is
    (contains_map (maker_of edges) (inputs_of e) path among)

-- ---- states that agree

-- on a file
pub record Same (known : Evidence) (s t : State) (path : List ℕ) : Type 0 where
  pub stale : is_stale_file known s path ≡ is_stale_file known t path
  pub time : s.time path ≡ t.time path

-- on an edge, and on the files that it makes
pub record SameEdge (known : Evidence) (s t : State) (edge : ℕ) : Type 0 where
  pub reason : s.reason edge ≡ t.reason edge
  pub times : (path : List ℕ) → maker_of known.edges path ≡ Some edge → s.time path ≡ t.time path

abbrev pub SameInputs : Evidence → State → State → ℕ → Type 0
SameInputs known s t edge =
    (path : List ℕ) → Contains (counted_inputs_of (edge_at known.edges edge)) path → Same known s t path

pub same_reason : (known : Evidence) (s t : State) (edge : ℕ) → SameInputs known s t edge
    → reason_of known s edge ≡ reason_of known t edge
same_reason known s t edge same =
    let paths = edge_at known.edges edge in
    let facts = facts_at known edge in
    let counted = counted_inputs_of paths in
    ap₂ (λ (r : Option Reason) (n : Option ℕ).
    option_or (by_discovery facts) (option_or r (by_files known facts n paths)))
    (reasons_agree (by_input known s) (by_input known t) 0 counted
    (λ path at c. ap (λ b. if b then Some (StaleInput at) else None) (same path c).stale))
    (newest_agree s.time t.time counted (λ path c. (same path c).time))

pub same_newest : (known : Evidence) (s t : State) (edge : ℕ) → SameInputs known s t edge
    → newest_input s (edge_at known.edges edge) ≡ newest_input t (edge_at known.edges edge)
same_newest known s t edge same =
    newest_agree s.time t.time (counted_inputs_of (edge_at known.edges edge)) (λ path c. (same path c).time)

same_output : (known : Evidence) (s t : State) (edge : ℕ) (path : List ℕ) → s.reason edge ≡ t.reason edge
    → newest_input s (edge_at known.edges edge) ≡ newest_input t (edge_at known.edges edge)
    → output_time known s edge path ≡ output_time known t edge path
same_output known s t edge path reason newest =
    let phony = (edge_at known.edges edge).is_phony in
    ap₂ (λ (r : Option Reason) (n : Option ℕ). if is_missing known path
    then (if phony && not (is_some r) then unwrap_or n 0 else 0) else known.disk_time path) reason newest

pub same_inputs : (known : Evidence) (s t : State) (edge : ℕ)
    → ((path : List ℕ) → maker_of known.edges path ≡ None → s.time path ≡ t.time path)
    → ((path : List ℕ) (maker : ℕ) → Contains (counted_inputs_of (edge_at known.edges edge)) path
    → maker_of known.edges path ≡ Some maker → SameEdge known s t maker)
    → SameInputs known s t edge
same_inputs known s t edge sources makers path c = by (maker_of known.edges path) refl
  where
    by : (m : Option ℕ) → maker_of known.edges path ≡ m → Same known s t path
    by None is = record {
      stale = ap (λ m. is_stale_by m known s path) is ∙ sym (ap (λ m. is_stale_by m known t path) is);
      time = sources path is;
    }
    by (Some maker) is =
        let same = makers path maker c is in
        record {
          stale = ap (λ m. is_stale_by m known s path) is ∙ ap is_some same.reason
              ∙ sym (ap (λ m. is_stale_by m known t path) is);
          time = same.times path is;
        }

-- ---- no other state

fit_alike : (known : Evidence) (s t : State) → IsStateOf known s → IsStateOf known t → (edge : ℕ)
    → edge < length known.edges → SameInputs known s t edge → SameEdge known s t edge
fit_alike known s t of_s of_t edge lt same =
    let reason = of_s.edge edge lt ∙ same_reason known s t edge same ∙ sym (of_t.edge edge lt) in
    record {
      reason = reason;
      times = λ path is. of_s.output path edge is
          ∙ same_output known s t edge path reason (same_newest known s t edge same)
          ∙ sym (of_t.output path edge is);
    }

same_sources : (known : Evidence) (s t : State) → IsStateOf known s → IsStateOf known t → (path : List ℕ)
    → maker_of known.edges path ≡ None → s.time path ≡ t.time path
same_sources known s t of_s of_t path is = of_s.source path is ∙ sym (of_t.source path is)

same_below : (known : Evidence) (s t : State) (rank : ℕ → ℕ)
    → IsRank (makers_of_inputs known.edges) (length known.edges) rank
    → IsStateOf known s → IsStateOf known t → (n edge : ℕ) → edge < length known.edges → rank edge < n
    → SameEdge known s t edge
same_below known s t rank is of_s of_t zero edge lt below = absurd (omega arith)
same_below known s t rank is of_s of_t (suc n) edge lt below =
    fit_alike known s t of_s of_t edge lt (same_inputs known s t edge (same_sources known s t of_s of_t)
    (λ path maker c made. let needs = needs_maker known.edges edge path maker c made in
    same_below known s t rank is of_s of_t n maker (is.within edge maker needs)
    (let falls = is.falls edge maker needs in omega arith)))

pub one_state : OneStateFits
one_state known s t acyclic of_s of_t =
    let rank = acyclic.0 in
    let edges : (edge : ℕ) → edge < length known.edges → SameEdge known s t edge =
    λ edge lt. same_below known s t rank acyclic.1 of_s of_t (suc (rank edge)) edge lt (omega arith) in
    record {
      edge = λ edge lt. (edges edge lt).reason;
      file =
          λ path. by edges path (maker_of known.edges path) refl;
    }
  where
    by : ((edge : ℕ) → edge < length known.edges → SameEdge known s t edge) → (path : List ℕ) (m : Option ℕ)
        → maker_of known.edges path ≡ m → s.time path ≡ t.time path
    by edges path None none = same_sources known s t of_s of_t path none
    by edges path (Some edge) made = (edges edge (maker_within known.edges path edge made)).times path made

-- ---- a state, by turns

-- the time of a file, by the edge that makes it
abbrev time_by : Evidence → State → (maker : Option ℕ) → List ℕ → ℕ
time_by known s None path = known.disk_time path
time_by known s (Some edge) path = output_time known s edge path

-- the reasons by the state of the previous turn, with its times
abbrev with_reasons : Evidence → State → State
with_reasons known s = record { reason = reason_of known s; time = s.time }

abbrev next : Evidence → State → State
next known s = record {
  reason = reason_of known s;
  time = λ path. time_by known (with_reasons known s) (maker_of known.edges path) path;
}

abbrev turn : Evidence → ℕ → State
turn known zero = record { reason = λ edge. None; time = known.disk_time }
turn known (suc n) = next known (turn known n)

source_at : (known : Evidence) (n : ℕ) (path : List ℕ) → maker_of known.edges path ≡ None
    → (turn known n).time path ≡ known.disk_time path
source_at known zero path none = refl
source_at known (suc n) path none = ap (λ m. time_by known (with_reasons known (turn known n)) m path) none

-- if the inputs of two states are alike, so are the next turns
next_alike : (known : Evidence) (s t : State) (edge : ℕ) → SameInputs known s t edge
    → SameEdge known (next known s) (next known t) edge
next_alike known s t edge same =
    let reason = same_reason known s t edge same in
    record {
      reason = reason;
      times = λ path made. ap (λ m. time_by known (with_reasons known s) m path) made
          ∙ same_output known (with_reasons known s) (with_reasons known t) edge path reason
          (same_newest known s t edge same)
          ∙ sym (ap (λ m. time_by known (with_reasons known t) m path) made);
    }

-- later turns agree with a turn on edges of a smaller rank
stays : (known : Evidence) (rank : ℕ → ℕ) → IsRank (makers_of_inputs known.edges) (length known.edges) rank
    → (n m edge : ℕ) → n ≤ m → rank edge < n → SameEdge known (turn known n) (turn known m) edge
stays known rank is zero m edge le below = absurd (omega arith)
stays known rank is (suc n) zero edge le below = absurd (omega arith)
stays known rank is (suc n) (suc m) edge le below =
    next_alike known (turn known n) (turn known m) edge (same_inputs known (turn known n) (turn known m) edge
    (λ path none. source_at known n path none ∙ sym (source_at known m path none))
    (λ path maker c made. let needs = needs_maker known.edges edge path maker c made in
    stays known rank is n m maker (omega arith) (let falls = is.falls edge maker needs in omega arith)))

pub some_state : SomeStateFits
some_state known acyclic =
    let n = length known.edges in
    let s = turn known n in
    let kept : (edge : ℕ) → edge < n → SameEdge known s (next known s) edge =
    λ edge lt. stays known acyclic.0 acyclic.1 n (suc n) edge (omega arith) (acyclic.1.bounded edge lt) in (
      s,
      record {
        edge = λ edge lt. (kept edge lt).reason;
        source = λ path none. source_at known n path none;
        output = λ path edge made.
            let same = kept edge (maker_within known.edges path edge made) in
            same.times path made ∙ ap (λ m. time_by known (with_reasons known s) m path) made
            ∙ same_output known (with_reasons known s) s edge path (sym same.reason) refl;
      },
    )
