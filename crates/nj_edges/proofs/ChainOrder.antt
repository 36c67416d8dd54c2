-- A search finds the first of the shortest chains.
use Rattle.std.proofs.Common.{◌≡◌, ◌<◌, ◌≤◌, ◌+◌, ◌⊎◌, inl, inr, ℕ, zero, suc, Bool, true, false, cond}
use Rattle.std.proofs.Common.{List, [], ◌∷◌, ◌++◌, length, take, Option, Some, None, slice_get, bytes_eq}
use Rattle.std.proofs.Common.{refl, sym, ap, subst, ◌∙◌, arith, true≢false}
use Rattle.std.specs.Prelude.{Contains, slice_index, slice_index_or}
use Rattle.std.specs.List.{IsDistinct}
use Rattle.std.proofs.lemmas.Bool.{cases_lt}
use Rattle.std.proofs.lemmas.List.{get_or-map, get_or-take, get_or_append_left, get_or_push, length-map}
use Rattle.std.proofs.lemmas.List.{length-take, length_push}
use Rattle.std.proofs.lemmas.Option.{get_or_from_slice_get, slice_get_within}
use Rattle.nj_names.specs.NumberSets.{NumberSetModel, has, with_number}
use Rattle.nj_names.proofs.NumberLemmas.{contains-has}
use Rattle.nj_cycles.proofs.Places.{index_of}
use Rattle.nj_edges.specs.declared.chains.Arrival.{Arrival}
use Rattle.nj_edges.specs.declared.chains.ChainKinds.{ChainKinds}
use Rattle.nj_edges.specs.declared.chains.Step.{Step}
use Rattle.nj_edges.specs.declared.edges.EdgeNo.{EdgeNo}
use Rattle.nj_names.specs.declared.files.FileNo.{FileNo}
use Rattle.nj_edges.specs.Chains.{inputs_with, kind_with, IsChain, IsNotAfter, IsShortest, IsStep, Lead}
use Rattle.nj_edges.specs.Chains.{OnePathIsRight, PathIs}
use Rattle.nj_edges.specs.Edges.{edge_at, maker_of}
use Rattle.nj_edges.specs.EdgeGraphs.{EdgeGraph}
use Rattle.nj_names.specs.Files.{path_at}
use Rattle.nj_edges.specs.Inside.ChainsHeld.{AddsInOrder, AddsMakers, Arrives, ComesBefore, ComesFromBefore}
use Rattle.nj_edges.specs.Inside.ChainsHeld.{ComesSooner, HasInput, IsLeftmostFrom, IsReachedFrom}
use Rattle.nj_edges.specs.Inside.ChainsHeld.{IsStepAt, MakesInput, MakesInputAt, MakesInputBefore}
use Rattle.nj_edges.specs.Inside.ChainsHeld.{SearchesChain, SearchesInOrder, Traces, arrival_index}
use Rattle.nj_edges.specs.Inside.ChainsHeld.{with_arrival}
use Rattle.nj_edges.specs.Inside.ChainsHeld.Traces.{back, start}
use Rattle.nj_edges.proofs.ChainLemmas.{only-file, step-has, step-makes}
use Rattle.nj_edges.proofs.SearchLemmas.{found-nearer}

-- ---- makers of inputs

module _ (g : EdgeGraph) (kinds : ChainKinds) (user k edge : ℕ) (makes : MakesInputAt g kinds user k edge)
  where
    abbrev files_of : List (List ℕ)
    files_of = inputs_with kinds (edge_at g.edges user)

    within : k < length (inputs_with kinds (edge_at g.edges user))
    within = slice_get_within files_of k makes.0 makes.1

    pub at-makes : MakesInput g kinds user edge
    at-makes = (
      k,
      omega (arith, within, length-map files_of (maker_of g.edges)),
      get_or-map (maker_of g.edges) files_of k makes.0 (Some edge) within
          ∙ ap (maker_of g.edges) (get_or_from_slice_get files_of k makes.0 makes.0 makes.1) ∙ makes.2,
    )

    pub at-makes-before : (index : ℕ) → k < index → MakesInputBefore g kinds index user edge
    at-makes-before index below =
        let few = take index files_of in
        let in_few : k < length few = grind (arith, within, length-take) in (
          k,
          omega (arith, in_few, length-map few (maker_of g.edges)),
          get_or-map (maker_of g.edges) few k makes.0 (Some edge) in_few
              ∙ ap (maker_of g.edges) (get_or-take index files_of k makes.0 below
              ∙ get_or_from_slice_get files_of k makes.0 makes.0 makes.1) ∙ makes.2,
        )

-- ---- one more input

module _ (g : EdgeGraph) (kinds : ChainKinds) (user : ℕ) where
  pub adds-none-in-order : (old : NumberSetModel) (arrivals : List (Option Arrival))
      → AddsInOrder g kinds user 0 old old arrivals
  adds-none-in-order old arrivals = record {
    before = λ i past below. absurd (omega (arith, past, below));
    rises = λ i j past lt below. absurd (omega (arith, past, lt, below));
    earliest = λ i k past below within. absurd (omega (arith, past, below));
  }

  module _ (index : ℕ) (first old : NumberSetModel) (after : List (Option Arrival))
      (held : AddsInOrder g kinds user index first old after) where
    pub order-kept : AddsInOrder g kinds user (index + 1) first old after
    order-kept = record {
      before = λ i past below. omega (arith, held.before i past below);
      rises = held.rises;
      earliest = λ i k past below within makes. elim (cases_lt k index) [
        | inl earlier ↦ held.earliest i k past below earlier makes
        | inr late ↦ omega (arith, held.before i past below, late)
      ];
    }

    module _ (maker : ℕ) (arrival : Arrival) (count : length after ≡ length old.numbers)
        (is_new : Contains old.numbers maker → ⊥)
        (all : (e : ℕ) → MakesInputBefore g kinds index user e → Contains old.numbers e)
        (here : arrival.step.index ≡ index) where
      abbrev pushed : List (Option Arrival)
      pushed = after ++ Some arrival ∷ []

      left : (i : ℕ) → i < length old.numbers
          → arrival_index (slice_index_or (after ++ Some arrival ∷ []) i None)
          ≡ arrival_index (slice_index_or after i None)
      left i below = ap arrival_index
          (get_or_append_left after (Some arrival ∷ []) None i (omega (arith, below, count)))

      last : (i : ℕ) → length old.numbers ≡ i
          → arrival_index (slice_index_or (after ++ Some arrival ∷ []) i None) ≡ index
      last i is = ap arrival_index (get_or_push after (Some arrival) None i (count ∙ is)) ∙ here

      numbers-left : (i : ℕ) → i < length old.numbers
          → slice_index (old.numbers ++ maker ∷ []) i ≡ slice_index old.numbers i
      numbers-left i below = get_or_append_left old.numbers (maker ∷ []) 0 i below

      last-is : (i : ℕ) → length old.numbers ≤ i → i < length (old.numbers ++ maker ∷ [])
          → length old.numbers ≡ i
      last-is i past below = omega (arith, past, below, length_push old.numbers maker)

      pub order-pushed : AddsInOrder g kinds user (index + 1) first
          (record old { numbers = old.numbers ++ maker ∷ [] }) (after ++ Some arrival ∷ [])
      order-pushed = record {
        before = λ i past below. elim (cases_lt i (length old.numbers)) [
          | inl earlier ↦ omega (arith, left i earlier, held.before i past earlier)
          | inr late ↦ omega (arith, last i (last-is i late below))
        ];
        rises = λ i j past lt below. elim (cases_lt j (length old.numbers)) [
          | inl earlier ↦ omega (
            arith,
            left i (omega (arith, lt, earlier)),
            left j earlier,
            held.rises i j past lt earlier,
          )
          | inr late ↦
              let is = last-is j late below in
              let i_below : i < length old.numbers = omega (arith, lt, is) in
              omega (arith, left i i_below, last j is, held.before i past i_below)
        ];
        earliest = λ i k past below within makes. elim (cases_lt i (length old.numbers)) [
          | inl earlier ↦
              let makes_here = subst (MakesInputAt g kinds user k) (numbers-left i earlier) makes in
              elim (cases_lt k index) [
                | inl before ↦ omega (
                  arith,
                  left i earlier,
                  held.earliest i k past earlier before makes_here,
                )
                | inr late ↦ omega (arith, left i earlier, held.before i past earlier, late)
              ]
          | inr late ↦
              let is = last-is i late below in
              elim (cases_lt k index) [
                | inl before ↦
                    let makes_here : MakesInputAt g kinds user k maker =
                    subst (MakesInputAt g kinds user k) (get_or_push old.numbers maker 0 i is) makes in
                    absurd (is_new (all maker (at-makes-before g kinds user k maker makes_here index before)))
                | inr past_index ↦ omega (arith, last i is, past_index)
              ]
        ];
      }

    -- the maker of the input at the index, unless it was found before
    module _ (edge : EdgeNo) (place maker : ℕ) (s : Step) (at : IsStepAt g kinds edge index s)
        (count : length after ≡ length old.numbers)
        (all : (e : ℕ) → MakesInputBefore g kinds index user e → Contains old.numbers e) where
      abbrev arrival_here : Arrival
      arrival_here = record { step = s; place = place }

      order-by : (b : Bool) → has old.numbers maker ≡ b
          → AddsInOrder g kinds user (index + 1) first
          (record old { numbers = cond b old.numbers (old.numbers ++ maker ∷ []) })
          (with_arrival after b (Some (record { step = s; place = place })))
      order-by true known = order-kept
      order-by false known = order-pushed maker arrival_here count
          (λ is. true≢false (sym (contains-has old.numbers maker is) ∙ known)) all at.index_is

      pub order-maker : (new : NumberSetModel) (now : List (Option Arrival))
          → new ≡ record old { numbers = with_number old.numbers maker }
          → now ≡ with_arrival after (has old.numbers maker) (Some (record { step = s; place = place }))
          → AddsInOrder g kinds user (index + 1) first new now
      order-maker new now is came =
          subst (λ f. AddsInOrder g kinds user (index + 1) first f now) (sym is)
          (subst (AddsInOrder g kinds user (index + 1) first
          (record old { numbers = with_number old.numbers maker })) (sym came)
          (order-by (has old.numbers maker) refl))

    pub order-source : (new : NumberSetModel) (now : List (Option Arrival)) → new ≡ old → now ≡ after
        → AddsInOrder g kinds user (index + 1) first new now
    order-source new now is came =
        subst (λ f. AddsInOrder g kinds user (index + 1) first f now) (sym is)
        (subst (AddsInOrder g kinds user (index + 1) first old) (sym came) order-kept)

-- all inputs were tried
pub order-all : (g : EdgeGraph) (kinds : ChainKinds) (user place index : ℕ) (old new : NumberSetModel)
    (before after : List (Option Arrival)) → length (inputs_with kinds (edge_at g.edges user)) ≤ index
    → user ≡ slice_index old.numbers place → place < length old.numbers
    → AddsMakers g kinds (MakesInput g kinds user) place old new before after
    → AddsInOrder g kinds user index old new after
    → AddsInOrder g kinds user (length (inputs_with kinds (edge_at g.edges user))) old new after
order-all g kinds user place index old new before after past user_is below adds held = record {
  before = λ i late within.
      let more = adds.added i late within in
      let arrival = more.0 in
      let is : arrival.step.edge.0 ≡ user = more.3.from ∙ ap (slice_index new.numbers) more.2
      ∙ adds.finds.stays place below ∙ sym user_is in
      let input = subst (λ e. slice_get (inputs_with kinds (edge_at g.edges e)) arrival.step.index
      ≡ Some (path_at g.files arrival.step.file)) is more.3.is_step.input in
      subst (λ o. arrival_index o < length (inputs_with kinds (edge_at g.edges user))) (sym more.1)
      (slice_get_within (inputs_with kinds (edge_at g.edges user)) arrival.step.index
      (path_at g.files arrival.step.file) input);
  rises = held.rises;
  earliest = λ i k late within below. held.earliest i k late within (omega (arith, below, past));
}

-- ---- turn by turn

pub order-begins : (g : EdgeGraph) (kinds : ChainKinds) (first : ℕ) (numbers : List ℕ)
    (arrivals : List (Option Arrival)) → numbers ≡ first ∷ [] → arrivals ≡ None ∷ []
    → SearchesInOrder g kinds numbers arrivals 0
order-begins g kinds first numbers arrivals is begun =
    subst (λ ns. SearchesInOrder g kinds ns arrivals 0) (sym is)
    (subst (λ came. SearchesInOrder g kinds (first ∷ []) came 0) (sym begun) (record {
      behind = behind;
      rises = λ i j lt below. absurd (omega (arith, lt, below));
      earliest = λ i p k within below. absurd (omega (arith, below));
    }))
  where
    behind : (i : ℕ) → i < length {A = ℕ} (first ∷ [])
        → ComesFromBefore 0 (slice_index_or (None ∷ []) i None)
    behind zero below = tt
    behind (suc i) below = absurd (omega (arith, below))

behind-later : (place : ℕ) (o : Option Arrival) → ComesFromBefore place o → ComesFromBefore (place + 1) o
behind-later place None held = tt
behind-later place (Some arrival) held = omega (arith, held)

behind-sooner : (place index : ℕ) (o : Option Arrival) → ComesFromBefore place o → ComesSooner o place index
behind-sooner place index None held = tt
behind-sooner place index (Some arrival) held = inl held

module _ (g : EdgeGraph) (kinds : ChainKinds) (first : ℕ) (to : List ℕ) (old new : NumberSetModel)
    (before after : List (Option Arrival)) (place : ℕ) (below : place < length old.numbers)
    (held : SearchesChain g kinds first to old before place)
    (order : SearchesInOrder g kinds old.numbers before place)
    (adds : AddsMakers g kinds (MakesInput g kinds (slice_index old.numbers place)) place old new before
    after)
    (in_order : AddsInOrder g kinds (slice_index old.numbers place)
    (length (inputs_with kinds (edge_at g.edges (slice_index old.numbers place)))) old new after) where
  -- an arrival that was added
  module _ (i : ℕ) (past : length old.numbers ≤ i) (within : i < length new.numbers) where
    added-behind : ComesFromBefore (place + 1) (slice_index_or after i None)
    added-behind =
        let more = adds.added i past within in
        subst (ComesFromBefore (place + 1)) (sym more.1) (omega (arith, more.2))

    -- it comes after the existing arrivals
    added-after : (o : Option Arrival) → ComesFromBefore place o → ComesBefore o (slice_index_or after i None)
    added-after o behind =
        let more = adds.added i past within in
        let arrival = more.0 in
        subst (ComesBefore o) (sym more.1)
        (subst (λ p. ComesSooner o p arrival.step.index) (sym more.2)
        (behind-sooner place arrival.step.index o behind))

    added-sooner : (index : ℕ) → arrival_index (slice_index_or after i None) < index
        → ComesSooner (slice_index_or after i None) place index
    added-sooner index lt =
        let more = adds.added i past within in
        let less = subst (λ o. arrival_index o < index) more.1 lt in
        subst (λ o. ComesSooner o place index) (sym more.1) (inr (more.2, less))

    added-new : (p k : ℕ) → p < place → MakesInputAt g kinds (slice_index new.numbers p) k
        (slice_index new.numbers i) → ⊥
    added-new p k before_place makes =
        let user_is = adds.finds.stays p (omega (arith, before_place, below)) in
        let makes_it = subst (λ e. MakesInput g kinds e (slice_index new.numbers i)) user_is
        (at-makes g kinds (slice_index new.numbers p) k (slice_index new.numbers i) makes) in
        (adds.finds.added i past within).0
        (held.searched.closed p (slice_index new.numbers i) before_place makes_it).0

  added-rises : (i j : ℕ) → length old.numbers ≤ i → i < j → j < length new.numbers
      → ComesBefore (slice_index_or after i None) (slice_index_or after j None)
  added-rises i j past lt within =
      let more = adds.added j (omega (arith, past, lt)) within in
      let arrival = more.0 in
      let less = subst (λ o. arrival_index (slice_index_or after i None) < arrival_index o) more.1
      (in_order.rises i j past lt within) in
      subst (ComesBefore (slice_index_or after i None)) (sym more.1)
      (subst (λ p. ComesSooner (slice_index_or after i None) p arrival.step.index) (sym more.2)
      (added-sooner i past (omega (arith, lt, within)) arrival.step.index less))

  rises-on : (i j : ℕ) → i < j → j < length new.numbers
      → ComesBefore (slice_index_or after i None) (slice_index_or after j None)
  rises-on i j lt within = elim (cases_lt j (length old.numbers)) [
    | inl was ↦
        let i_was : i < length old.numbers = omega (arith, lt, was) in
        subst (λ o. ComesBefore o (slice_index_or after j None)) (sym (adds.stays i i_was))
        (subst (ComesBefore (slice_index_or before i None)) (sym (adds.stays j was))
        (order.rises i j lt was))
    | inr late ↦ elim (cases_lt i (length old.numbers)) [
      | inl i_was ↦ subst (λ o. ComesBefore o (slice_index_or after j None)) (sym (adds.stays i i_was))
          (added-after j late within (slice_index_or before i None) (order.behind i i_was))
      | inr i_late ↦ added-rises i j i_late lt within
    ]
  ]

  behind-on : (i : ℕ) → i < length new.numbers → ComesFromBefore (place + 1) (slice_index_or after i None)
  behind-on i within = elim (cases_lt i (length old.numbers)) [
    | inl was ↦ subst (ComesFromBefore (place + 1)) (sym (adds.stays i was))
        (behind-later place (slice_index_or before i None) (order.behind i was))
    | inr late ↦ added-behind i late within
  ]

  earliest-was : (i p k : ℕ) → i < length old.numbers → p < place + 1
      → MakesInputAt g kinds (slice_index new.numbers p) k (slice_index new.numbers i)
      → ComesSooner (slice_index_or before i None) p (suc k)
  earliest-was i p k was p_below makes = elim (cases_lt p place) [
    | inl earlier ↦ order.earliest i p k was earlier
        (subst (λ e. MakesInputAt g kinds e k (slice_index old.numbers i))
        (adds.finds.stays p (omega (arith, earlier, below)))
        (subst (MakesInputAt g kinds (slice_index new.numbers p) k) (adds.finds.stays i was) makes))
    | inr now ↦
        let is : place ≡ p = omega (arith, now, p_below) in
        subst (λ n. ComesSooner (slice_index_or before i None) n (suc k)) is
        (behind-sooner place (suc k) (slice_index_or before i None) (order.behind i was))
  ]

  earliest-added : (i p k : ℕ) → length old.numbers ≤ i → i < length new.numbers → p < place + 1
      → MakesInputAt g kinds (slice_index new.numbers p) k (slice_index new.numbers i)
      → ComesSooner (slice_index_or after i None) p (suc k)
  earliest-added i p k late within p_below makes = elim (cases_lt p place) [
    | inl earlier ↦ absurd (added-new i late within p k earlier makes)
    | inr now ↦
        let is : place ≡ p = omega (arith, now, p_below) in
        let user_is : slice_index new.numbers p ≡ slice_index old.numbers place
        = ap (slice_index new.numbers) (sym is) ∙ adds.finds.stays place below in
        let makes_it = subst (λ e. MakesInputAt g kinds e k (slice_index new.numbers i)) user_is makes in
        let k_within = slice_get_within
        (inputs_with kinds (edge_at g.edges (slice_index old.numbers place))) k makes_it.0 makes_it.1 in
        subst (λ n. ComesSooner (slice_index_or after i None) n (suc k)) is
        (added-sooner i late within (suc k)
        (omega (arith, in_order.earliest i k late within k_within makes_it)))
  ]

  pub order-continues : SearchesInOrder g kinds new.numbers after (place + 1)
  order-continues = record {
    behind = behind-on;
    rises = rises-on;
    earliest = λ i p k within p_below makes. elim (cases_lt i (length old.numbers)) [
      | inl was ↦ subst (λ o. ComesSooner o p (suc k)) (sym (adds.stays i was))
          (earliest-was i p k was p_below makes)
      | inr late ↦ earliest-added i p k late within p_below makes
    ];
  }

-- ---- at the end

-- an arrival before another is also before anything that the other is not after
sooner-through : (arrival : Arrival) (o : Option Arrival) (p k : ℕ) → ComesBefore (Some arrival) o
    → ComesSooner o p (suc k) → ComesSooner (Some arrival) p k
sooner-through arrival None p k before sooner = absurd before
sooner-through arrival (Some later) p k (inl lt) (inl less) = inl (omega (arith, lt, less))
sooner-through arrival (Some later) p k (inl lt) (inr (is, less)) = inl (omega (arith, lt, is))
sooner-through arrival (Some later) p k (inr (is, lt)) (inl less) = inl (omega (arith, is, less))
sooner-through arrival (Some later) p k (inr (is, lt)) (inr (same, less)) =
    inr (is ∙ same, omega (arith, lt, less))

module _ (g : EdgeGraph) (kinds : ChainKinds) (first : ℕ) (to : List ℕ) (found : NumberSetModel)
    (arrivals : List (Option Arrival)) (place : ℕ)
    (held : SearchesChain g kinds first to found arrivals place)
    (order : SearchesInOrder g kinds found.numbers arrivals place) (below : place < length found.numbers)
  where
    abbrev edge_of : (place : ℕ) → ℕ
    edge_of n = slice_index found.numbers n

    -- the whole is so many steps from the first edge to an edge, and then the rest
    abbrev IsLed : (n edge : ℕ) → (rest whole : List Step) → Type 0
    IsLed zero edge rest whole = (edge ≡ first) × (whole ≡ rest)
    IsLed (suc n) edge rest whole = (s : Step) × IsStep g kinds s
        × (maker_of g.edges (path_at g.files s.file) ≡ Some edge) × IsLed n s.edge.0 (s ∷ rest) whole

    led-reached : (n edge : ℕ) (rest whole : List Step) → IsLed n edge rest whole
        → IsReachedFrom g kinds first n edge
    led-reached zero edge rest whole (is, same) = is
    led-reached (suc n) edge rest whole (s, step, made, led) =
        (s.edge.0, led-reached n s.edge.0 (s ∷ rest) whole led, step-makes g kinds s edge step made)

    -- place `i` with `steps` is not after place `j` with `rest`
    abbrev IsAhead : (i j : ℕ) → (steps rest : List Step) → Type 0
    IsAhead i j steps rest = (i < j) ⊎ ((i ≡ j) × IsNotAfter steps rest)

    sooner-ahead : (arrival : Arrival) (s : Step) (p : ℕ) (steps rest : List Step)
        → ComesSooner (Some arrival) p s.index → IsAhead arrival.place p (arrival.step ∷ steps) (s ∷ rest)
    sooner-ahead arrival s p steps rest (inl lt) = inl lt
    sooner-ahead arrival s p steps rest (inr (is, lt)) = inr (is, inl lt)

    no-later-ahead : (arrival : Arrival) (s : Step) (p : ℕ) (steps rest : List Step)
        → ComesSooner (Some arrival) p (suc s.index) → IsNotAfter steps rest
        → IsAhead arrival.place p (arrival.step ∷ steps) (s ∷ rest)
    no-later-ahead arrival s p steps rest (inl lt) not_after = inl lt
    no-later-ahead arrival s p steps rest (inr (is, lt)) not_after =
        elim (cases_lt arrival.step.index s.index) [
          | inl less ↦ inr (is, inl less)
          | inr past ↦ inr (is, inr (omega (arith, lt, past), not_after))
        ]

    -- only the first edge has no arrival
    first-alone : (j : ℕ) (o before : Option Arrival) → ComesBefore before o
        → Arrives g kinds first held.distance found.numbers j o
        → held.distance (slice_index found.numbers j) ≡ 0 → ⊥
    first-alone j None before comes arrives zero_is = comes
    first-alone j (Some arrival) before comes arrives zero_is = absurd (omega (arith, arrives.1, zero_is))

    -- an edge that leads to an edge at a distance, and is reached in one step less, was searched
    pub record IsSearchedAt (n edge : ℕ) : Type 0 where
      pub place_is : ℕ
      pub within : place_is < length found.numbers
      pub is : slice_index found.numbers place_is ≡ edge
      pub earlier : place_is < place
      pub near : held.distance (slice_index found.numbers place_is) ≤ n

    searched-at : (n edge : ℕ) → suc n ≤ held.distance (slice_index found.numbers place)
        → IsReachedFrom g kinds first n edge → IsSearchedAt n edge
    searched-at n edge le reached =
        let known = found-nearer (λ e. e ≡ first) (MakesInput g kinds) held.distance found.numbers place
        held.searched below n edge (omega (arith, le)) reached in
        let at = index_of found.numbers edge known.0 in
        record {
          place_is = at.0;
          within = at.1;
          is = at.2;
          earlier = elim (cases_lt at.0 place) [
            | inl earlier ↦ earlier
            | inr past ↦ absurd (omega (
              arith,
              held.searched.rises place at.0 past at.1,
              ap held.distance at.2,
              known.1,
              le,
            ))
          ];
          near = omega (arith, ap held.distance at.2, known.1);
        }

    ahead-back : (i j : ℕ) (arrival : Arrival) (s : Step) (p : ℕ) (steps rest : List Step)
        → i < length found.numbers → j < length found.numbers → p < place
        → slice_index_or arrivals i None ≡ Some arrival
        → MakesInputAt g kinds (slice_index found.numbers p) s.index (slice_index found.numbers j)
        → IsAhead i j steps rest → IsAhead arrival.place p (arrival.step ∷ steps) (s ∷ rest)
    ahead-back i j arrival s p steps rest i_below j_below p_below came makes (inl lt) =
        sooner-ahead arrival s p steps rest
        (sooner-through arrival (slice_index_or arrivals j None) p s.index
        (subst (λ o. ComesBefore o (slice_index_or arrivals j None)) came (order.rises i j lt j_below))
        (order.earliest j p s.index j_below p_below makes))
    ahead-back i j arrival s p steps rest i_below j_below p_below came makes (inr (is, not_after)) =
        no-later-ahead arrival s p steps rest
        (subst (λ o. ComesSooner o p (suc s.index)) came
        (order.earliest i p s.index i_below p_below
        (subst (λ n. MakesInputAt g kinds (slice_index found.numbers p) s.index (slice_index found.numbers n))
        (sym is) makes))) not_after

    traced-first : (n i j : ℕ) → n ≤ held.distance (slice_index found.numbers place)
        → i < length found.numbers → j < length found.numbers
        → held.distance (slice_index found.numbers i) ≡ n → held.distance (slice_index found.numbers j) ≡ n
        → (steps rest whole others : List Step) → IsAhead i j steps rest → Traces arrivals i steps whole
        → IsLed n (slice_index found.numbers j) rest others → IsNotAfter whole others
    traced-first zero i j le i_below j_below i_near j_near steps rest _ others (inl lt) (start none_came)
        led =
        absurd (first-alone j (slice_index_or arrivals j None) (slice_index_or arrivals i None)
        (order.rises i j lt j_below) (held.arrive j j_below) j_near)
    traced-first zero i j le i_below j_below i_near j_near steps rest _ others (inr (is, not_after))
        (start none_came) led = subst (IsNotAfter steps) (sym led.1) not_after
    traced-first zero i j le i_below j_below i_near j_near steps rest whole others ahead
        (back arrival came traced) led =
        let arrives = subst (Arrives g kinds first held.distance found.numbers i) came (held.arrive i i_below)
        in absurd (omega (arith, arrives.1, i_near))
    traced-first (suc n) i j le i_below j_below i_near j_near steps rest _ others ahead (start none_came)
        led =
        let arrives = subst (Arrives g kinds first held.distance found.numbers i) none_came
        (held.arrive i i_below) in
        absurd (omega (arith, arrives.1, i_near))
    traced-first (suc n) i j le i_below j_below i_near j_near steps rest whole others ahead
        (back arrival came traced) (s, step, made, led) =
        let arrives = subst (Arrives g kinds first held.distance found.numbers i) came (held.arrive i i_below)
        in
        let from = searched-at n s.edge.0 le (led-reached n s.edge.0 (s ∷ rest) others led) in
        let p = from.place_is in
        let makes_it : MakesInput g kinds (slice_index found.numbers p) (slice_index found.numbers j)
        = subst (λ e. MakesInput g kinds e (slice_index found.numbers j)) (sym from.is)
        (step-makes g kinds s (slice_index found.numbers j) step made) in
        let next = held.searched.closed p (slice_index found.numbers j) from.earlier makes_it in
        let input = subst (λ e. slice_get (inputs_with kinds (edge_at g.edges e)) s.index
        ≡ Some (path_at g.files s.file)) (sym from.is) step.input in
        traced-first n arrival.place p (omega (arith, le))
        (omega (arith, arrives.0.earlier, i_below)) from.within
        (omega (arith, arrives.1, i_near))
        (omega (arith, from.near, next.1, j_near))
        (arrival.step ∷ steps) (s ∷ rest) whole others
        (ahead-back i j arrival s p steps rest i_below j_below from.earlier came
        (path_at g.files s.file, input, made) ahead)
        traced
        (subst (λ e. IsLed n e (s ∷ rest) others) (sym from.is) led)

    -- ---- a chain from its last step

    pub record IsLedTo (n : ℕ) (whole : List Step) : Type 0 where
      pub last : Step
      pub step : IsStep g kinds last
      pub ends : path_at g.files last.file ≡ to
      pub led : IsLed n last.edge.0 (last ∷ []) whole

    lead-led : (n : ℕ) (s : Step) (more whole : List Step) → IsLed n s.edge.0 (s ∷ more) whole
        → IsStep g kinds s → Lead g kinds (path_at g.files s.file) more to → IsLedTo (n + length more) whole
    lead-led n s [] whole led step ends =
        let same : n ≡ n + length {A = Step} [] = omega arith in
        subst (λ m. IsLedTo m whole) same (record { last = s; step = step; ends = ends; led = led })
    lead-led n s (t ∷ more) whole led step (made, next, leads) =
        let same : suc n + length more ≡ n + length (t ∷ more) = omega arith in
        subst (λ m. IsLedTo m whole) same (lead-led (suc n) t more whole (s, step, made, led) next leads)

    some-same : (x y : ℕ) → Some x ≡ Some y → x ≡ y
    some-same x y is = cc

    chain-led : (from : List ℕ) (others : List Step) (n : ℕ) → maker_of g.edges from ≡ Some first
        → IsChain g kinds from others to → length others ≡ suc n → IsLedTo n others
    chain-led from [] n maker none_is count = absurd none_is
    chain-led from (s ∷ others) n maker (made, step, leads) count =
        let same : s.edge.0 ≡ first = some-same s.edge.0 first (sym made ∙ maker) in
        let number : 0 + length others ≡ n = omega (arith, count) in
        subst (λ m. IsLedTo m (s ∷ others)) number (lead-led 0 s others (s ∷ others) (same, refl) step leads)

    module _ (last : Step) (steps : List Step)
        (earliest : (i : ℕ)
        → slice_get (inputs_with kinds (edge_at g.edges (slice_index found.numbers place))) i ≡ Some to
        → last.index ≤ i) (traced : Traces arrivals place (last ∷ []) steps)
        (count : length steps ≡ suc (held.distance (slice_index found.numbers place))) where
      abbrev D : ℕ
      D = held.distance (slice_index found.numbers place)

      last-ahead : (other : Step) (p : ℕ) → p < length found.numbers
          → slice_index found.numbers p ≡ other.edge.0
          → IsStep g kinds other → path_at g.files other.file ≡ to → IsAhead place p (last ∷ []) (other ∷ [])
      last-ahead other p within is step ends = elim (cases_lt place p) [
        | inl lt ↦ inl lt
        | inr past ↦ elim (cases_lt p place) [
          | inl earlier ↦ absurd (held.missed p earlier (subst (HasInput g kinds to) (sym is)
              (subst (λ path. HasInput g kinds path other.edge.0) ends (step-has g kinds other step))))
          | inr late ↦
              let here : place ≡ p = omega (arith, past, late) in
              let input = subst (λ e. slice_get (inputs_with kinds (edge_at g.edges e)) other.index
              ≡ Some (path_at g.files other.file)) (sym is ∙ ap (slice_index found.numbers) (sym here))
              step.input in
              let le = earliest other.index (input ∙ ap Some ends) in
              elim (cases_lt last.index other.index) [
                | inl less ↦ inr (here, inl less)
                | inr no_less ↦ inr (here, inr (omega (arith, le, no_less), tt))
              ]
        ]
      ]

      pub leftmost-found : IsLeftmostFrom g kinds first to steps
      leftmost-found from others maker chain same =
          let l = chain-led from others D maker chain (same ∙ count) in
          let reached = led-reached D l.last.edge.0 (l.last ∷ []) others l.led in
          let known = found-nearer (λ e. e ≡ first) (MakesInput g kinds) held.distance found.numbers place
          held.searched below D l.last.edge.0 (omega arith) reached in
          let at = index_of found.numbers l.last.edge.0 known.0 in
          let ahead = last-ahead l.last at.0 at.1 at.2 l.step l.ends in
          let place_le : place ≤ at.0 = ahead-le at.0 (last ∷ []) (l.last ∷ []) ahead in
          traced-first D place at.0 (omega arith) below at.1 refl
          (omega (arith, held.searched.rises place at.0 place_le at.1, ap held.distance at.2, known.1))
          (last ∷ []) (l.last ∷ []) steps others ahead traced
          (subst (λ e. IsLed D e (l.last ∷ []) others) (sym at.2) l.led)
        where
          ahead-le : (p : ℕ) (tail others_tail : List Step) → IsAhead place p tail others_tail → place ≤ p
          ahead-le p tail others_tail (inl lt) = omega (arith, lt)
          ahead-le p tail others_tail (inr (is, rest)) = omega (arith, is)

-- ---- one answer

module _ (g : EdgeGraph) (kinds : ChainKinds) (distinct : IsDistinct bytes_eq g.files) where
  same-kind : (s t : Step) → s.edge.0 ≡ t.edge.0 → s.index ≡ t.index → IsStep g kinds s → IsStep g kinds t
      → s.kind ≡ t.kind
  same-kind s t edge index one other = one.kind
      ∙ ap (λ e. kind_with kinds (edge_at g.edges e) s.index) edge
      ∙ ap (kind_with kinds (edge_at g.edges t.edge.0)) index ∙ sym other.kind

  same-path : (s t : Step) → s.edge.0 ≡ t.edge.0 → s.index ≡ t.index → IsStep g kinds s → IsStep g kinds t
      → path_at g.files s.file ≡ path_at g.files t.file
  same-path s t edge index one other = some-one (path_at g.files s.file) (path_at g.files t.file)
      (sym one.input ∙ ap (λ e. slice_get (inputs_with kinds (edge_at g.edges e)) s.index) edge
      ∙ ap (slice_get (inputs_with kinds (edge_at g.edges t.edge.0))) index ∙ other.input)
    where
      some-one : (x y : List ℕ) → Some x ≡ Some y → x ≡ y
      some-one x y is = cc

  same-step : (s t : Step) → s.edge.0 ≡ t.edge.0 → s.index ≡ t.index → IsStep g kinds s → IsStep g kinds t
      → s ≡ t
  same-step s t edge index one other =
      let file = only-file g.files distinct s.file t.file one.file other.file
      (same-path s t edge index one other) in
      let kind = same-kind s t edge index one other in
      ap (λ n. record s { edge = record { 0 = n } }) edge
      ∙ ap (λ n. record { edge = t.edge; index = n; file = s.file; kind = s.kind }) index
      ∙ ap (λ f. record { edge = t.edge; index = t.index; file = f; kind = s.kind }) file
      ∙ ap (λ k. record { edge = t.edge; index = t.index; file = t.file; kind = k }) kind

  same-index : (s t : Step) (steps others : List Step) → IsNotAfter (s ∷ steps) (t ∷ others)
      → IsNotAfter (t ∷ others) (s ∷ steps)
      → (s.index ≡ t.index) × IsNotAfter steps others × IsNotAfter others steps
  same-index s t steps others (inl lt) (inl gt) = absurd (omega (arith, lt, gt))
  same-index s t steps others (inl lt) (inr (is, rest)) = absurd (omega (arith, lt, is))
  same-index s t steps others (inr (is, rest)) (inl gt) = absurd (omega (arith, gt, is))
  same-index s t steps others (inr (is, one)) (inr (same, other)) = (is, one, other)

  same-steps : (from : List ℕ) (steps others : List Step) (to : List ℕ) → Lead g kinds from steps to
      → Lead g kinds from others to → length steps ≡ length others → IsNotAfter steps others
      → IsNotAfter others steps → steps ≡ others
  same-steps from [] [] to one other count before after = refl
  same-steps from [] (t ∷ others) to one other count before after = absurd (omega (arith, count))
  same-steps from (s ∷ steps) [] to one other count before after = absurd (omega (arith, count))
  same-steps from (s ∷ steps) (t ∷ others) to (made, step, leads) (made', step', leads') count before after =
      let same = same-index s t steps others before after in
      let edge = some-same' s.edge.0 t.edge.0 (sym made ∙ made') in
      let path = same-path s t edge same.0 step step' in
      ap (λ x. x ∷ steps) (same-step s t edge same.0 step step')
      ∙ ap (λ xs. t ∷ xs) (same-steps (path_at g.files t.file) steps others to
      (subst (λ p. Lead g kinds p steps to) path leads) leads' (omega (arith, count)) same.1 same.2)
    where
      some-same' : (x y : ℕ) → Some x ≡ Some y → x ≡ y
      some-same' x y is = cc

  chain-leads : (from : List ℕ) (steps : List Step) (to : List ℕ) → IsChain g kinds from steps to
      → Lead g kinds from steps to
  chain-leads from [] to none_is = absurd none_is
  chain-leads from (s ∷ steps) to chain = chain

  same-shortest : (from : List ℕ) (steps others : List Step) (to : List ℕ)
      → IsShortest g kinds from steps to → IsShortest g kinds from others to → steps ≡ others
  same-shortest from steps others to one other =
      let count : length steps ≡ length others
      = omega (arith, one.shortest others other.chain, other.shortest steps one.chain) in
      same-steps from steps others to (chain-leads from steps to one.chain)
      (chain-leads from others to other.chain) count (one.leftmost others other.chain (sym count))
      (other.leftmost steps one.chain count)

  one-path : (from to : FileNo) (path other : Option (List Step)) → PathIs g kinds from to path
      → PathIs g kinds from to other → path ≡ other
  one-path from to None None one two = refl
  one-path from to None (Some steps) (inl same) (apart, shortest) = absurd (apart same)
  one-path from to None (Some steps) (inr none) (apart, shortest) = absurd (none steps shortest.chain)
  one-path from to (Some steps) None (apart, shortest) (inl same) = absurd (apart same)
  one-path from to (Some steps) None (apart, shortest) (inr none) = absurd (none steps shortest.chain)
  one-path from to (Some steps) (Some others) (apart, one) (apart', other) =
      ap Some (same-shortest (path_at g.files from) steps others (path_at g.files to) one other)

pub one-path-is-right : OnePathIsRight
one-path-is-right g kinds from to path other distinct = one-path g kinds distinct from to path other
