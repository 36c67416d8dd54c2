-- How edges are found, nearest first.
use Rattle.std.proofs.lemmas.Grind.{common_steps}
use Rattle.std.proofs.Common.{◌≡◌, ◌<◌, ◌≤◌, ◌+◌, ◌⊎◌, inl, inr, ℕ, zero, suc, Bool, true, false, cond, List}
use Rattle.std.proofs.Common.{[], length, refl, sym, ap, subst, ◌∙◌, arith}
use Rattle.std.specs.Prelude.{Contains, slice_index}
use Rattle.std.proofs.lemmas.Bool.{both_ways, cases_lt}
use Rattle.nj_names.specs.NumberSets.{NumberSetModel, has}
use Rattle.nj_names.proofs.NumberLemmas.{contains-has, has-contains}
use Rattle.nj_cycles.proofs.Places.{contains_at, index_of}
use Rattle.nj_edges.specs.Distances.{IsReachedIn}
use Rattle.nj_edges.specs.Inside.ChangesHeld.{FindsMore}
use Rattle.nj_edges.specs.Inside.SearchHeld.{IsSearched}

-- an edge found before has its distance, and an edge found now is a step farther than the edge from which it
-- is found
abbrev pub farther : (distance : ℕ → ℕ) → (before : List ℕ) → (from : ℕ) → ℕ → ℕ
farther distance before from e = cond (has before e) (distance e) (suc (distance from))

module _ (distance : ℕ → ℕ) (before : List ℕ) (from e : ℕ) where
  pub farther-known : Contains before e → farther distance before from e ≡ distance e
  farther-known is = ap (λ b. cond b (distance e) (suc (distance from))) (contains-has before e is)

  pub farther-new : (Contains before e → ⊥) → farther distance before from e ≡ suc (distance from)
  farther-new new = grind (arith, has-contains)

  pub known-or-new : Contains before e ⊎ (Contains before e → ⊥)
  known-or-new = by (has before e) refl
    where
      by : (b : Bool) → has before e ≡ b → Contains before e ⊎ (Contains before e → ⊥)
      by true is = inl (has-contains before e is)
      by false is = inr (λ known. both_ways (has before e) is (contains-has before e known))

module _ (begins : ℕ → Type 0) (step : ℕ → ℕ → Type 0) where
  -- the edges where steps begin were found
  pub search-begins : (none new : NumberSetModel) → none.numbers ≡ [] → FindsMore begins none new
      → IsSearched begins step (λ e. 0) new.numbers 0
  search-begins none new empty finds = grind (arith, common_steps)

  -- the edges to which the edge at the place leads were found
  module _ (distance : ℕ → ℕ) (old new : NumberSetModel) (place : ℕ) (below : place < length old.numbers)
      (held : IsSearched begins step distance old.numbers place)
      (finds : FindsMore (step (slice_index old.numbers place)) old new) where
    abbrev from : ℕ
    from = slice_index old.numbers place

    abbrev later : ℕ → ℕ
    later = farther distance old.numbers (slice_index old.numbers place)

    later-known : (e : ℕ) → Contains old.numbers e → later e ≡ distance e
    later-known e is = farther-known distance old.numbers from e is

    later-new : (e : ℕ) → (Contains old.numbers e → ⊥) → later e ≡ suc (distance from)
    later-new e new = farther-new distance old.numbers from e new

    -- where an edge is in the list: it was there, with its distance, or it is new
    at : (i : ℕ) → i < length new.numbers
        → ((i < length old.numbers) × (later (slice_index new.numbers i)
        ≡ distance (slice_index old.numbers i)))
        ⊎ ((length old.numbers ≤ i) × (later (slice_index new.numbers i) ≡ suc (distance from)))
    at i within = elim (cases_lt i (length old.numbers)) [
      | inl before ↦ inl (
        before,
        ap later (finds.stays i before)
            ∙ later-known (slice_index old.numbers i)
            (contains_at old.numbers i (slice_index old.numbers i) before refl),
      )
      | inr after ↦ inr (after, later-new (slice_index new.numbers i) (finds.added i after within).0)
    ]

    rises-on : (i j : ℕ) → i ≤ j → j < length new.numbers
        → later (slice_index new.numbers i) ≤ later (slice_index new.numbers j)
    rises-on i j le within = elim (at i (omega (arith, le, within))) [
      | inl was ↦ elim (at j within) [
        | inl is ↦ omega (arith, was.1, is.1, held.rises i j le is.0)
        | inr new ↦ omega (arith, was.1, new.1, held.near i place was.0 (omega arith) below)
      ]
      | inr new ↦ elim (at j within) [
        | inl is ↦ absurd (omega (arith, new.0, is.0, le))
        | inr is ↦ omega (arith, new.1, is.1)
      ]
    ]

    near-on : (i j : ℕ) → i < length new.numbers → place + 1 ≤ j → j < length new.numbers
        → later (slice_index new.numbers i) ≤ suc (later (slice_index new.numbers j))
    near-on i j within past below' = elim (at i within) [
      | inl was ↦ elim (at j below') [
        | inl is ↦ omega (arith, was.1, is.1, held.near i j was.0 (omega (arith, past)) is.0)
        | inr new ↦ omega (arith, was.1, new.1, held.near i place was.0 (omega arith) below)
      ]
      | inr new ↦ elim (at j below') [
        | inl is ↦ omega (arith, new.1, is.1, held.rises place j (omega (arith, past)) is.0)
        | inr is ↦ omega (arith, new.1, is.1)
      ]
    ]

    sound-on : (e : ℕ) → Contains new.numbers e → IsReachedIn begins step (later e) e
    sound-on e is = elim (known-or-new distance old.numbers from e) [
      | inl known ↦ subst (λ n. IsReachedIn begins step n e) (sym (later-known e known)) (held.sound e known)
      | inr new ↦
          subst (λ n. IsReachedIn begins step n e) (sym (later-new e new)) (elim (finds.fresh e is) [
            | inl known ↦ absurd (new known)
            | inr stepped ↦ (from, held.sound from (contains_at old.numbers place from below refl), stepped)
          ])
    ]

    closed-on : (i e : ℕ) → i < place + 1 → step (slice_index new.numbers i) e
        → Contains new.numbers e × (later e ≤ suc (later (slice_index new.numbers i)))
    closed-on i e within stepped =
        let before : i < length old.numbers = omega (arith, within, below) in
        let same = finds.stays i before in
        let known = later-known (slice_index old.numbers i)
        (contains_at old.numbers i (slice_index old.numbers i) before refl) in
        let here : later (slice_index new.numbers i) ≡ distance (slice_index old.numbers i)
        = ap later same ∙ known in
        let old_step : step (slice_index old.numbers i) e = subst (λ n. step n e) same stepped in
        elim (cases_lt i place) [
          | inl earlier ↦
              let was = held.closed i e earlier old_step in
              (finds.kept e was.0, omega (arith, was.1, here, later-known e was.0))
          | inr now ↦
              let is : i ≡ place = omega (arith, now, within) in
              let found = finds.all e (subst (λ n. step (slice_index old.numbers n) e) is old_step) in (
                found,
                elim (known-or-new distance old.numbers from e) [
                  | inl was ↦
                      let at_e = index_of old.numbers e was in
                      omega (
                        arith,
                        here,
                        ap (λ n. distance (slice_index old.numbers n)) is,
                        later-known e was,
                        held.near at_e.0 place at_e.1 (omega arith) below,
                        ap distance at_e.2,
                      )
                  | inr new ↦ omega (
                    arith,
                    here,
                    ap (λ n. distance (slice_index old.numbers n)) is,
                    later-new e new,
                  )
                ],
              )
        ]

    pub search-continues : IsSearched begins step
        (farther distance old.numbers (slice_index old.numbers place)) new.numbers (place + 1)
    search-continues = record {
      within = omega (arith, below, finds.longer);
      sound = sound-on;
      rises = rises-on;
      near = near-on;
      begun = λ e is. let was = held.begun e is in (finds.kept e was.0, later-known e was.0 ∙ was.1);
      closed = closed-on;
    }

  -- an edge reached in fewer steps than the edge at the place was found before it, and is not farther
  module _ (distance : ℕ → ℕ) (numbers : List ℕ) (place : ℕ)
      (held : IsSearched begins step distance numbers place) where
    abbrev IsFoundWithin : (steps e : ℕ) → Type 0
    IsFoundWithin steps e = Contains numbers e × (distance e ≤ steps)

    -- an edge that comes before the place leads to edges that were found
    next-found : (steps f e : ℕ) → IsFoundWithin steps f
        → ((i : ℕ) → i < length numbers → slice_index numbers i ≡ f → i < place) → step f e
        → IsFoundWithin (suc steps) e
    next-found steps f e found earlier stepped =
        let i = index_of numbers f found.0 in
        let next = held.closed i.0 e (earlier i.0 i.1 i.2) (subst (λ n. step n e) (sym i.2) stepped) in
        (next.0, omega (arith, next.1, ap distance i.2, found.1))

    pub found-nearer : place < length numbers → (steps e : ℕ) → steps ≤ distance (slice_index numbers place)
        → IsReachedIn begins step steps e → IsFoundWithin steps e
    found-nearer below zero e le reached = let begun = held.begun e reached in
        (begun.0, omega (arith, begun.1))
    found-nearer below (suc steps) e le (f, reached, stepped) =
        let found = found-nearer below steps f (omega (arith, le)) reached in
        next-found steps f e found (λ i within is. elim (cases_lt i place) [
          | inl earlier ↦ earlier
          | inr past ↦ absurd (omega (arith, held.rises place i past within, ap distance is, found.1, le))
        ]) stepped

    pub found-all : length numbers ≤ place → (steps e : ℕ) → IsReachedIn begins step steps e
        → IsFoundWithin steps e
    found-all past zero e reached = let begun = held.begun e reached in (begun.0, omega (arith, begun.1))
    found-all past (suc steps) e (f, reached, stepped) =
        next-found steps f e (found-all past steps f reached) (λ i within is. omega (arith, past, within))
        stepped
