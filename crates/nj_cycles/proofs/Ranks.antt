-- Consequences of the order in which the walk finished the edges: ranks if no edge lies on a cycle, otherwise
-- the edges
-- that lie on a cycle.
use Rattle.std.proofs.lemmas.Grind.{common_steps}
use Rattle.std.proofs.Common.{◌≡◌, ℕ, ◌<◌, ◌≤◌, ◌+◌, ◌-◌, Bool, Some, None, Option, List, [], ◌∷◌, length}
use Rattle.std.proofs.Common.{take, drop, refl, sym, subst, ◌∙◌, ◌⊎◌, inl, inr, arith}
use Rattle.std.specs.Prelude.{Contains, slice_index, nat_eq, min, MatchOption}
use Rattle.std.specs.List.{position_or_len}
use Rattle.std.proofs.lemmas.Bool.{cases_lt, eqb-true, eq-eqb, both_ways}
use Rattle.std.proofs.lemmas.List.{length-drop, get_or-drop}
use Rattle.std.proofs.lemmas.List.Sums.{fails_before_first, passes_at_first}
use Rattle.std.proofs.lemmas.List.Elements.{Contains-append_left}
use Rattle.nj_cycles.specs.Cycles.{Needs, NeedsByChain, IsOnCycle, FallsAlongNeeds, IsAcyclic, IsFirstOnCycle}
use Rattle.nj_cycles.specs.Cycles.{AreAfterNeeds}
use Rattle.nj_cycles.specs.Cycles.{FallingRanksLeaveNoCycle}
use Rattle.nj_cycles.specs.Cycles.Chain.{one, more}
use Rattle.nj_cycles.specs.Inside.Walks.{Reaches, IsFalling, Walked}
use Rattle.nj_cycles.specs.Inside.Marks.{IsMarked, AreMarks, IsLeastOf}
use Rattle.nj_cycles.proofs.Chains.{comes_then, then_comes}
use Rattle.nj_cycles.proofs.Places.{index_of, contains_at, index_before}

-- ---- the law

rank_falls : (makers : ℕ → List (Option ℕ)) (rank : ℕ → ℕ) → FallsAlongNeeds makers rank → (e f : ℕ)
    → NeedsByChain makers e f → rank f < rank e
rank_falls makers rank falls e f (one needs) = falls e f needs
rank_falls makers rank falls e f (more {g = h} needs chain) =
    omega (arith, falls e h needs, rank_falls makers rank falls h f chain)

pub falling_ranks_leave_no_cycle : FallingRanksLeaveNoCycle
falling_ranks_leave_no_cycle makers rank falls e on = grind (arith, rank_falls makers rank falls e e on)

-- ---- a rank

-- the first place of an edge in the order
abbrev pub rank : List ℕ → ℕ → ℕ
rank order e = position_or_len (nat_eq e) order

rank_le : (order : List ℕ) (e i : ℕ) → slice_index order i ≡ e → rank order e ≤ i
rank_le order e i is = grind (arith, cases_lt, both_ways, fails_before_first, eq-eqb)

rank_at : (order : List ℕ) (e : ℕ) → rank order e < length order → slice_index order (rank order e) ≡ e
rank_at order e lt = grind (arith, eqb-true, passes_at_first)

module _ (makers : ℕ → List (Option ℕ)) (count : ℕ) (order : List ℕ) (w : Walked makers count order) where
  rank_in : (e : ℕ) → e < count → rank order e < length order
  rank_in e lt = let k = index_of order e (w.all e lt) in omega (arith, rank_le order e k.0 k.2, k.1)

  pub ranked : IsFalling makers order → IsAcyclic makers count
  ranked falling = (
    rank order,
    record {
      falls = λ e f needs.
          let lt = rank_in e (w.known e f needs).0 in
          let k = index_before order (rank order e) f (omega (arith, lt))
          (falling (rank order e) f lt (subst (λ x. Needs makers x f) (sym (rank_at order e lt)) needs))
          in
          omega (arith, rank_le order f k.0 k.2, k.1);
      bounded = λ e lt. omega (arith, rank_in e lt, w.len);
      within = λ e f needs. (w.known e f needs).1;
    },
  )

  -- where no edge lies on a cycle, each edge comes after the edges that it needs
  pub falls : ((e : ℕ) → Contains order e → ¬ IsOnCycle makers e) → IsFalling makers order
  falls none a f lt needs = elim (w.settled a a f (omega arith) lt needs) [
    | inl c ↦ c
    | inr r ↦ absurd (none (slice_index order a) (contains_at order a (slice_index order a) lt refl)
        (then_comes (Needs makers) (slice_index order a) f (slice_index order a) (one needs) r))
  ]

  -- so does each edge of a graph without cycles
  pub after_needs : IsAcyclic makers count → AreAfterNeeds makers count order
  after_needs acyclic =
      let falling = falls (λ e _ on. falling_ranks_leave_no_cycle makers acyclic.0 acyclic.1.falls e on) in
      record {
        all = w.all;
        within = w.within;
        once = w.once;
        after = λ turn f lt needs. index_before order turn f (omega (arith, lt)) (falling turn f lt needs);
      }

  -- ---- an edge that needs an edge at its place or after it

  back : (i : ℕ) → i < length order → (a u v : ℕ) → a ≤ i → slice_index order a ≡ u
      → Reaches makers (slice_index order i) u → NeedsByChain makers u v → ¬ Contains (take i order) v
      → IsOnCycle makers (slice_index order i)
  back i lt a u v le at comes (one needs) fresh =
      elim (w.settled a i v le lt (subst (λ x. Needs makers x v) (sym at) needs)) [
        | inl c ↦ absurd (fresh c)
        | inr r ↦ comes_then (Needs makers) (slice_index order i) u (slice_index order i) comes
            (then_comes (Needs makers) u v (slice_index order i) (one needs) r)
      ]
  back i lt a u v le at comes (more {g = h} needs chain) fresh =
      elim (w.settled a i h le lt (subst (λ x. Needs makers x h) (sym at) needs)) [
        | inl c ↦
            let k = index_before order i h (omega (arith, lt)) c in
            back i lt k.0 h v (omega (arith, k.1)) k.2
            (inr (comes_then (Needs makers) (slice_index order i) u h comes (one needs))) chain fresh
        | inr r ↦ comes_then (Needs makers) (slice_index order i) u (slice_index order i) comes
            (then_comes (Needs makers) u h (slice_index order i) (one needs) r)
      ]

  on_cycle_from_later : (i j : ℕ) → i ≤ j → j < length order
      → NeedsByChain makers (slice_index order i) (slice_index order j)
      → IsOnCycle makers (slice_index order i)
  on_cycle_from_later i j le lt chain =
      back i (omega (arith, le, lt)) i (slice_index order i) (slice_index order j) (omega arith) refl
      (inl refl) chain
      (λ c. let k = index_before order i (slice_index order j) (omega (arith, le, lt)) c in
      w.once k.0 j (omega (arith, k.1, le)) lt k.2)

  -- ---- marks

  -- after an edge's own turn it is marked exactly if it lies on a cycle
  pub marked-on_cycle : (i : ℕ) (flags : List Bool) → i < length order → AreMarks makers (drop i order) flags
      → IsMarked flags (slice_index order i) → IsOnCycle makers (slice_index order i)
  marked-on_cycle i flags lt marks h =
      let l = marks.sound (slice_index order i) h in
      let k = index_of (drop i order) l.0 l.1 in
      let inside : i + k.0 < length order = omega (arith, k.1, length-drop i order) in
      on_cycle_from_later i (i + k.0) (omega arith) inside
      (subst (NeedsByChain makers (slice_index order i)) (sym k.2 ∙ get_or-drop i order k.0 0) l.2)

  closed_chain : (edges : List ℕ) (flags : List Bool) → AreMarks makers edges flags → (e f : ℕ)
      → NeedsByChain makers e f → Contains edges f → IsMarked flags e
  closed_chain edges flags marks e f (one needs) c = marks.closed e f needs (inl c)
  closed_chain edges flags marks e f (more {g = h} needs chain) c =
      marks.closed e h needs (inr (closed_chain edges flags marks h f chain c))

  pub on_cycle-marked : (e : ℕ) (edges : List ℕ) (flags : List Bool) → AreMarks makers (e ∷ edges) flags
      → IsOnCycle makers e → IsMarked flags e
  on_cycle-marked e edges flags marks h =
      closed_chain (e ∷ edges) flags marks e e h
      (Contains-append_left (e ∷ []) edges e (0, omega arith, refl))

  -- ---- the result

  pub answered : (least : Option ℕ) → IsLeastOf makers order least → IsFirstOnCycle makers count least
  answered None none = ranked (falls none)
  answered (Some l) h = (
    h.0,
    λ f lt on. let least = h.1 f (w.all f (starts_in f f on)) on in
        omega (arith, lt, least),
  )
    where
      starts_in : (e f : ℕ) → NeedsByChain makers e f → e < count
      starts_in e f (one n) = (w.known e f n).0
      starts_in e f (more {g = h} n c) = (w.known e h n).0

-- ---- the lowest-numbered edge so far

head_or_tail : (e : ℕ) (edges : List ℕ) (x : ℕ) → Contains (e ∷ edges) x → (e ≡ x) ⊎ Contains edges x
head_or_tail e edges x c = grind arith

pub least_none : (makers : ℕ → List (Option ℕ)) → IsLeastOf makers [] None
least_none makers e c = absurd (omega (arith, c.1))

-- an edge that does not lie on a cycle
pub least_past : (makers : ℕ → List (Option ℕ)) (edges : List ℕ) (e : ℕ) (least : Option ℕ)
    → ¬ IsOnCycle makers e → IsLeastOf makers edges least → IsLeastOf makers (e ∷ edges) least
least_past makers edges e least not_on h = grind arith

-- an edge that lies on a cycle
pub least_more : (makers : ℕ → List (Option ℕ)) (edges : List ℕ) (e l : ℕ) (least : Option ℕ)
    → IsOnCycle makers e → MatchOption least (l ≡ e) (λ other. l ≡ min other e) → IsLeastOf makers edges least
    → IsLeastOf makers (e ∷ edges) (Some l)
least_more makers edges e l least on is h = grind arith

-- ---- a turn of the loop, which goes down from the end of the order

pub stepped : (order : List ℕ) (index : ℕ) → 0 < index → index ≤ length order
    → drop (index - 1) order ≡ slice_index order (index - 1) ∷ drop index order
stepped order index low high = grind (arith, common_steps)
