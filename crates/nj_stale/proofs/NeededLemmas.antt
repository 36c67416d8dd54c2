-- Edges that are judged by the times of their files alone.
use Rattle.std.proofs.Common.{◌≡◌, ℕ, zero, suc, ◌<◌, inl, inr, Option, Some, None, List, length, refl, arith}
use Rattle.std.specs.Prelude.{Contains}
use Rattle.nj_cycles.specs.Cycles.{IsRank}
use Rattle.nj_edges.specs.Edges.{edge_at, counted_inputs_of, maker_of}
use Rattle.nj_edges.specs.Needs.{makers_of_inputs}
use Rattle.nj_stale.specs.States.{Evidence, State, IsStateOf}
use Rattle.nj_stale.specs.Needed.{with_times, AreClosed, HasFile, OtherTimesSayNothing}
use Rattle.nj_stale.proofs.StateLemmas.{needs_maker}
use Rattle.nj_stale.proofs.TimeLemmas.{Alike, AlikeEdge, alike_source, alike_made, alike_edge}

module _ (known : Evidence) (time : List ℕ → ℕ) (needed : List ℕ) (s t : State) (rank : ℕ → ℕ)
    (is : IsRank (makers_of_inputs known.edges) (length known.edges) rank) (closed : AreClosed known needed)
    (asked : (edge : ℕ) (path : List ℕ) → Contains needed edge → HasFile known edge path
    → time path ≡ known.disk_time path)
    (of_s : IsStateOf known s) (of_t : IsStateOf (with_times known time) t) where
  alike_input : (edge : ℕ) (path : List ℕ) → Contains needed edge
      → Contains (counted_inputs_of (edge_at known.edges edge)) path
      → ((maker : ℕ) → maker_of known.edges path ≡ Some maker → AlikeEdge known s t maker)
      → Alike known time s t path
  alike_input edge path among c makers = by (maker_of known.edges path) refl
    where
      by : (m : Option ℕ) → maker_of known.edges path ≡ m → Alike known time s t path
      by None none = alike_source known time s t of_s of_t path none (asked edge path among (inr c))
      by (Some maker) made = alike_made known time s t of_s of_t path maker made (makers maker made)

  alike_below : (n edge : ℕ) → Contains needed edge → edge < length known.edges → rank edge < n
      → AlikeEdge known s t edge
  alike_below zero edge among lt below = absurd (omega arith)
  alike_below (suc n) edge among lt below =
      alike_edge known time s t of_s of_t edge lt (λ path c. asked edge path among (inl c))
      (λ path c. alike_input edge path among c (λ maker made.
      let needs = needs_maker known.edges edge path maker c made in
      alike_below n maker (closed edge maker path among c made) (is.within edge maker needs)
      (let falls = is.falls edge maker needs in omega arith)))

pub other_times : OtherTimesSayNothing
other_times known time needed s t acyclic closed asked of_s of_t edge among lt =
    (alike_below known time needed s t acyclic.0 acyclic.1 closed asked of_s of_t (suc (acyclic.0 edge)) edge
    among lt
    (omega arith)).reason
