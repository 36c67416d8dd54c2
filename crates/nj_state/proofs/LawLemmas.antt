-- The listed edges are the stale ones among the needed commands.
use Rattle.std.proofs.Common.{◌≡◌, ℕ, zero, suc, true, Option, Some, None, List, [], ◌∷◌, length, map}
use Rattle.std.proofs.Common.{refl, sym, ap, subst, ◌∙◌, arith, true≢false}
use Rattle.std.specs.Prelude.{Contains, is_some, option_map}
use Rattle.std.specs.List.{cons_option}
use Rattle.nj_edges.specs.Edges.{EdgePaths, edge_at, maker_of}
use Rattle.nj_names.specs.Files.{path_at}
use Rattle.nj_needs.specs.Graphs.{count_of, is_phony, makers_of, row_of}
use Rattle.nj_needs.specs.Laws.{CommandsAreTheReached}
use Rattle.nj_needs.specs.Needs.{AreWithin}
use Rattle.nj_needs.specs.Walks.{commands_of}
use Rattle.nj_stale.proofs.StateLemmas.{maker_within}
use Rattle.nj_stale.specs.States.{State, is_stale, newest_place}
use Rattle.nj_stale.specs.declared.reason.Reason.{Reason}
use Rattle.nj_state.specs.declared.commands.StaleEdge.{StaleEdge}
use Rattle.nj_state.specs.Laws.{ListedEdgesAreTheStale}
use Rattle.nj_state.specs.Stale.{stale_among}

abbrev number_of : StaleEdge → ℕ
number_of item = item.edge.0

abbrev with_reason : List EdgePaths → State → (edge : ℕ) → Reason → StaleEdge
with_reason edges s edge reason = record {
  edge = record { 0 = edge };
  reason = reason;
  newest = newest_place s (edge_at edges edge);
}

-- the numbers of the stale edges, with the first edge's reason taken apart
abbrev numbers_by : List EdgePaths → State → (edge : ℕ) → Option Reason → (rest : List ℕ) → List ℕ
numbers_by edges s edge found rest =
    map number_of (cons_option (option_map (with_reason edges s edge) found) (stale_among edges s rest))

listed : (edges : List EdgePaths) (s : State) (numbers : List ℕ) (edge : ℕ)
    → Contains (map number_of (stale_among edges s numbers)) edge
    → Contains numbers edge × (is_stale s edge ≡ true)
listed edges s [] edge c = absurd (omega (arith, c.1))
listed edges s (n ∷ numbers) edge c = by (s.reason n) refl c (listed edges s numbers edge)
  where
    by : (found : Option Reason) → s.reason n ≡ found → Contains (numbers_by edges s n found numbers) edge
        → (Contains (map number_of (stale_among edges s numbers)) edge
        → Contains numbers edge × (is_stale s edge ≡ true))
        → Contains (n ∷ numbers) edge × (is_stale s edge ≡ true)
    by None is c later =
        let found = later c in ((suc found.0.0, omega (arith, found.0.1), found.0.2), found.1)
    by (Some reason) is (zero, lt, at) later =
        ((0, omega arith, at), subst (λ e. is_stale s e ≡ true) at (ap is_some is))
    by (Some reason) is (suc i, lt, at) later =
        let found = later (i, omega (arith, lt), at) in
        ((suc found.0.0, omega (arith, found.0.1), found.0.2), found.1)

stale_listed : (edges : List EdgePaths) (s : State) (numbers : List ℕ) (edge : ℕ) → Contains numbers edge
    → is_stale s edge ≡ true → Contains (map number_of (stale_among edges s numbers)) edge
stale_listed edges s [] edge c stale = absurd (omega (arith, c.1))
stale_listed edges s (n ∷ numbers) edge (zero, lt, at) stale = by (s.reason n) refl
  where
    by : (found : Option Reason) → s.reason n ≡ found → Contains (numbers_by edges s n found numbers) edge
    by None is =
        absurd (true≢false (sym stale ∙ ap (λ e. is_some (s.reason e)) (sym at) ∙ ap is_some is))
    by (Some reason) is = (0, omega arith, at)
stale_listed edges s (n ∷ numbers) edge (suc i, lt, at) stale =
    by (s.reason n) (stale_listed edges s numbers edge (i, omega (arith, lt), at) stale)
  where
    by : (found : Option Reason) → Contains (map number_of (stale_among edges s numbers)) edge
        → Contains (numbers_by edges s n found numbers) edge
    by None later = later
    by (Some reason) later = (suc later.0, omega (arith, later.1), later.2)

-- the makers of targets are edges
row_within : (edges : List EdgePaths) (paths : List (List ℕ))
    → AreWithin (map (maker_of edges) paths) (length edges)
row_within edges [] e c = absurd (omega (arith, c.1))
row_within edges (path ∷ paths) e (zero, lt, at) = maker_within edges path e at
row_within edges (path ∷ paths) e (suc i, lt, at) = row_within edges paths e (i, omega (arith, lt), at)

pub listed_edges : CommandsAreTheReached → ListedEdgesAreTheStale
listed_edges law g facts times lines targets stale s acyclic fits are edge =
    let edges = g.edges in
    let commands = commands_of g targets in
    let reached = law (makers_of g) (count_of g) (is_phony g) (row_of g targets) acyclic
    (row_within g.edges (map (path_at g.files) targets)) edge in
    let same = are s fits in (
      λ c.
          let found = listed edges s commands edge
          (subst (λ (xs : List StaleEdge). Contains (map number_of xs) edge) same c) in
          let is = reached.0 found.0 in
          record { needed = is.0; has_command = is.1; stale = found.1 },
      λ runs.
          subst (λ (xs : List StaleEdge). Contains (map number_of xs) edge) (sym same)
          (stale_listed edges s commands edge (reached.1 (runs.needed, runs.has_command)) runs.stale),
    )
