-- Whether the manifest is up to date with all that it is made from.
use Rattle.std.proofs.Common.{◌≡◌, ◌<◌, ◌+◌, ◌||◌, ◌++◌, ℕ, Bool, true, false, Option, Some, None, List, []}
use Rattle.std.proofs.Common.{◌∷◌}
use Rattle.std.proofs.Common.{length, sym, ◌∙◌, arith}
use Rattle.std.specs.Prelude.{◌↔◌, Contains, IfOk, Result, Ok, Err, slice_index_or}
use Rattle.std.specs.List.{filter, range_with_len}
use Rattle.std.specs.Global.{Vec}
use Rattle.std.proofs.lemmas.List.Elements.{Contains-append_left, Contains-append_right}
use Rattle.std.proofs.lemmas.List.FromFn.{length-range_with_len, get_or-range_with_len}
use Rattle.nj_discovered.specs.Times.{DeclaredTimes}
use Rattle.nj_state.specs.FileTimesFound.{HasTime, HaveTimes}
use Rattle.nj_graph.specs.ReadingList.{ReadStatement}
use Rattle.nj_graph.specs.Edges.{EdgePaths, counted_inputs_of, edge_at, outputs_of}
use Rattle.nj_graph.specs.Graph.{GraphModel, edges_of}
use Rattle.nj_ask.specs.declared.discovered.DiscoveredGraph.{DiscoveredGraph}
use Rattle.nj_ask.specs.Manifest.{makes_manifest}
use Rattle.nj_ask.specs.Settled.{AreSettled, HasCurrentOutputs, IsManifestEdge, IsSettledEdge}
use Rattle.nj_ask.specs.Settled.{hides_inputs, runs_anew}
use Rattle.nj_ask.specs.Settled.IsSettledEdge.{by_times}
use Rattle.nj_ask.specs.Settled.AreSettled.{settled, unsettled}
use Rattle.nj_ask.specs.Settled.HasCurrentOutputs.{timed, untimed}
use Rattle.nj_ask.specs.Inside.Flags.{AreFeeds}
use Rattle.nj_ask.specs.Inside.TimesAt.{AreTimesAt, are_current_if}
use Rattle.nj_ask.proofs.FlagLemmas.{passes-there, there-passes}

-- ---- times

-- the times of one more file
pub one-more-time : (declared : DeclaredTimes) (paths : List (List ℕ)) (times : List ℕ) (path : List ℕ)
    (time : ℕ)
    → HaveTimes declared paths times → HasTime declared path time
    → HaveTimes declared (paths ++ path ∷ []) (times ++ time ∷ [])
one-more-time declared [] [] path time so_far has = (has, tt)
one-more-time declared (p ∷ paths) (t ∷ times) path time so_far has =
    (so_far.0, one-more-time declared paths times path time so_far.1 has)
one-more-time declared [] (t ∷ times) path time so_far has = absurd so_far
one-more-time declared (p ∷ paths) [] path time so_far has = absurd so_far

-- outputs and inputs with the times that are known
pub current-outputs : (declared : DeclaredTimes) (e : EdgePaths) (outputs inputs : Option (Vec ℕ))
    → AreTimesAt declared (outputs_of e) outputs → AreTimesAt declared (counted_inputs_of e) inputs
    → HasCurrentOutputs declared e (are_current_if outputs inputs)
current-outputs declared e (Some outputs) (Some inputs) have given =
    timed outputs.items inputs.items have given
current-outputs declared e (Some outputs) None have lacks = untimed (record {
  path = lacks.path;
  is_one = Contains-append_right (outputs_of e) (counted_inputs_of e) lacks.path lacks.is_one;
  none = lacks.none;
})
current-outputs declared e None inputs lacks given = untimed (record {
  path = lacks.path;
  is_one = Contains-append_left (outputs_of e) (counted_inputs_of e) lacks.path lacks.is_one;
  none = lacks.none;
})

-- ---- the edges that the manifest needs

range-below : (n k : ℕ) → Contains (range_with_len 0 n) k → k < n
range-below n k has =
    let count = length-range_with_len 0 n in
    let below = has.1 in
    let short : has.0 < n = omega (arith, below, count) in
    let at = sym (get_or-range_with_len 0 n has.0 k short) ∙ has.2 in
    omega (arith, short, at)

range-has : (n k : ℕ) → k < n → Contains (range_with_len 0 n) k
range-has n k below =
    let count = length-range_with_len 0 n in
    let same : 0 + k ≡ k = omega arith in
    (k, omega (arith, below, count), get_or-range_with_len 0 n k k below ∙ same)

module _ (g : GraphModel) (opened : List ℕ) (entries : List ReadStatement) (flags : List Bool) where
  abbrev makers : List ℕ
  makers = filter (makes_manifest g opened entries) (range_with_len 0 (length (edges_of g)))

  abbrev IsFlagged : ℕ → Type 0
  IsFlagged edge = (edge < length (edges_of g)) × (slice_index_or flags edge false ≡ true)

  -- the edges with a flag are exactly those
  pub flagged-edges : AreFeeds (edges_of g) makers flags
      → (edge : ℕ) → IsFlagged edge ↔ IsManifestEdge g opened entries edge
  flagged-edges feeds edge = (ahead, back)
    where
      ahead : IsFlagged edge → IsManifestEdge g opened entries edge
      ahead is =
          let found = (feeds edge is.0).0 is.1 in
          let among = there-passes (makes_manifest g opened entries) (range_with_len 0 (length (edges_of g)))
          found.0 found.1 in
          record {
            below = is.0;
            maker = found.0;
            maker_below = range-below (length (edges_of g)) found.0 among.0;
            makes = among.1;
            needs = found.2;
          }

      back : IsManifestEdge g opened entries edge → IsFlagged edge
      back is = (
        is.below,
        (feeds edge is.below).1 (
          is.maker,
          passes-there (makes_manifest g opened entries) (range_with_len 0 (length (edges_of g))) is.maker
              (range-has (length (edges_of g)) is.maker is.maker_below) is.makes,
          is.needs,
        ),
      )

-- whether the same edges are settled
pub settled-as : (known : DiscoveredGraph) (entries : List ReadStatement) (times : DeclaredTimes)
    (commands : List ℕ)
    (Is Was : (edge : ℕ) → Type 0) → ((edge : ℕ) → Was edge ↔ Is edge) → (is : Bool)
    → AreSettled known entries times commands Was is → AreSettled known entries times commands Is is
settled-as known entries times commands Is Was same _ (settled all) =
    settled (λ edge asked. all edge ((same edge).1 asked))
settled-as known entries times commands Is Was same _ (unsettled {edge = edge} asked is) =
    unsettled {edge = edge} ((same edge).0 asked) is

-- the same for a result
pub settled-result : {E : Type 0} (known : DiscoveredGraph) (entries : List ReadStatement)
    (times : DeclaredTimes) (commands : List ℕ)
    (Is Was : (edge : ℕ) → Type 0) → ((edge : ℕ) → Was edge ↔ Is edge) → (result : Result Bool E)
    → IfOk result (AreSettled known entries times commands Was)
    → IfOk result (AreSettled known entries times commands Is)
settled-result known entries times commands Is Was same (Ok is) are =
    settled-as known entries times commands Is Was same is are
settled-result known entries times commands Is Was same (Err fault) are = are

-- ---- one edge

-- an edge whose outputs are up to date
pub by-outputs : {E : Type 0} (known : DiscoveredGraph) (entries : List ReadStatement)
    (times : DeclaredTimes) (commands : List ℕ) (edge : ℕ)
    → (edge_at (edges_of known.graph) edge).is_phony ≡ false
    → (runs_anew entries commands edge || hides_inputs known entries edge) ≡ false
    → (result : Result Bool E) → IfOk result (HasCurrentOutputs times (edge_at (edges_of known.graph) edge))
    → IfOk result (IsSettledEdge known entries times commands edge)
by-outputs known entries times commands edge command clear (Ok is) has = by_times command clear has
by-outputs known entries times commands edge command clear (Err fault) has = has
