-- The session after joining what builds discovered.
use Rattle.std.specs.Global.{Vec}
use Rattle.std.proofs.Common.{◌≡◌, inl, inr, ℕ, Bool, Option, List, [], length, Some, None, Result, Ok, Err}
use Rattle.std.proofs.Common.{refl, sym}
use Rattle.std.proofs.Common.{subst}
use Rattle.nj_deps.specs.Logs.{LogModel, IsLogOf}
use Rattle.nj_scope.specs.ReadingList.{ReadStatement}
use Rattle.nj_discovered.specs.Discoveries.{DiscoveriesModel}
use Rattle.nj_faults.specs.declared.fault.GraphFault.{GraphFault}
use Rattle.nj_graph.specs.Graph.{GraphModel, IsGraphOf, edges_of}
use Rattle.nj_graph.specs.Discovering.{AreDiscovered}
use Rattle.nj_c.specs.declared.discovered_inputs.Joined.{Joined}
use Rattle.nj_c.specs.declared.session_state.Kept.{Kept}
use Rattle.nj_c.specs.declared.session_state.LogRead.{LogRead}
use Rattle.nj_c.specs.declared.status.Status.{Status}
use Rattle.nj_c.specs.declared.status.Status.TheVariants.{Done, Nothing, Short, Fault, Wanted, NotLoaded}
use Rattle.nj_c.specs.declared.status.Status.TheVariants.{BadNumber, BadMark, NotUtf8, NotOpen, OutOfMemory}
use Rattle.nj_c.specs.declared.status.Status.TheVariants.{BadLog}
use Rattle.nj_c.specs.DiscoveredInputs.{given_read, lacking_depfiles, log_bytes, times_of, JoinsDiscovered}
use Rattle.nj_c.specs.DiscoveredInputs.{JoinsFound, KeepsOthers}
use Rattle.nj_c.specs.SuppliedFiles.{Supplied, supplied_state, SameFiles}
use Rattle.nj_c.specs.Loading.{unread}
use Rattle.nj_c.specs.Inside.DiscoveredHeld.{FindsOr, JoinsTo, KeepsFound}
use Rattle.nj_c.proofs.LogLemmas.{some-is-not-none}

-- ---- what was discovered

pub finds-or : (g : GraphModel) (before middle after : Supplied) (log : LogModel) (times : List ℕ)
    (found : DiscoveriesModel) (result : Result Joined GraphFault)
    → middle ≡ unread before
    → ((stated : List ReadStatement) → IsGraphOf g stated
    → AreDiscovered (supplied_state middle) (supplied_state after) (times_of g times) log stated found)
    → JoinsTo g found result → FindsOr g before after log times result
finds-or g before middle after log times found (Ok joined) begun are (unknown, numbers, joins) = (
  found,
  unknown,
  numbers,
  λ stated graph. record {
    discovered = subst (λ h. AreDiscovered (supplied_state h) (supplied_state after) (times_of g times) log
        stated
        found) begun (are stated graph);
    joins = joins stated graph;
  },
)
finds-or g before middle after log times found (Err fault) begun are joins = inr (
  found,
  λ stated graph. record {
    discovered = subst (λ h. AreDiscovered (supplied_state h) (supplied_state after) (times_of g times) log
        stated
        found) begun (are stated graph);
    joins = joins stated graph;
  },
)

-- ---- after the join

module _ (g : GraphModel) (before : Kept) (files : Supplied) (wanted : Vec (Vec ℕ)) (log : LogModel)
    (read : LogRead) (times : List ℕ)
    (empty : wanted.items ≡ []) (lacking : (stated : List ReadStatement) → IsGraphOf g stated
    → lacking_depfiles before.files stated (length (edges_of g)) ≡ [])
    (same : SameFiles before.files files) where
  -- the session before the result is kept
  abbrev middle : Kept
  middle = record before { files = files; wanted = wanted }

  others : (graph : Option GraphModel) (fault : Option GraphFault) (how_far : Option LogRead)
      (unknown : Vec Bool)
      → KeepsOthers before (record middle { graph = graph; fault = fault; log = how_far; unknown = unknown })
  others graph fault how_far unknown = record {
    files = same;
    wanted = empty;
    found = refl;
    mark = refl;
    stale = refl;
    run = record { output = refl; errors = refl };
  }

  pub finds-result : (after : Kept) (joined : Result Joined GraphFault) (status : Status)
      → FindsOr g before.files files log times joined → KeepsFound middle after read joined status
      → JoinsFound g before after log read times status
  finds-result after (Ok joined) status (found, unknown, numbers, finds) (is, done) =
      subst (JoinsFound g before after log read times) (sym done)
      (subst (λ k. JoinsFound g before k log read times Done) (sym is) (
        joined.graph,
        found,
        others _ _ _ _,
        refl,
        refl,
        refl,
        unknown,
        numbers,
        (λ stated graph. (lacking stated graph, finds stated graph)),
      ))
  finds-result after (Err fault) status (inl none) (inl (failed, other, is)) = absurd (other none)
  finds-result after (Err fault) status (inr (found, finds)) (inl (failed, other, is)) =
      subst (JoinsFound g before after log read times) (sym failed)
      (subst (λ k. JoinsFound g before k log read times Fault) (sym is) (
        fault,
        found,
        others _ _ _ _,
        refl,
        refl,
        other,
        (λ stated graph. (lacking stated graph, finds stated graph)),
      ))
  finds-result after (Err fault) status finds (inr (failed, is)) =
      subst (JoinsFound g before after log read times) (sym failed)
      (subst (λ k. JoinsFound g before k log read times OutOfMemory) (sym is) (others _ _ _ _, refl, refl))

-- ---- a graph that was taken out before

abbrev taken : Kept → Kept
taken before = record before { graph = None }

same-others : (before after : Kept) → KeepsOthers (taken before) after → KeepsOthers before after
same-others before after k = record {
  files = k.files;
  wanted = k.wanted;
  found = k.found;
  mark = k.mark;
  stale = k.stale;
  run = record { output = k.run.output; errors = k.run.errors };
}

pub found-taken : (g : GraphModel) (before after : Kept) (log : LogModel) (read : LogRead) (times : List ℕ)
    (status : Status)
    → JoinsFound g (taken before) after log read times status
    → JoinsFound g before after log read times status
found-taken g before after log read times Done
    (joined, found, k, graph, fault, how_far, unknown, numbers, finds) =
    (joined, found, same-others before after k, graph, fault, how_far, unknown, numbers, finds)
found-taken g before after log read times Fault (fault, found, k, graph, is, other, finds) =
    (fault, found, same-others before after k, graph, is, other, finds)
found-taken g before after log read times Wanted wants = wants
found-taken g before after log read times OutOfMemory (k, graph, fault) =
    (same-others before after k, graph, fault)
found-taken g before after log read times Nothing none = absurd none
found-taken g before after log read times Short none = absurd none
found-taken g before after log read times NotLoaded none = absurd none
found-taken g before after log read times BadNumber none = absurd none
found-taken g before after log read times BadMark none = absurd none
found-taken g before after log read times NotUtf8 none = absurd none
found-taken g before after log read times NotOpen none = absurd none
found-taken g before after log read times BadLog none = absurd none

-- ---- by the bytes of a log

module _ (before after : Kept) (bytes times : List ℕ) (g : GraphModel) (log : LogModel)
    (was : before.graph ≡ Some g) (count : length times ≡ length (edges_of g))
    (is : IsLogOf (log_bytes bytes) log) where
  known : (status : Status) → JoinsFound g before after log (given_read bytes log) times status
      → JoinsDiscovered before after bytes times status
  known Done found = (g, log, was, count, is, found)
  known Fault found = (g, log, was, count, is, found)
  known Wanted found = (g, log, was, count, is, found)
  known OutOfMemory found = (some-is-not-none was, found)
  known Nothing none = absurd none
  known Short none = absurd none
  known NotLoaded none = absurd none
  known BadNumber none = absurd none
  known BadMark none = absurd none
  known NotUtf8 none = absurd none
  known NotOpen none = absurd none
  known BadLog none = absurd none

  pub discovered : (read : LogRead) (status : Status) → read ≡ given_read bytes log
      → JoinsFound g before after log read times status
      → JoinsDiscovered before after bytes times status
  discovered read status same found = known status
      (subst (λ r. JoinsFound g before after log r times status) same found)
