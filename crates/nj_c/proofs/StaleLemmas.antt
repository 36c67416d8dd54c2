-- Stale edges that are found, why they are not, and how they are kept.
use Rattle.std.proofs.Common.{◌≡◌, inl, inr, ℕ, List, length, Some, Result, Ok, Err, IfOk, IfErr, sym, subst}
use Rattle.std.proofs.Common.{refl}
use Rattle.std.specs.Global.{Vec}
use Rattle.std.specs.Str.{IsUtf8}
use Rattle.nj_names.specs.declared.files.FileNo.{FileNo}
use Rattle.nj_discovered.specs.Times.{IsTimeOf}
use Rattle.nj_discovered.specs.Times.IsTimeOf.{asked, not_asked}
use Rattle.nj_discovered.specs.declared.times.TimeFound.TheVariants.{NoAnswer}
use Rattle.nj_build_log.specs.Logs.{BuildLogModel, build_log_of}
use Rattle.nj_graph.specs.Graph.{GraphModel, OfStatements, files_of}
use Rattle.nj_state.specs.FileTimesFound.{FaultsAt}
use Rattle.nj_state.specs.Stale.{AreStaleEdges}
use Rattle.nj_state.specs.declared.commands.StaleEdge.{StaleEdge}
use Rattle.nj_state.specs.declared.state_fault.StateFault.TheVariants.{NoTime}
use Rattle.nj_c.specs.declared.session_state.Kept.{Kept}
use Rattle.nj_c.specs.declared.status.Status.{Status}
use Rattle.nj_c.specs.declared.status.Status.TheVariants.{Done}
use Rattle.nj_c.specs.DirtyEdges.{unknown_edges}
use Rattle.nj_c.specs.Inside.StaleHeld.{FindsStale, LogRefused, TimesRefused}
use Rattle.nj_c.specs.Pages.{numbered, AreKnown, AreRefused}
use Rattle.nj_c.specs.StaleEdges.{given_times, AreStaleOf, HasPathNotUtf8, IsNotJudged, ListsStale}
use Rattle.nj_c.specs.StaleEdges.{StaleRefused}

-- ---- why they are not found

unread-path : (g : GraphModel) (times path : List ℕ) → IsTimeOf (given_times g times) path NoAnswer
    → IsUtf8 path → ⊥
unread-path g times path (asked text is) _ = absurd cc
unread-path g times path (not_asked other is) text = other text

-- a file without a time has a path that is not UTF-8
pub no-time : (g : GraphModel) (times : List ℕ) (file : FileNo)
    → FaultsAt (given_times g times) (files_of g) (NoTime file) → HasPathNotUtf8 g
no-time g times file first = (file.0, first.within, unread-path g times _ first.none)

pub log-refused : (kept : Kept) (g : GraphModel) (bytes times numbers : List ℕ) (status : Status)
    → kept.graph ≡ Some g → AreKnown g numbers → length times ≡ length (files_of g)
    → LogRefused bytes status → StaleRefused kept.graph bytes times numbers status
log-refused kept g bytes times numbers status was known count (inl lacks) =
    inl (subst (AreRefused kept.graph numbers) (sym lacks) tt)
log-refused kept g bytes times numbers status was known count (inr (is, none)) =
    inr (g, was, known, subst (IsNotJudged g bytes times) (sym is) (count, none))

-- ---- found ones

pub found-stale : (kept : Kept) (g : GraphModel) (log : BuildLogModel) (bytes times numbers unknown : List ℕ)
    (targets : List FileNo) (result : Result (Vec StaleEdge) Status)
    → kept.graph ≡ Some g → AreKnown g numbers → length times ≡ length (files_of g)
    → build_log_of bytes ≡ Ok log → unknown ≡ unknown_edges kept g → targets ≡ numbered numbers
    → OfStatements g (λ entries. IfOk result (λ stale.
    AreStaleEdges g.built.graph entries unknown log (given_times g times) targets stale.items))
    → IfErr result (TimesRefused g) → FindsStale kept bytes times numbers result
found-stale kept g log bytes times numbers unknown targets (Ok stale) was known count is us ts found _ = (
  g,
  log,
  was,
  known,
  count,
  is,
  (λ entries of.
      subst (λ u. AreStaleEdges g.built.graph entries u log (given_times g times) (numbered numbers)
      stale.items) us
      (subst (λ t. AreStaleEdges g.built.graph entries unknown log (given_times g times) t stale.items) ts
      (found entries of))),
)
found-stale kept g log bytes times numbers unknown targets (Err status) was known count is us ts _
    (inl lacks) =
    inl (subst (AreRefused kept.graph numbers) (sym lacks) tt)
found-stale kept g log bytes times numbers unknown targets (Err status) was known count is us ts _
    (inr (text, path)) =
    inr (g, was, known, subst (IsNotJudged g bytes times) (sym text) (count, (log, is), path))

-- ---- kept ones

pub keeps-stale : (kept after : Kept) (bytes times numbers : List ℕ) (stale : Vec StaleEdge)
    → AreStaleOf kept bytes times numbers stale.items → after ≡ record kept { stale = stale }
    → ListsStale kept after bytes times numbers Done
keeps-stale kept after bytes times numbers stale are is = inl (
  refl,
  subst (λ k. AreStaleOf kept bytes times numbers k.stale.items) (sym is) are,
  subst (λ k. k ≡ record kept { stale = k.stale }) (sym is) refl,
)
