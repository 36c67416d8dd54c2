-- The session after joining a deps log.
use Rattle.std.proofs.Common.{◌≡◌, ◌≢◌, inl, inr, ℕ, List, length, IfOk, Some, None, is_some, Result, Ok, Err}
use Rattle.std.proofs.Common.{sym, ap}
use Rattle.std.proofs.Common.{subst, ◌∙◌, true≢false, Option}
use Rattle.nj_deps.specs.Logs.{LogModel, IsLogOf}
use Rattle.nj_scope.specs.ReadingList.{ReadStatement}
use Rattle.nj_scope.specs.Readings.{IsPrefix}
use Rattle.nj_faults.specs.declared.fault.GraphFault.{GraphFault}
use Rattle.nj_graph.specs.Graph.{GraphModel, IsGraphOf, edges_of, files_of}
use Rattle.nj_graph.specs.DepsLogs.{JoinsLog}
use Rattle.nj_c.specs.declared.session_state.Kept.{Kept}
use Rattle.nj_c.specs.declared.status.Status.{Status}
use Rattle.nj_c.specs.JoinedLogs.{JoinsDeps}
use Rattle.nj_c.specs.Inside.LogsJoined.{JoinsKnown, KeepsJoined}

pub some-is-not-none : {A : Type 0} {x : Option A} {a : A} → x ≡ Some a → x ≢ None
some-is-not-none was none = true≢false (sym (ap is_some was) ∙ ap is_some none)

module _ (before after : Kept) (bytes : List ℕ) (log : LogModel) (is : IsLogOf bytes log) (g : GraphModel)
    (was : before.graph ≡ Some g) where
  keeps : (result : Result GraphModel GraphFault) (status : Status)
      → IfOk result (λ joined. length (edges_of joined) ≡ length (edges_of g))
      → IfOk result (λ joined. IsPrefix (files_of g) (files_of joined))
      → IfOk result (λ joined. joined.origins ≡ g.origins)
      → ((stated : List ReadStatement) → IsGraphOf g stated → JoinsLog log stated result)
      → KeepsJoined (record before { graph = None }) after log result status
      → JoinsDeps before after bytes status
  keeps (Ok joined) status edges files origins joins (kept, done) =
      subst (JoinsDeps before after bytes) (sym done)
      (g, was, (joined, log, is, kept, (edges, files, origins), joins))
  keeps (Err fault) status edges files origins joins (inl (failed, other, kept)) =
      subst (JoinsDeps before after bytes) (sym failed) (g, was, (fault, log, is, kept, other, joins))
  keeps (Err fault) status edges files origins joins (inr (failed, kept)) =
      subst (JoinsDeps before after bytes) (sym failed) (some-is-not-none was, kept)

-- the log in the given bytes was joined
pub joined : (before after : Kept) (bytes : List ℕ) (log : LogModel) (status : Status) → IsLogOf bytes log
    → JoinsKnown before after log status
    → JoinsDeps before after bytes status
joined before after bytes log status is (g, result, was, edges, files, origins, joins, kept) =
    keeps before after bytes log is g was result status edges files origins joins kept
