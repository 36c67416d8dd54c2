use Rattle.std.proofs.Common.{◌++◌, Some, take, sym, ap, ◌∙◌, append-nil}
use Rattle.nj_statements.specs.JoiningHeld.{still_pending}
use Rattle.nj_statements.specs.Inside.JoiningSteps.{edge_if, edges_in}
use Rattle.nj_statements.proofs.PendingLemmas.{none-is, still-edge, edges-turn, edges-all}
use Rattle.nj_statements.proofs.dyndep_entries.unjoined_edges.Goals as goal
use Rattle.nj_statements.proofs.dyndep_entries.unjoined_edges.Goals.{in-Some+in_ok-push, in_default}

pub edges-preserved : goal.edges-preserved
edges-preserved c =
    let bound = c.args.bound.now in
    let was = c.args.edges.now.was_joined in
    let n = c.edges.edge-index in
    let left = still_pending bound was in
    let is = c.unless_joined.ensures ∙ still-edge bound was n c.requires.by_number in
    let turn = edges-turn bound was n c.edges-test.true in
    elim c.match-unless_joined.branch [
      | in-Some+in_ok-push w ↦
          ap (λ v. v.items) w.unjoined-is ∙ w.in_ok-push.ensures.items
          ∙ ap (λ ds. ds ++ edge_if (Some w.in-Some.dyndep)) c.edges.invariant
          ∙ ap (λ o. edges_in (take n left) ++ edge_if o) (sym w.in-Some.is ∙ is) ∙ sym turn
      | in_default w ↦
          ap (λ v. v.items) w.unjoined-is ∙ c.edges.invariant
          ∙ sym (append-nil (edges_in (take n left)))
          ∙ ap (λ o. edges_in (take n left) ++ edge_if o)
          (sym (none-is c.unless_joined.result w.in_default.not-Some) ∙ is) ∙ sym turn
    ]

pub returns : goal.returns
returns c =
    c.edges.invariant ∙ ap edges_in
    (edges-all c.args.bound.now c.args.edges.now.was_joined c.edges.edge-index c.edges-test.false)
