use Rattle.std.proofs.Common.{◌≡◌, ◌<◌, Option, Some, None, false, get_or, sym, ap, subst, ◌∙◌, arith}
use Rattle.nj_statements.specs.declared.records.DyndepEdge.{DyndepEdge}
use Rattle.nj_statements.specs.JoiningHeld.{still_pending}
use Rattle.nj_statements.specs.Inside.JoiningSteps.{is_bound_to}
use Rattle.nj_statements.proofs.PendingLemmas.{still-length, still-edge, still-number, none-is, bound-same}
use Rattle.nj_statements.proofs.PendingLemmas.{bound-other, to-next, first-at, first-nowhere}
use Rattle.nj_statements.proofs.dyndep_entries.pending_edge.Goals as goal
use Rattle.nj_statements.proofs.dyndep_entries.pending_edge.Goals.{in-Some+else-dyndep-file, in_default}

pub edges-init : goal.edges-init
edges-init c = λ n below. absurd (omega (arith, below))

pub edges-preserved : goal.edges-preserved
edges-preserved c =
    let bound = c.args.bound.now in
    let was = c.args.edges.now.was_joined in
    let file = c.args.file in
    let n = c.edges.edge-index in
    let is = c.unless_joined.ensures ∙ still-edge bound was n c.requires.by_number in
    to-next (λ m. is_bound_to (get_or (still_pending bound was) m None) file ≡ false) n c.edges.invariant
    (ap (λ w. is_bound_to w file) (sym is) ∙ (elim c.match-unless_joined.branch [
      | in-Some+else-dyndep-file w ↦
          ap (λ w. is_bound_to w file) w.in-Some.is
          ∙ bound-other w.in-Some.dyndep file w.if-dyndep-file.false
      | in_default w ↦
          ap (λ w. is_bound_to w file) (none-is c.unless_joined.result w.in_default.not-Some)
    ]))

pub returns-then-dyndep-file : goal.returns-then-dyndep-file
returns-then-dyndep-file c =
    let bound = c.args.bound.now in
    let was = c.args.edges.now.was_joined in
    let n = c.edges.edge-index in
    let at = sym (c.unless_joined.ensures ∙ still-edge bound was n c.requires.by_number) ∙ c.in-Some.is in
    ap Some (still-number bound was n c.in-Some.dyndep c.requires.by_number at)
    ∙ sym (first-at (λ (w : Option DyndepEdge). is_bound_to w c.args.file) (still_pending bound was) n None
    c.edges.invariant (subst (λ m. n < m) (sym (still-length bound was)) c.edges-test.true)
    (ap (λ w. is_bound_to w c.args.file) at ∙ bound-same c.in-Some.dyndep c.args.file c.if-dyndep-file.true))

pub returns : goal.returns
returns c =
    let bound = c.args.bound.now in
    let was = c.args.edges.now.was_joined in
    let all = still-length bound was in
    let ends = c.edges-test.false in
    sym (first-nowhere (λ (w : Option DyndepEdge). is_bound_to w c.args.file) (still_pending bound was) None
    (λ m below. c.edges.invariant m (omega (arith, below, all, ends))))
