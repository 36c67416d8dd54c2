use Rattle.std.proofs.Common.{ap, ◌∙◌}
use Rattle.nj_edges.specs.Inside.UsersHeld.{numbers_of}
use Rattle.nj_edges.proofs.ChangeLemmas.{flag-set, flag-unset}
use Rattle.nj_edges.proofs.affected.flagged.Goals as goal
use Rattle.nj_edges.proofs.affected.flagged.Goals.{then-flag+in_ok-push, else-flag}

pub edges-preserved : goal.edges-preserved
edges-preserved c =
    elim c.if-flag.branch [
      | then-flag+in_ok-push w ↦
          ap (λ v. numbers_of v.items) w.edges-is ∙ ap numbers_of w.in_ok-push.ensures.items
          ∙ flag-set c.args.flags.now c.edges.number c.edges.edges.items c.edges-test.true c.edges.invariant
          w.if-flag.true
      | else-flag w ↦
          ap (λ v. numbers_of v.items) w.edges-is
          ∙ flag-unset c.args.flags.now c.edges.number c.edges.edges.items c.edges-test.true c.edges.invariant
          w.if-flag.false
    ]
