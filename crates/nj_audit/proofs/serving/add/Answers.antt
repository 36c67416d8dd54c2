use Rattle.std.proofs.Common.{◌≡◌, subst}
use Rattle.nj_edges.proofs.ChangeLemmas.{finds-one}
use Rattle.nj_edges.specs.Inside.ChangesHeld.{FindsMore}
use Rattle.nj_audit.proofs.serving.add.Goals as goal

pub returns-in_ok-push-clause-more : goal.returns-in_ok-push-clause-more
returns-in_ok-push-clause-more c =
    subst (λ n. FindsMore (λ e. e ≡ n) c.args.found.now.set c.insert.new.self) c.number.ensures.number
    (rw c.in_ok-insert.ensures.added (finds-one c.args.found.now.set c.number.result.0))

pub returns-else-branch-clause-more : goal.returns-else-branch-clause-more
returns-else-branch-clause-more c =
    subst (λ n. FindsMore (λ e. e ≡ n) c.args.found.now.set c.insert.new.self) c.number.ensures.number
    (rw c.in_ok-insert.ensures.added (finds-one c.args.found.now.set c.number.result.0))
