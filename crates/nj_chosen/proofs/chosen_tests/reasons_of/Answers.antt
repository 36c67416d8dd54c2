use Rattle.nj_chosen.specs.Inside.Tables.{kinds_in}
use Rattle.nj_chosen.specs.Reasons.{reason_by}
use Rattle.nj_chosen.proofs.ReasonLemmas.{reasons-more}
use Rattle.nj_chosen.proofs.chosen_tests.reasons_of.Goals as goal

pub tests-preserved : goal.tests-preserved
tests-preserved c =
    reasons-more (reason_by (kinds_in c.args.tables.now) c.args.build.now c.args.skips_unnamed)
    c.args.tests.now
    c.tests.test-index c.test-item.result c.tests.reasons.items c.push.new.self.items
    c.in_ok-reason_of.field-0 c.tests-test.true c.test-item.is c.tests.invariant c.in_ok-push.ensures.items
    c.in_ok-reason_of.ensures
