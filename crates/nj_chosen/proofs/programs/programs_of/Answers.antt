use Rattle.nj_chosen.proofs.ProgramLemmas.{programs-more}
use Rattle.nj_chosen.proofs.programs.programs_of.Goals as goal

pub tests-preserved : goal.tests-preserved
tests-preserved c =
    programs-more c.args.build.now c.args.outputs.now c.args.tests.now c.tests.test-index
    c.test-item.result c.tests.programs c.add_program.new.programs c.tests-test.true c.test-item.is
    c.tests.invariant c.in_ok-add_program.ensures
