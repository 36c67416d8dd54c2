use Rattle.std.proofs.Common.{map}
use Rattle.nj_tests.specs.Tests.{test_model}
use Rattle.nj_chosen.proofs.ChoiceLemmas.{chosen-in}
use Rattle.nj_chosen.proofs.chosen_tests.choose.Goals as goal

pub returns : goal.returns
returns c = chosen-in c.args.build.now c.args.paths c.args.skips_unnamed (map test_model c.args.tests.now)
    c.in_ok-tables.tables c.chosen_by.result c.in_ok-tables.ensures c.chosen_by.ensures
