use Rattle.std.proofs.Common.{map, subst}
use Rattle.std.specs.Prelude.{IfOk}
use Rattle.nj_tests.specs.Tests.{test_model}
use Rattle.nj_chosen.specs.Inside.Folders.{AreFoldersOf}
use Rattle.nj_chosen.specs.Reasons.{programs_of}
use Rattle.nj_chosen.proofs.NameLemmas.{without-same}
use Rattle.nj_chosen.proofs.tables.counted_folders.Goals as goal

pub returns : goal.returns
returns c =
    let paths = c.args.paths.now in
    subst (λ left. IfOk c.folders_above.result (AreFoldersOf left))
    (without-same c.in_ok-programs.programs
    (programs_of c.args.build.now paths.outputs (map test_model c.args.tests.now)) paths.noticed
    c.in_ok-programs.ensures) c.folders_above.ensures
