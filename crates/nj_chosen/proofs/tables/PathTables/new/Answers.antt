use Rattle.std.proofs.Common.{map, subst}
use Rattle.nj_tests.specs.Tests.{test_model}
use Rattle.nj_chosen.specs.Inside.Folders.{AreFoldersOf}
use Rattle.nj_chosen.specs.Reasons.{without}
use Rattle.nj_chosen.proofs.TableLemmas.{kinds-are}
use Rattle.nj_chosen.proofs.tables.PathTables.new.Goals as goal

pub returns : goal.returns
returns c =
    let folders = c.in_ok-made_folders.made_folders in
    kinds-are (record {
      paths = c.args.paths;
      made_folders = folders;
      counted_folders = c.in_ok-counted_folders.counted_folders;
    }) c.args.build.now (map test_model c.args.tests.now)
    (subst (λ none. AreFoldersOf (without none c.args.paths.made) folders) c.new-none.ensures
    c.in_ok-made_folders.ensures)
    c.in_ok-counted_folders.ensures
