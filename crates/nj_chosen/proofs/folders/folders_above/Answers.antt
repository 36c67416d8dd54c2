use Rattle.std.proofs.Common.{◌<◌, length, arith}
use Rattle.nj_chosen.proofs.FolderLemmas.{folders-next}
use Rattle.nj_chosen.proofs.folders.folders_above.Goals as goal

pub paths-preserved : goal.paths-preserved
paths-preserved c =
    let below : c.paths.number < length c.args.paths.now = omega arith in
    folders-next c.args.others.now c.args.paths.now c.paths.number c.name.result.now c.paths.folders
    c.add_unless.new.folders below c.name.ensures c.paths.invariant c.in_ok-add_unless.ensures
