use Rattle.std.proofs.Common.{◌<◌, length, arith}
use Rattle.nj_chosen.proofs.FolderLemmas.{folders-step}
use Rattle.nj_chosen.proofs.NameLemmas.{more-then}
use Rattle.nj_chosen.proofs.folders.add_folders.Goals as goal

pub bytes-preserved : goal.bytes-preserved
bytes-preserved c =
    let below : c.bytes.index < length c.args.path.now = omega arith in
    more-then c.args.folders.now c.bytes.folders c.add_folder.new.folders _ _ _
    (folders-step c.args.path.now c.bytes.index below) c.bytes.invariant c.in_ok-add_folder.ensures
