use Rattle.std.proofs.Common.{◌<◌, length, arith}
use Rattle.nj_c.proofs.DyndepLemmas.{copied-more}
use Rattle.nj_c.proofs.wanted_files.copied_paths.Goals as goal

pub files-preserved : goal.files-preserved
files-preserved c =
    let count = c.count-number-end.ensures.count in
    let below : c.files.number < length c.args.files.now = omega (arith, count) in
    copied-more c.args.files.now c.files.number c.files.paths.items c.push.new.self.items c.in_ok-path.path
    c.path.result.now below c.path.ensures c.in_ok-path.ensures.items
    c.files.invariant c.in_ok-push.ensures.items
