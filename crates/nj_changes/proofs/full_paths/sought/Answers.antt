use Rattle.std.proofs.Common.{map, string_bytes, sym, ap, ◌∙◌}
use Rattle.std.proofs.lemmas.List.{take_all}
use Rattle.nj_changes.specs.FullPaths.{full_path, path_below}
use Rattle.nj_changes.proofs.FullLemmas.{sought-below}
use Rattle.nj_changes.proofs.full_paths.sought.Goals as goal

pub returns : goal.returns
returns c =
    let folder = c.args.folder.now in
    let dirs = c.args.dirs.now in
    let path = c.args.path.now in
    c.dirs.invariant
    ∙ ap (map (λ dir. full_path folder (path_below (string_bytes dir) path)))
    (take_all c.dirs.dir-index dirs c.dirs-test.false)
    ∙ sought-below folder string_bytes path dirs (sym c.is_empty.ensures ∙ c.if-is_empty.false)
