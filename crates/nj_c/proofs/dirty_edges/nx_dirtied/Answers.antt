use Rattle.std.proofs.Common.{rules}
use Rattle.nj_c.specs.DirtyEdges.{AreDirty}
use Rattle.nj_c.specs.Pages.{AreRefused}
use Rattle.nj_c.proofs.PageLemmas.{lists}
use Rattle.nj_c.proofs.dirty_edges.nx_dirtied.Goals as goal

pub returns-in-Some : goal.returns-in-Some
returns-in-Some c =
    let files = c.args.files.now in
    lists files (λ kept. AreDirty kept files) (λ kept. AreRefused kept.graph files)
    c.dirtied-found.result c.keep_page.result.1 c.get-kept.ensures c.in-Some.ensures.taken c.put.ensures
    (search rules) c.dirtied-found.ensures c.keep_page.ensures
