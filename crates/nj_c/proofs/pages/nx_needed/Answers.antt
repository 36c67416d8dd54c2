use Rattle.std.proofs.Common.{rules}
use Rattle.nj_c.specs.Pages.{AreNeeded, AreRefused}
use Rattle.nj_c.proofs.PageLemmas.{lists}
use Rattle.nj_c.proofs.pages.nx_needed.Goals as goal

pub returns-in-Some : goal.returns-in-Some
returns-in-Some c =
    let files = c.args.files.now in
    lists files (λ kept. AreNeeded files) (λ kept. AreRefused kept.graph files)
    c.needed-found.result c.keep_page.result.1 c.get-kept.ensures c.in-Some.ensures.taken c.put.ensures
    (search rules) c.needed-found.ensures c.keep_page.ensures
