use Rattle.std.proofs.Common.{rules}
use Rattle.nj_c.specs.Pages.{IsPageAfter, PageRefused}
use Rattle.nj_c.proofs.PageLemmas.{lists}
use Rattle.nj_c.proofs.pages.nx_page.Goals as goal

pub returns-in-Some : goal.returns-in-Some
returns-in-Some c =
    let targets = c.args.targets.now in let mark = c.args.mark.now in
    lists targets (λ kept. IsPageAfter targets mark c.args.take) (λ kept. PageRefused kept.graph targets mark)
    c.page_of-found.result c.keep_page.result.1 c.get-kept.ensures c.in-Some.ensures.taken c.put.ensures
    (search rules) c.page_of-found.ensures c.keep_page.ensures
