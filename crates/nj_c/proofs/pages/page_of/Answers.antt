use Rattle.std.proofs.Common.{◌≡◌, Err, inl, sym, subst, rules}
use Rattle.nj_c.specs.Pages.{numbered, AreKnown, IsPageAfter, PageRefused}
use Rattle.nj_c.specs.Inside.PagesHeld.{FindsEdges}
use Rattle.nj_c.proofs.PageLemmas.{page-found, page-refused}
use Rattle.nj_c.proofs.pages.page_of.Goals as goal

pub returns-in_err-mark : goal.returns-in_err-mark
returns-in_err-mark c =
    let g = c.in_ok-graph.graph.now in let kept = c.args.kept.now in let targets = c.args.numbers.now in
    let text = c.args.text.now in let status = c.in_err-mark.field-0.0 in
    let is : c.from_residual-in_err-mark.result ≡ Err status = search rules in
    subst (FindsEdges kept targets (IsPageAfter targets text c.args.take)
    (PageRefused kept.graph targets text))
    (sym is)
    (page-refused kept.graph g targets text _ status (search rules) (search rules) inl
    c.in_err-mark.ensures.refused)

pub returns : goal.returns
returns c =
    let g = c.in_ok-graph.graph.now in let targets = c.args.numbers.now in
    let known : AreKnown g targets = search rules in
    let are : c.deref-2.result.now ≡ numbered targets = search rules in
    page-found c.args.kept.now g c.deref.result.now targets c.args.text.now _ c.in_ok-mark.mark
    c.args.take
    c.page_after.result (search rules) (search rules) known are c.in_ok-mark.ensures.mark
    c.page_after.ensures.page c.page_after.ensures.refused
