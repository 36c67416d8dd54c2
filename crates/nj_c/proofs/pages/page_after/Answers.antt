use Rattle.nj_c.proofs.pages.page_after.Goals as goal

pub returns-clause-page : goal.returns-clause-page
returns-clause-page c =
    (c.in_ok-needs.ensures.0, (c.in_ok-needs.needs, c.in_ok-needs.ensures.1, c.in_ok-next_page.ensures))
