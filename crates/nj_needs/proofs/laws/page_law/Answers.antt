use Rattle.nj_needs.proofs.PageLaws.{mark-keeps_the_rest, pages-join, rest-is_suffix}
use Rattle.nj_needs.proofs.laws.page_law.Goals as goal

pub returns-clause-keeps : goal.returns-clause-keeps
returns-clause-keeps c = mark-keeps_the_rest

pub returns-clause-join : goal.returns-clause-join
returns-clause-join c = pages-join

pub returns-clause-suffix : goal.returns-clause-suffix
returns-clause-suffix c = rest-is_suffix
