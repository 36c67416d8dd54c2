use Rattle.nj_keys.proofs.PageLaws.{all-pages, leaves, start}
use Rattle.nj_keys.proofs.laws.pages_law.Goals as goal

pub returns-clause-rest : goal.returns-clause-rest
returns-clause-rest c = leaves

pub returns-clause-all : goal.returns-clause-all
returns-clause-all c = all-pages

pub returns-clause-start : goal.returns-clause-start
returns-clause-start c = start
