use Rattle.nj_cli.proofs.HeadlineLaws.{writes-the_needed, pages-join, stopped-continued, one-ending}
use Rattle.nj_cli.proofs.laws.commands_law.Goals as goal

pub returns-clause-needed : goal.returns-clause-needed
returns-clause-needed c = writes-the_needed

pub returns-clause-pages : goal.returns-clause-pages
returns-clause-pages c = pages-join

pub returns-clause-continues : goal.returns-clause-continues
returns-clause-continues c = stopped-continued

pub returns-clause-ending : goal.returns-clause-ending
returns-clause-ending c = one-ending
