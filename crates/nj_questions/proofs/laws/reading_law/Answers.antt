use Rattle.nj_questions.proofs.KeysOrder.{keys-keep_order}
use Rattle.nj_questions.proofs.ReadingLaws.{files-after_dashes, folder-may_come_first, subcommand-required}
use Rattle.nj_questions.proofs.ReadingLaws.{taken-question}
use Rattle.nj_questions.proofs.laws.reading_law.Goals as goal

pub returns-clause-required : goal.returns-clause-required
returns-clause-required c = subcommand-required

pub returns-clause-taken : goal.returns-clause-taken
returns-clause-taken c = taken-question

pub returns-clause-folder : goal.returns-clause-folder
returns-clause-folder c = folder-may_come_first

pub returns-clause-ended : goal.returns-clause-ended
returns-clause-ended c = files-after_dashes

pub returns-clause-order : goal.returns-clause-order
returns-clause-order c = keys-keep_order
