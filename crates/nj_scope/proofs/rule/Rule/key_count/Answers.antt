use Rattle.nj_scope.proofs.KeyLemmas.{keys_are_numbered, numbers_differ}
use Rattle.nj_scope.proofs.rule.Rule.key_count.Goals as goal

pub returns-clause-all : goal.returns-clause-all
returns-clause-all c = keys_are_numbered c.args.self.now.lines

pub returns-clause-apart : goal.returns-clause-apart
returns-clause-apart c = numbers_differ c.args.self.now.lines
