use Rattle.std.proofs.Common.{sym, ◌∙◌}
use Rattle.nj_audit.proofs.PlainLemmas.{all-plain, at-special, special-within}
use Rattle.nj_audit.proofs.shell_words.plain_count.Goals as goal

pub returns-in-Some-clause-count : goal.returns-in-Some-clause-count
returns-in-Some-clause-count c =
    at-special c.args.text.now c.in-Some.index (sym c.special_position.ensures.position ∙ c.in-Some.is)

pub returns-in-Some-clause-fits : goal.returns-in-Some-clause-fits
returns-in-Some-clause-fits c =
    special-within c.args.text.now c.in-Some.index (sym c.special_position.ensures.position ∙ c.in-Some.is)

pub returns-in-None-clause-count : goal.returns-in-None-clause-count
returns-in-None-clause-count c = all-plain c.args.text.now
    (sym c.special_position.ensures.position ∙ c.in-None.is)
