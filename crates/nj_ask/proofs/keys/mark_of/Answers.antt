use Rattle.nj_needs.specs.MarkTexts.{given_mark}
use Rattle.nj_ask.proofs.PartLemmas.{bad-mark}
use Rattle.nj_ask.proofs.keys.mark_of.Goals as goal

pub returns-in-Err-clause-refused : goal.returns-in-Err-clause-refused
returns-in-Err-clause-refused c =
    bad-mark c.args.text.now (given_mark c.args.text.now) c.in-Err.fault c.in-Err.ensures.err
    c.unread_mark.result c.unread_mark.ensures
