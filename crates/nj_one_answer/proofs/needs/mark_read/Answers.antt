use Rattle.nj_needs.specs.MarkTexts.{given_mark}
use Rattle.nj_agreement.proofs.NeedsAnswers.{marks-agree}
use Rattle.nj_one_answer.proofs.needs.mark_read.Goals as goal

pub returns : goal.returns
returns c = marks-agree (given_mark c.args.text.now) c.read.result c.read-2.result c.read.ensures.ok
    c.read.ensures.err c.read-2.ensures.ok c.read-2.ensures.err
