use Rattle.nj_audit.specs.Kinds.{first_unknown, selection_of}
use Rattle.nj_one_answer.proofs.AuditAnswers.{kinds-agree}
use Rattle.nj_one_answer.proofs.audits.kinds_from_words.Goals as goal

pub returns : goal.returns
returns c =
    let selection = selection_of c.args.all c.args.only.now c.args.except.now in
    kinds-agree selection (first_unknown selection) c.from_words.result c.from_words-2.result
    c.from_words.ensures.asked c.from_words.ensures.known c.from_words.ensures.unknown
    c.from_words-2.ensures.asked c.from_words-2.ensures.known c.from_words-2.ensures.unknown
