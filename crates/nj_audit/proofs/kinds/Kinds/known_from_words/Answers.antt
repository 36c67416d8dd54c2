use Rattle.nj_audit.specs.Kinds.{selection_of}
use Rattle.nj_audit.proofs.KindLemmas.{ask-for}
use Rattle.nj_audit.proofs.kinds.Kinds.known_from_words.Goals as goal

pub returns : goal.returns
returns c =
    ask-for _ (selection_of c.args.all c.args.only.now c.args.except.now) c.is_asked_for.ensures
    c.is_asked_for-2.ensures c.is_asked_for-3.ensures
    c.is_asked_for-4.ensures
    c.is_asked_for-5.ensures c.is_asked_for-6.ensures c.is_asked_for-7.ensures c.is_asked_for-8.ensures
    c.is_asked_for-9.ensures
