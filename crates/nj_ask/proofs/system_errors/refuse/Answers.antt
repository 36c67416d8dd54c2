use Rattle.nj_ask.proofs.EndingLemmas.{reports-error}
use Rattle.nj_ask.proofs.system_errors.refuse.Goals as goal

pub returns-in-Ok-clause-line : goal.returns-in-Ok-clause-line
returns-in-Ok-clause-line g c =
    (reports-error c.args.what.now c.as_bytes.result.now c.in_words-failure.result
    (g.E.Sink.state c.args.err.now)
    (g.E.Sink.state c.conclude.new.err) c.conclude.result c.in_words-failure.ensures c.conclude.ensures).0
