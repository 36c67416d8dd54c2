use Rattle.std.proofs.Common.{sym, subst}
use Rattle.nj_ask.specs.AskedWords.{AsksWith, ended_status}
use Rattle.nj_ask.specs.Asks.{Around, around}
use Rattle.nj_one_answer.proofs.AskAnswers.{reads-alike}
use Rattle.nj_one_answer.proofs.RunAnswers.{same-start}
use Rattle.nj_one_answer.proofs.asks.ask_read_words.Goals as goal

pub returns : goal.returns
returns g c =
    let source = g.S.FileSource.state in
    let built = g.B.FileSource.state in
    let output = g.O.Sink.state in
    let error = g.E.Sink.state in
    let told = g.T.FileTimes.times c.args.times.now in
    let new : Around = around (source c.ask_read_words-2.new.files) (built c.ask_read_words-2.new.built)
    (output c.ask_read_words-2.new.out)
    (error c.ask_read_words-2.new.err) in
    reads-alike c.answer_law.ensures c.known_answer_law.ensures c.misuse_law.ensures.line
    c.misuse_law.ensures.apart told c.args.folder.now c.args.input.now
    (around (source c.args.files.now) (built c.args.built.now) (output c.args.out.now) (error c.args.err.now))
    (around (source c.ask_read_words.new.files) (built c.ask_read_words.new.built)
    (output c.ask_read_words.new.out) (error c.ask_read_words.new.err))
    new c.args.read.now (ended_status c.ask_read_words.result) (ended_status c.ask_read_words-2.result)
    c.ask_read_words.ensures
    (subst (λ (old : Around). AsksWith c.args.read.now told c.args.folder.now c.args.input.now old new
    (ended_status c.ask_read_words-2.result))
    (same-start (source c.args.other_files.now) (source c.args.files.now) (built c.args.other_built.now)
    (built c.args.built.now) (output c.args.other_out.now) (output c.args.out.now)
    (error c.args.other_err.now) (error c.args.err.now) (sym c.requires.files) (sym c.requires.built)
    (sym c.requires.out) (sym c.requires.err)) c.ask_read_words-2.ensures)
