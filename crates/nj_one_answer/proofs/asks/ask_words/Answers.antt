use Rattle.std.proofs.Common.{map, sym, subst, string_bytes}
use Rattle.nj_ask.specs.AskedWords.{AsksWords}
use Rattle.nj_ask.specs.Asks.{Around, around}
use Rattle.nj_one_answer.proofs.AskAnswers.{words-alike}
use Rattle.nj_one_answer.proofs.RunAnswers.{same-start}
use Rattle.nj_one_answer.proofs.asks.ask_words.Goals as goal

pub returns : goal.returns
returns g c =
    let source = g.S.FileSource.state in
    let built = g.B.FileSource.state in
    let output = g.O.Sink.state in
    let error = g.E.Sink.state in
    let told = g.T.FileTimes.times c.args.times.now in
    let new : Around = around (source c.ask_words-2.new.files) (built c.ask_words-2.new.built)
    (output c.ask_words-2.new.out)
    (error c.ask_words-2.new.err) in
    words-alike c.answer_law.ensures c.known_answer_law.ensures c.misuse_law.ensures.line
    c.misuse_law.ensures.apart told c.args.folder.now c.args.input.now
    (around (source c.args.files.now) (built c.args.built.now) (output c.args.out.now) (error c.args.err.now))
    (around (source c.ask_words.new.files) (built c.ask_words.new.built) (output c.ask_words.new.out)
    (error c.ask_words.new.err))
    new (map string_bytes c.args.words.now) c.ask_words.result c.ask_words-2.result c.ask_words.ensures
    (subst (λ (old : Around). AsksWords (map string_bytes c.args.words.now) told c.args.folder.now
    c.args.input.now old new c.ask_words-2.result)
    (same-start (source c.args.other_files.now) (source c.args.files.now) (built c.args.other_built.now)
    (built c.args.built.now) (output c.args.other_out.now) (output c.args.out.now)
    (error c.args.other_err.now) (error c.args.err.now) (sym c.requires.files) (sym c.requires.built)
    (sym c.requires.out) (sym c.requires.err)) c.ask_words-2.ensures)
