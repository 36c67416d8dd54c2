use Rattle.std.proofs.Common.{refl}
use Rattle.nj_cli.specs.Runs.{around}
use Rattle.nj_cli.proofs.Reports.{RunsAndKeeps-misused}
use Rattle.nj_cli.proofs.RunLemmas.{RunsAndKeeps-from}
use Rattle.nj_requests.specs.Actions.{request_model}
use Rattle.nj_cli.proofs.run.run_read_words.Goals as goal

pub returns-in-Err : goal.returns-in-Err
returns-in-Err g c = λ words ok err.
    RunsAndKeeps-misused words
    (around (g.S.FileSource.state c.args.source.now) (g.O.Sink.state c.args.out.now)
    (g.E.Sink.state c.args.err.now))
    (around (g.S.FileSource.state c.args.source.now) (g.O.Sink.state c.args.out.now)
    (g.E.Sink.state c.report_misuse.new.err))
    c.in-Err.fault c.report_misuse.result (rw c.in-Err.is at err) refl refl c.report_misuse.ensures

pub returns-in-Ok : goal.returns-in-Ok
returns-in-Ok g c = λ words ok err.
    RunsAndKeeps-from words (request_model c.in-Ok.request) _ _ _ _ (rw c.in-Ok.is at ok)
    c.run_tool_and_keep.ensures
