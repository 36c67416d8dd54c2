use Rattle.std.proofs.Common.{refl, subst}
use Rattle.nj_questions.specs.Questions.{asked_graph, question_model}
use Rattle.nj_ask.specs.declared.status.Status.TheVariants.{Fault}
use Rattle.nj_ask.specs.Asks.{LacksFiles}
use Rattle.nj_ask.specs.Asks.LacksFiles.{no_graph, no_option_files}
use Rattle.nj_ask.specs.KnownGraphs.{KnowsGraph, LacksGraph, sources_of}
use Rattle.nj_ask.specs.OptionFiles.{LacksNamedFiles}
use Rattle.nj_ask.proofs.FailureLemmas.{fails-as}
use Rattle.nj_ask.proofs.asking.read_files.Goals as goal

pub returns-in-Ok-known_graph-clause-read : goal.returns-in-Ok-known_graph-clause-read
returns-in-Ok-known_graph-clause-read g c =
    let between = g.S.FileSource.state c.read_option_files.new.files in
    record {
      between = between;
      options = c.in-Ok.ensures.read;
      graph = subst (λ seeks. KnowsGraph (asked_graph c.args.question.now.graph) seeks
          (g.T.FileTimes.times c.args.times.now)
          (sources_of between (g.B.FileSource.state c.args.built.now))
          (sources_of (g.S.FileSource.state c.known_graph.new.files)
          (g.B.FileSource.state c.known_graph.new.built)) c.in-Ok-known_graph.known.value) c.requires
          c.in-Ok-known_graph.ensures.known;
    }

pub returns-in-Err-known_graph-clause-lacks : goal.returns-in-Err-known_graph-clause-lacks
returns-in-Err-known_graph-clause-lacks g c =
    let question = question_model c.args.question.now in
    let times = g.T.FileTimes.times c.args.times.now in
    let old = g.B.FileSource.state c.args.built.now in
    let between = sources_of (g.S.FileSource.state c.read_option_files.new.files) old in
    let new = sources_of (g.S.FileSource.state c.known_graph.new.files)
    (g.B.FileSource.state c.known_graph.new.built) in
    fails-as Fault (LacksGraph question.graph times between new)
    (LacksFiles question times c.args.folder.now (sources_of (g.S.FileSource.state c.args.files.now) old) new)
    c.in-Err-known_graph.failure (λ line lacks. no_graph _ c.in-Ok.ensures.read lacks)
    c.in-Err-known_graph.ensures.lacks

pub returns-in-Err-clause-lacks : goal.returns-in-Err-clause-lacks
returns-in-Err-clause-lacks g c =
    let question = question_model c.args.question.now in
    let times = g.T.FileTimes.times c.args.times.now in
    let built = g.B.FileSource.state c.args.built.now in
    let before = g.S.FileSource.state c.args.files.now in
    let after = g.S.FileSource.state c.read_option_files.new.files in
    fails-as Fault (LacksNamedFiles question.subject c.args.folder.now before after)
    (LacksFiles question times c.args.folder.now (sources_of before built) (sources_of after built))
    c.in-Err.failure (λ line lacks. no_option_files lacks refl) c.in-Err.ensures.lacks
