use Rattle.std.proofs.Common.{refl, subst, sym}
use Rattle.nj_questions.specs.Questions.{asked_graph}
use Rattle.nj_ask.specs.KnownGraphs.{KnowsGraph}
use Rattle.nj_ask.specs.KnownGraphs.{sources_of}
use Rattle.nj_ask.specs.Inside.GraphSteps.{HasStatements}
use Rattle.nj_ask.proofs.GraphLemmas.{knows-stated, lacks-manifest}
use Rattle.nj_ask.proofs.graph_reading.known_graph.Goals as goal

pub returns-in-Err-clause-lacks : goal.returns-in-Err-clause-lacks
returns-in-Err-clause-lacks g c =
    let built = g.B.FileSource.state c.args.built.now in
    lacks-manifest (asked_graph c.args.asked.now) (g.T.FileTimes.times c.args.times.now)
    (g.S.FileSource.state c.args.files.now) (g.S.FileSource.state c.read_manifest.new.files) built built
    c.in-Err.failure refl
    c.in-Err.ensures.lacks

pub returns-in_ok-new-in-Ok-known_by-clause-known :
    goal.returns-in_ok-new-in-Ok-known_by-clause-known
returns-in_ok-new-in-Ok-known_by-clause-known g c =
    let old = g.S.FileSource.state c.args.files.now in
    let new = g.S.FileSource.state c.read_manifest.new.files in
    subst (KnowsGraph (asked_graph c.args.asked.now) c.args.seeks_undeclared
    (g.T.FileTimes.times c.args.times.now)
    (sources_of old (g.B.FileSource.state c.args.built.now))
    (sources_of new (g.B.FileSource.state c.known_by.new.built)))
    (sym c.in_ok-new-in-Ok-known_by.ensures.ok)
    (c.in-Ok-known_by.ensures.known old new c.in-Ok.ensures.reads c.in-Ok.ensures.stated)

pub returns-in_ok-new-in-Ok-known_by-clause-stated :
    goal.returns-in_ok-new-in-Ok-known_by-clause-stated
returns-in_ok-new-in-Ok-known_by-clause-stated g c =
    let old = g.S.FileSource.state c.args.files.now in
    let new = g.S.FileSource.state c.read_manifest.new.files in
    subst (λ known. HasStatements known.graph) (sym c.in_ok-new-in-Ok-known_by.ensures.ok)
    (knows-stated (asked_graph c.args.asked.now) c.args.seeks_undeclared
    (g.T.FileTimes.times c.args.times.now)
    (sources_of old (g.B.FileSource.state c.args.built.now))
    (sources_of new (g.B.FileSource.state c.known_by.new.built))
    c.in-Ok-known_by.known
    (c.in-Ok-known_by.ensures.known old new c.in-Ok.ensures.reads c.in-Ok.ensures.stated))
