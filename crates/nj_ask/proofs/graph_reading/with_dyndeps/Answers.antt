use Rattle.std.proofs.Common.{Ok, sym, subst, ◌∙◌, string_bytes}
use Rattle.nj_graph.specs.Loads.{Loads}
use Rattle.nj_questions.specs.Questions.{asked_graph}
use Rattle.nj_ask.specs.KnownGraphs.ReadsManifest.{plain}
use Rattle.nj_ask.proofs.GraphLemmas.{joins-all, joins-some}
use Rattle.nj_ask.proofs.graph_reading.with_dyndeps.Goals as goal

pub returns-then-asked : goal.returns-then-asked
returns-then-asked g c = λ before loads.
    let between = g.S.FileSource.state c.args.files.now in
    let main = string_bytes c.args.asked.now.file in
    joins-all (asked_graph c.args.asked.now) (g.T.FileTimes.times c.args.times.now) before between
    (g.S.FileSource.state c.join_dyndeps.new.source) c.into_inner-loaded.result c.join_dyndeps.result
    c.if-asked.true
    (subst (λ loaded. Loads main before between (Ok loaded)) (sym c.into_inner-loaded.ensures) loads)
    c.join_dyndeps.ensures.joins

pub returns-then-asks_discovered : goal.returns-then-asks_discovered
returns-then-asks_discovered g c = λ before loads.
    let between = g.S.FileSource.state c.args.files.now in
    let main = string_bytes c.args.asked.now.file in
    joins-some (asked_graph c.args.asked.now) (g.T.FileTimes.times c.args.times.now) before between
    (g.S.FileSource.state c.join_present_dyndeps.new.source) c.into_inner-loaded.result
    c.join_present_dyndeps.result
    c.if-asked.false (sym c.asks_discovered.ensures ∙ c.if-asks_discovered.true)
    (subst (λ loaded. Loads main before between (Ok loaded)) (sym c.into_inner-loaded.ensures) loads)
    c.join_present_dyndeps.ensures.joins

pub returns : goal.returns
returns g c = λ before loads.
    let between = g.S.FileSource.state c.args.files.now in
    let main = string_bytes c.args.asked.now.file in
    plain c.if-asked.false (sym c.asks_discovered.ensures ∙ c.if-asks_discovered.false)
    (subst (λ loaded. Loads main before between (Ok loaded)) (sym c.into_inner-loaded.ensures) loads)
