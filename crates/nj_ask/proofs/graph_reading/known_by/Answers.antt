use Rattle.std.proofs.Common.{Err, ap, refl, sym, subst, ◌∙◌, option_copied}
use Rattle.nj_questions.specs.Questions.{asked_graph}
use Rattle.nj_ask.specs.Cited.{HasEdges}
use Rattle.nj_ask.proofs.GraphLemmas.{knows-by-log, knows-declared, lacks-by-log}
use Rattle.nj_ask.proofs.graph_reading.known_by.Goals as goal

pub returns-clause-known : goal.returns-clause-known
returns-clause-known g c = λ old new reads are.
    let built = g.B.FileSource.state c.args.built.now in
    knows-declared (asked_graph c.args.asked.now) (g.T.FileTimes.times c.args.times.now) old new built built
    c.args.seeks_undeclared c.args.read.loaded.value c.into_graph-graph.result c.undiscovered-known.result
    c.with_stated_inputs-2.result c.args.read.stated_inputs
    (c.into_graph-graph.ensures ∙ ap (λ l. l.graph) c.into_inner.ensures)
    (sym c.asks_discovered.ensures ∙ c.if-asks_discovered.false) reads are refl
    c.undiscovered-known.ensures.declared c.with_stated_inputs-2.ensures

pub returns-in-Ok-clause-known : goal.returns-in-Ok-clause-known
returns-in-Ok-clause-known g c = λ old new reads are.
    knows-by-log (asked_graph c.args.asked.now) (g.T.FileTimes.times c.args.times.now) old new
    (g.B.FileSource.state c.args.built.now) (g.B.FileSource.state c.with_log.new.built)
    c.args.read.loaded.value c.into_graph-graph.result (option_copied c.named_log-named.result)
    (c.into_graph-graph.ensures ∙ ap (λ l. l.graph) c.into_inner.ensures)
    c.named_log-named.ensures (sym c.asks_discovered.ensures ∙ c.if-asks_discovered.true) reads
    c.args.seeks_undeclared c.in-Ok.known c.with_stated_inputs.result c.args.read.stated_inputs are
    c.with_stated_inputs.ensures c.in-Ok.ensures.known

pub returns-in-Ok-clause-edges : goal.returns-in-Ok-clause-edges
returns-in-Ok-clause-edges g c = subst HasEdges (sym c.with_stated_inputs.ensures) c.in-Ok.ensures.edges

pub returns-in-Err-clause-lacks : goal.returns-in-Err-clause-lacks
returns-in-Err-clause-lacks g c = λ old new reads.
    lacks-by-log (asked_graph c.args.asked.now) (g.T.FileTimes.times c.args.times.now) old new
    (g.B.FileSource.state c.args.built.now) (g.B.FileSource.state c.with_log.new.built)
    c.args.read.loaded.value c.into_graph-graph.result (option_copied c.named_log-named.result)
    (c.into_graph-graph.ensures ∙ ap (λ l. l.graph) c.into_inner.ensures)
    c.named_log-named.ensures (sym c.asks_discovered.ensures ∙ c.if-asks_discovered.true) reads
    (Err c.in-Err.failure) c.in-Err.ensures.lacks
