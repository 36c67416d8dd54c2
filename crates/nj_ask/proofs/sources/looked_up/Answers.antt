use Rattle.std.proofs.Common.{ap, sym, subst, ◌∙◌}
use Rattle.nj_discovered.specs.Times.{IsTimeOf}
use Rattle.nj_discovered.specs.declared.times.TimeFound.{TimeFound}
use Rattle.nj_discovered.specs.declared.times.TimeFound.TheVariants.{Time}
use Rattle.nj_graph.specs.Edges.{maker_of}
use Rattle.nj_graph.specs.Graph.{edges_of}
use Rattle.nj_graph.specs.Handles.{edge_in, edge_of, file_of}
use Rattle.nj_ask.specs.Audits.{LooksUp, is_absent, is_unanswered}
use Rattle.nj_ask.proofs.AuditLemmas.{looks-made, looks-source, mapped-is}
use Rattle.nj_ask.proofs.sources.looked_up.Goals as goal

pub returns-then-is_some : goal.returns-then-is_some
returns-then-is_some g c =
    let file = file_of c.args.file in
    looks-made file.graph (g.T.FileTimes.times c.args.times.now) file.path
    (mapped-is edge_of (edge_in file.graph) c.maker.result (maker_of (edges_of file.graph) file.path)
    c.maker.ensures
    ∙ sym c.is_some.ensures ∙ c.if-is_some.true)

pub returns-in-Time-Some : goal.returns-in-Time-Some
returns-in-Time-Some g c =
    let file = file_of c.args.file in
    let times = g.T.FileTimes.times c.args.times.now in
    subst (λ (found : TimeFound). LooksUp file.graph times file.path (is_absent found) (is_unanswered found))
    (c.in-Time-Some.is ∙ ap Time c.in-Time-Some.field-0-is)
    (looks-source file.graph times file.path
    (mapped-is edge_of (edge_in file.graph) c.maker.result (maker_of (edges_of file.graph) file.path)
    c.maker.ensures
    ∙ sym c.is_some.ensures ∙ c.if-is_some.false)
    c.in_ok-time_of.field-0
    (subst (λ path. IsTimeOf times path c.in_ok-time_of.field-0) c.path.ensures c.in_ok-time_of.ensures))

pub returns-in-Time-None : goal.returns-in-Time-None
returns-in-Time-None g c =
    let file = file_of c.args.file in
    let times = g.T.FileTimes.times c.args.times.now in
    subst (λ (found : TimeFound). LooksUp file.graph times file.path (is_absent found) (is_unanswered found))
    (c.in-Time-None.is ∙ ap Time c.in-Time-None.field-0-is)
    (looks-source file.graph times file.path
    (mapped-is edge_of (edge_in file.graph) c.maker.result (maker_of (edges_of file.graph) file.path)
    c.maker.ensures
    ∙ sym c.is_some.ensures ∙ c.if-is_some.false)
    c.in_ok-time_of.field-0
    (subst (λ path. IsTimeOf times path c.in_ok-time_of.field-0) c.path.ensures c.in_ok-time_of.ensures))

pub returns-in-NoAnswer : goal.returns-in-NoAnswer
returns-in-NoAnswer g c =
    let file = file_of c.args.file in
    let times = g.T.FileTimes.times c.args.times.now in
    subst (λ (found : TimeFound). LooksUp file.graph times file.path (is_absent found) (is_unanswered found))
    c.in-NoAnswer.is
    (looks-source file.graph times file.path
    (mapped-is edge_of (edge_in file.graph) c.maker.result (maker_of (edges_of file.graph) file.path)
    c.maker.ensures
    ∙ sym c.is_some.ensures ∙ c.if-is_some.false)
    c.in_ok-time_of.field-0
    (subst (λ path. IsTimeOf times path c.in_ok-time_of.field-0) c.path.ensures c.in_ok-time_of.ensures))
