use Rattle.std.proofs.Common.{inl, refl, subst}
use Rattle.nj_graph.specs.Inside.GraphHeld.{HasMainRules}
use Rattle.nj_graph.proofs.MainFiles.{graph-of, graph-held, loaded-held, main-is}
use Rattle.nj_graph.proofs.reader.Reader.finish.Goals as goal

pub returns-in-Err : goal.returns-in-Err
returns-in-Err c = λ main entries has faultless. inl c.from.ensures

pub returns-in-Err-finish : goal.returns-in-Err-finish
returns-in-Err-finish c = λ main entries has faultless. c.in-Err-finish.ensures entries has.edges

pub invariant_of-graph : goal.invariant_of-graph
invariant_of-graph c =
    let read = c.requires.read in
    graph-held read.0 c.args.self read.1 read.2 read.3 c.in-Ok-finish.built
    (c.in-Ok-finish.ensures read.1 read.2.edges)
    c.in-Ok.main_rules.items c.requires.outermost
    (subst (λ rules. HasMainRules rules c.in-Ok.main_rules.items) c.rules.ensures
    c.in-Ok.ensures)

pub invariant_of-result : goal.invariant_of-result
invariant_of-result c =
    let read = c.requires.read in
    loaded-held read.0 c.args.self read.1 read.2 read.3 c.in-Ok-finish.built
    (c.in-Ok-finish.ensures read.1 read.2.edges)

pub returns-in-Ok-finish : goal.returns-in-Ok-finish
returns-in-Ok-finish c = λ main entries has faultless.
    let comes = c.in-Ok-finish.ensures entries has.edges in (
      refl,
      graph-of main c.args.self entries has faultless c.in-Ok-finish.built comes,
      main-is main c.args.self entries has faultless c.in-Ok-finish.built comes,
    )
