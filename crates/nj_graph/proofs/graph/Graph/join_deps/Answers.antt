use Rattle.std.proofs.Common.{inl, subst, sym}
use Rattle.nj_graph.specs.Graph.{GraphModel, IsGraphOf}
use Rattle.nj_graph.specs.Inside.LogSteps.{AreNumbersLogged, numbers_if_any}
use Rattle.nj_graph.proofs.InputGraphs.{named-graph}
use Rattle.nj_graph.proofs.LogLemmas.{log-named, logged}
use Rattle.nj_graph.proofs.graph.Graph.join_deps.Goals as goal

pub returns-in-Ok-join_built-clause-joins : goal.returns-in-Ok-join_built-clause-joins
returns-in-Ok-join_built-clause-joins c = λ stated is.
    let log = c.args.log.now in
    let graph : GraphModel = record {
      declarations = c.self.inside.declared.declarations;
      built =
          c.self.inside.built;
      origins = c.self.inside.declared.origins;
    } in
    let of : IsGraphOf graph stated = subst (λ g. IsGraphOf g stated) (sym c.self.view_is) is in
    let numbers = subst (λ ns. AreNumbersLogged log stated (numbers_if_any ns)) (sym c.deref.ensures.value)
    (c.in-Ok.ensures.numbers stated is) in
    named-graph (logged log stated) graph stated of c.in-Ok-join_built.built
    (c.in-Ok-join_built.ensures.comes (logged log stated) stated of.built
    (log-named log stated (numbers_if_any c.deref.result.now) numbers))

pub returns-clause-joins : goal.returns-clause-joins
returns-clause-joins c = λ stated is.
    let log = c.args.log.now in
    let graph : GraphModel = record {
      declarations = c.self.inside.declared.declarations;
      built =
          c.self.inside.built;
      origins = c.self.inside.declared.origins;
    } in
    let of : IsGraphOf graph stated = subst (λ g. IsGraphOf g stated) (sym c.self.view_is) is in
    let numbers = subst (λ ns. AreNumbersLogged log stated (numbers_if_any ns)) (sym c.deref.ensures.value)
    (c.in-Ok.ensures.numbers stated is) in
    c.in-Err-join_built.ensures.comes (logged log stated) stated of.built
    (log-named log stated (numbers_if_any c.deref.result.now) numbers)

pub returns-in-Err-clause-joins : goal.returns-in-Err-clause-joins
returns-in-Err-clause-joins c = λ stated is. inl c.from.ensures
