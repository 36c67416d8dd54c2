use Rattle.std.proofs.Common.{subst, sym}
use Rattle.nj_manifest.proofs.Handed.{handed}
use Rattle.nj_discovered.specs.Discoveries.{discovery_at}
use Rattle.nj_graph.specs.Graph.{GraphModel, IsGraphOf}
use Rattle.nj_graph.proofs.FoundInputLemmas.{found-named}
use Rattle.nj_graph.proofs.InputGraphs.{named-graph}
use Rattle.nj_graph.proofs.graph.Graph.join_discovered.Goals as goal

pub returns-clause-joins : goal.returns-clause-joins
returns-clause-joins c = λ stated is.
    let found = c.args.found.now in
    let graph : GraphModel = record {
      declarations = c.self.inside.declared.declarations;
      built =
          c.self.inside.built;
      origins = c.self.inside.declared.origins;
    } in
    let of : IsGraphOf graph stated = subst (λ g. IsGraphOf g stated) (sym c.self.view_is) is in
    named-graph (λ edge. (discovery_at found edge).inputs) graph stated of c.in_ok-built.built
    (c.in_ok-built.ensures.comes (λ edge. (discovery_at found edge).inputs) stated of.built
    (found-named found))

pub returns-in_err-built-clause-joins : goal.returns-in_err-built-clause-joins
returns-in_err-built-clause-joins c = λ stated is.
    let found = c.args.found.now in
    let graph : GraphModel = record {
      declarations = c.self.inside.declared.declarations;
      built =
          c.self.inside.built;
      origins = c.self.inside.declared.origins;
    } in
    let of : IsGraphOf graph stated = subst (λ g. IsGraphOf g stated) (sym c.self.view_is) is in
    rw (handed c.in_err-built.field-0.0 c.from_residual.result c.from_residual.ensures)
    (c.in_err-built.ensures.comes (λ edge. (discovery_at found edge).inputs) stated of.built
    (found-named found))
