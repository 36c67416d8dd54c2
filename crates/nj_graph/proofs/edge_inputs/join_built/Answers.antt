use Rattle.std.proofs.Common.{◌∙◌, length, ap, subst, sym}
use Rattle.nj_scope.specs.Readings.{IsPrefix}
use Rattle.nj_scope.proofs.DeclarationLemmas.{if_ok}
use Rattle.nj_statements.specs.Built.{BuiltModel, IsBuiltOf}
use Rattle.nj_graph.specs.Inside.InputSteps.{edges_with}
use Rattle.nj_graph.proofs.InputGraphs.{joined-built, joined-fits}
use Rattle.nj_graph.proofs.InputLemmas.{length-with}
use Rattle.nj_graph.proofs.edge_inputs.join_built.Goals as goal

pub finish-requires : goal.finish-requires
finish-requires g c =
    let inputs = g.N.EdgeInputs.inputs c.args.named.now in
    let graph = c.into_parts-graph.result.0 in
    let as_many = c.requires ∙ ap (λ (b : BuiltModel). length b.graph.edges) c.into_parts-graph.ensures.built
    in
    let done = c.in-Ok.ensures in (
      done.files,
      edges_with inputs graph.edges,
      done.finishes,
      joined-fits inputs graph
          c.into_parts-graph.result.1 c.into_parts-graph.ensures.fits as_many done.files
          done.longer,
    )

pub returns-in-Ok-clause-comes : goal.returns-in-Ok-clause-comes
returns-in-Ok-clause-comes g c = λ named stated is are.
    let inputs = g.N.EdgeInputs.inputs c.args.named.now in
    let graph = c.into_parts-graph.result.0 in
    let as_many = c.requires ∙ ap (λ (b : BuiltModel). length b.graph.edges) c.into_parts-graph.ensures.built
    in
    let done = c.in-Ok.ensures in
    c.finish.ensures.comes done.files (edges_with inputs graph.edges) _ done.finishes
    (joined-built inputs graph c.into_parts-graph.result.1 c.into_parts-graph.ensures.fits
    as_many
    done.files done.longer named stated
    (subst (λ (b : BuiltModel). IsBuiltOf b stated) c.into_parts-graph.ensures.built is) are)

pub returns-in-Ok-clause-details : goal.returns-in-Ok-clause-details
returns-in-Ok-clause-details g c =
    let done = c.in-Ok.ensures in
    if_ok c.finish.result (c.finish.ensures.graph done.files _ done.finishes)
    (λ b is. ap (λ (b : BuiltModel). b.details) is
    ∙ sym (ap (λ (b : BuiltModel). b.details) c.into_parts-graph.ensures.built))

pub returns-in-Ok-clause-count : goal.returns-in-Ok-clause-count
returns-in-Ok-clause-count g c =
    let inputs = g.N.EdgeInputs.inputs c.args.named.now in
    let graph = c.into_parts-graph.result.0 in
    let as_many = c.requires ∙ ap (λ (b : BuiltModel). length b.graph.edges) c.into_parts-graph.ensures.built
    in
    let done = c.in-Ok.ensures in
    if_ok c.finish.result (c.finish.ensures.graph done.files _ done.finishes)
    (λ b is. ap (λ (b : BuiltModel). length b.graph.edges) is
    ∙ length-with inputs graph.edges as_many
    ∙ sym (ap (λ (b : BuiltModel). length b.graph.edges) c.into_parts-graph.ensures.built))

pub returns-in-Ok-clause-files : goal.returns-in-Ok-clause-files
returns-in-Ok-clause-files g c =
    let done = c.in-Ok.ensures in
    if_ok c.finish.result (c.finish.ensures.graph done.files _ done.finishes)
    (λ b is. subst (λ (b : BuiltModel). IsPrefix c.args.built.graph.files b.graph.files)
    (sym is) (subst (λ (b : BuiltModel). IsPrefix b.graph.files done.files)
    (sym c.into_parts-graph.ensures.built) done.longer))
