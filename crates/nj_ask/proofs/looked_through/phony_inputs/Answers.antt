use Rattle.std.proofs.Common.{◌∙◌, [], ap, cond, sym}
use Rattle.std.specs.Prelude.{None, Some, unwrap_or}
use Rattle.nj_graph.specs.Edges.{edge_at, inputs_of}
use Rattle.nj_ask.proofs.StatedLemmas.{paths-are}
use Rattle.nj_ask.proofs.looked_through.phony_inputs.Goals as goal

pub returns-then-is_phony-clause-files : goal.returns-then-is_phony-clause-files
returns-then-is_phony-clause-files c =
    let e = edge_at c.args.graph.now.edges c.args.edge.0 in
    paths-are c.args.graph.now.files c.inputs.result.now (inputs_of e) c.inputs.ensures.files
    ∙ ap (λ b. unwrap_or (cond b (Some (inputs_of e)) None) []) (sym c.if-is_phony.true ∙ c.is_phony.ensures)
