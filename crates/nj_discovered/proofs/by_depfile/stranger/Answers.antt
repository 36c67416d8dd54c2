use Rattle.std.proofs.Common.{◌∙◌, ap, sym}
use Rattle.std.specs.Prelude.{not}
use Rattle.nj_names.specs.NameTables.{is_among}
use Rattle.nj_edges.specs.Edges.{edge_at, outputs_of}
use Rattle.nj_discovered.proofs.FinderLemmas.{find-fails, find-passes}
use Rattle.nj_discovered.proofs.by_depfile.stranger.Goals as goal

pub returns-then-not-is_output : goal.returns-then-not-is_output
returns-then-not-is_output c =
    let outputs = outputs_of (edge_at c.args.graph.now.edges c.args.edge.0) in
    sym (c.targets.invariant ∙ find-passes (λ target. not (is_among outputs target)) c.args.named.now.targets
    c.targets.number c.target-target.result.now c.target-target.ensures
    (ap not (sym c.is_output.ensures ∙ c.if-not-is_output.true)))

pub targets-preserved : goal.targets-preserved
targets-preserved c =
    let outputs = outputs_of (edge_at c.args.graph.now.edges c.args.edge.0) in
    c.targets.invariant ∙ find-fails (λ target. not (is_among outputs target)) c.args.named.now.targets
    c.targets.number c.target-target.result.now c.target-target.ensures
    (ap not (sym c.is_output.ensures ∙ c.if-not-is_output.false))
