use Rattle.std.proofs.Common.{◌<◌, ◌∙◌, ap, sym, subst}
use Rattle.std.specs.Prelude.{All}
use Rattle.nj_manifest.proofs.Handed.{handed}
use Rattle.nj_graph.specs.declared.EdgeNo.{EdgeNo}
use Rattle.nj_graph.proofs.Stated.{graph-edges}
use Rattle.nj_ask.specs.DiscoveredGraphs.{edge_discoveries}
use Rattle.nj_ask.specs.DiscoveredGraphs.JoinsDiscovered.{joined, refused}
use Rattle.nj_ask.proofs.discovered.with_findings.Goals as goal

pub returns-in_err-graph-clause-joins : goal.returns-in_err-graph-clause-joins
returns-in_err-graph-clause-joins c = λ before after times log stated is are.
    rw (handed c.in_err-graph.field-0.0 c.from_residual.result c.from_residual.ensures)
    (refused are (c.in_err-graph.ensures.joins stated is))

pub returns-clause-joins : goal.returns-clause-joins
returns-clause-joins c = λ before after times log stated is are. joined are
    (c.in_ok-graph.ensures.joins stated is) c.requires.unknown c.requires.faulty (c.requires.texts stated is)
    (c.requires.lines stated is)
    (c.requires.discoveries ∙ ap (λ edges. edge_discoveries edges c.args.findings.found) (graph-edges is))

pub returns-clause-edges : goal.returns-clause-edges
returns-clause-edges c = subst (λ count. All (λ (edge : EdgeNo). edge.0 < count)
    c.args.findings.doubts.edges.items) (sym c.in_ok-graph.ensures.edges) c.requires.known

pub returns-clause-follows : goal.returns-clause-follows
returns-clause-follows c = record { edges = c.in_ok-graph.ensures.edges; files = c.in_ok-graph.ensures.files }
