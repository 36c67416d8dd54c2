use Rattle.std.proofs.Common.{ap, ◌∙◌}
use Rattle.std.specs.List.{flat_map}
use Rattle.std.proofs.lemmas.List.Folds.{flat_map-map}
use Rattle.nj_graph.specs.Handles.{GraphEdge, edge_in}
use Rattle.nj_ask.specs.Affected.{lines_of_outputs}
use Rattle.nj_ask.specs.Inside.FileLines.{output_lines}
use Rattle.nj_ask.specs.Inside.Lent.{asked_of}
use Rattle.nj_ask.specs.Inside.Reached.{edge_numbers}
use Rattle.nj_ask.proofs.report.report_of.Goals as goal

pub returns-clause-report : goal.returns-clause-report
returns-clause-report c entries graph =
    let g = c.args.known.now.graph in
    let touched = c.in_ok-touched.field-0.touched.items in
    let lines = lines_of_outputs g (asked_of c.args.listed) in
    record {
      lists = record {
        edges = edge_numbers touched;
        touched = c.in_ok-touched.ensures.reach.touched.touched;
        rises = c.in_ok-touched.ensures.reach.touched.rises;
        lines = c.in_ok-output.ensures ∙ ap (output_lines (asked_of c.args.listed)) c.edges_at.ensures
            ∙ flat_map-map (λ (edge : GraphEdge). lines_of_outputs edge.graph (asked_of c.args.listed)
            edge.number)
            (edge_in g) (edge_numbers c.deref.result.now)
            ∙ ap (λ edges. flat_map lines (edge_numbers edges)) c.deref.ensures.value;
      };
      caveats = c.in_ok-touched.ensures.caveats entries graph;
    }
