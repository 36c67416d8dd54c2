use Rattle.std.proofs.Common.{rules}
use Rattle.nj_tools.proofs.EdgeLists.{graphs-of_edges, made-all}
use Rattle.nj_tools.proofs.OutputLemmas.{each_done, each_first, each_put, each_put_stops, stops-with}
use Rattle.nj_tools.proofs.target_lists.write_all.Goals as goal

pub edges-init : goal.edges-init
edges-init g c = record {
  same = search rules;
  left = λ entries graph.
      rw (c.into_iter-edge-iterator.ensures.into_iter_gives, c.edges-edge-items.ensures)
      (each_first _ _ _ (graphs-of_edges entries c.args.graph.now _ graph)
      (made-all c.args.graph.now entries graph));
}

pub edges-preserved : goal.edges-preserved
edges-preserved g c = record {
  same = search rules;
  left = λ entries graph.
      each_put (c.edges.invariant.left entries graph) c.in-Some.ensures.steps
      (c.in_ok-write_made.ensures.text entries);
}

pub returns-in_err-write_made-clause-text : goal.returns-in_err-write_made-clause-text
returns-in_err-write_made-clause-text g c entries graph =
    stops-with c.from_residual.result c.from_residual.ensures.1
    (each_put_stops (c.edges.invariant.left entries graph) c.in-Some.ensures.steps
    (c.in_err-write_made.ensures.text entries))

pub returns-clause-text : goal.returns-clause-text
returns-clause-text g c entries graph =
    each_done (c.edges.invariant.left entries graph) c.in-None.ensures.steps.0
