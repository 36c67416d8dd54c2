use Rattle.std.proofs.Common.{◌≡◌, ◌<◌, None, drop, length, replicate}
use Rattle.std.specs.List.{AllByRecursion}
use Rattle.nj_statements.specs.Inside.JoiningSteps.{bind_all}
use Rattle.nj_statements.proofs.dyndep_entries.bound_edges.Given as goal

abbrev pub invariant-dyndeps : goal.invariant-dyndeps
invariant-dyndeps l = record {
  count : length l.bound.items ≡ l.edge_count;
  binds : bind_all (drop l.dyndep-index l.dyndeps) l.bound.items
      ≡ bind_all l.dyndeps (replicate l.edge_count None);
  known : AllByRecursion (λ d. d.edge.0 < l.edge_count) (drop l.dyndep-index l.dyndeps);
}
