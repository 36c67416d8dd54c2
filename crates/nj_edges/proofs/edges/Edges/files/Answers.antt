use Rattle.nj_edges.proofs.NamedLemmas.{table-files}
use Rattle.nj_edges.proofs.edges.Edges.files.Goals as goal

pub returns-clause-named : goal.returns-clause-named
returns-clause-named c = table-files _ _ c.self.invariant c.args.self.now c.self.view_is
