use Rattle.std.proofs.Common.{length, subst}
use Rattle.std.specs.List.{AllByRecursion}
use Rattle.nj_deps.specs.Logs.{IsOfPaths}
use Rattle.nj_deps.specs.Inside.RecordsRead.{TableModel}
use Rattle.nj_deps.proofs.OutputLemmas.{paths-more}
use Rattle.nj_deps.proofs.log_table.LogTable.output.Goals as goal

pub returns-clause-known : goal.returns-clause-known
returns-clause-known c =
    let table = c.self.inside in
    subst (λ (t : TableModel). AllByRecursion (IsOfPaths (length t.paths)) t.outputs) c.self.view_is
    (paths-more table.outputs.count (length table.paths) table.outputs.outputs c.self.invariant.0
    c.output.ensures.known)
