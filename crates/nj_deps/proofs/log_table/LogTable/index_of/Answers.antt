use Rattle.std.proofs.Common.{◌≡◌, None, arith, subst}
use Rattle.nj_deps.specs.Logs.{output_of}
use Rattle.nj_deps.specs.Inside.RecordsRead.{TableModel}
use Rattle.nj_deps.proofs.OutputLemmas.{unknown-output}
use Rattle.nj_deps.proofs.log_table.LogTable.index_of.Goals as goal

pub returns-else-number-path_count : goal.returns-else-number-path_count
returns-else-number-path_count c =
    let outputs = c.self.inside.outputs in
    let count = c.path_count.ensures.count in
    let past = c.if-number-path_count.false in
    subst (λ (t : TableModel). output_of t.outputs c.args.number.0 ≡ None) c.self.view_is
    (unknown-output outputs.count c.args.number.0 outputs.outputs c.path_count.ensures.known (omega arith))
