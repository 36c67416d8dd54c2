use Rattle.std.proofs.Common.{rules}
use Rattle.nj_tools.proofs.OutputLemmas.{text-stopped, text-written}
use Rattle.nj_tools.proofs.target_lists.write_targets.Goals as goal

pub returns-in_err-write_view : goal.returns-in_err-write_view
returns-in_err-write_view g c entries graph =
    text-stopped c.args.out.now _ c.from_residual.result (search rules)
    c.from_residual.ensures.1 (c.in_err-write_view.ensures.text entries graph)

pub returns : goal.returns
returns g c entries graph =
    text-written c.args.out.now _ _ c.flush.result (search rules)
    (c.in_ok-write_view.ensures.text entries graph) c.flush.ensures.writes
