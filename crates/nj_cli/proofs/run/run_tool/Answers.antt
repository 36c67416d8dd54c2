use Rattle.nj_cli.proofs.RunLemmas.{RunsAs-kept}
use Rattle.nj_cli.proofs.run.run_tool.Goals as goal

pub returns : goal.returns
returns g c = rw c.status_of.ensures (RunsAs-kept _ _ _ _ _ c.run_tool_and_keep.ensures)
