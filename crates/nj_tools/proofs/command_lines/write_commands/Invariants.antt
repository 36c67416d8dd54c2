use Rattle.std.proofs.Common.{ℕ, List, length}
use Rattle.nj_scope.specs.ReadingList.{ReadStatement}
use Rattle.nj_graph.specs.Graph.{IsGraphOf}
use Rattle.nj_needs.specs.PageWalks.{HasSoFar}
use Rattle.nj_tools.specs.Inside.Outputs.{Adds, IsSame}
use Rattle.nj_tools.specs.CommandStrings.{command_lines}
use Rattle.nj_tools.proofs.command_lines.write_commands.Given as goal

abbrev pub invariant-commands : goal.invariant-commands
invariant-commands g l = record {
  edges : List ℕ;
  page : HasSoFar l.fn.needs l.fn.take edges l.needs l.room;
  same : IsSame l.initial.output l.output;
  text : (entries : List ReadStatement) → IsGraphOf l.graph entries
      → Adds g.S.Sink.state l.initial.output l.output (command_lines entries edges);
}

abbrev pub decreases-commands : goal.decreases-commands
decreases-commands g l = length l.needs.left
