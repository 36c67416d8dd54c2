use Rattle.std.proofs.Common.{◌≡◌, ℕ, List}
use Rattle.std.specs.List.{AllByRecursion}
use Rattle.nj_scope.specs.ReadingList.{ReadStatement}
use Rattle.nj_graph.specs.Graph.{IsGraphOf}
use Rattle.nj_tools.specs.CommandStrings.{command_lines, own_commands}
use Rattle.nj_tools.specs.Inside.Outputs.{IsSame, Leaves}
use Rattle.nj_tools.specs.Inside.Seen.{AreSeen}
use Rattle.nj_tools.proofs.OwnLemmas.{own_left}
use Rattle.nj_tools.proofs.command_lines.write_single_commands.Given as goal

abbrev pub invariant-targets : goal.invariant-targets
invariant-targets g l = record {
  earlier : List ℕ;
  seen : AreSeen l.graph l.seen.items earlier;
  all : AllByRecursion (λ file. file.graph ≡ l.graph) l.target-iterator;
  same : IsSame l.initial.output l.output;
  left : (entries : List ReadStatement) → IsGraphOf l.graph entries
      → Leaves g.S.Sink.state l.initial.output l.output
      (command_lines entries (own_commands l.graph.built.graph l.targets))
      (command_lines entries (own_left earlier l.target-iterator));
}
