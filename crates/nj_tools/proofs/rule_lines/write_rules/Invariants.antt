use Rattle.std.proofs.Common.{List, drop, flat_map}
use Rattle.nj_scope.specs.ReadingList.{ReadStatement}
use Rattle.nj_graph.specs.Graph.{IsGraphOf, main_rules}
use Rattle.nj_tools.specs.Inside.Outputs.{IsSame, Leaves}
use Rattle.nj_tools.specs.RuleLists.{rule_line, rules_text}
use Rattle.nj_tools.proofs.rule_lines.write_rules.Given as goal

abbrev pub invariant-rules : goal.invariant-rules
invariant-rules g l = record {
  same : IsSame l.initial.output l.output;
  left : (entries : List ReadStatement) → IsGraphOf l.graph entries
      → Leaves g.S.Sink.state l.initial.output l.output (rules_text entries l.descriptions)
      (flat_map (rule_line l.descriptions) (drop l.index (main_rules l.graph)));
}
