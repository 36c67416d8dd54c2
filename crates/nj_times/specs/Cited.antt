-- What the contracts of this crate cite: each name comes from the module in its line.
pub use Rattle.nj_cycles.specs.Cycles.{AreAfterNeeds}
pub use Rattle.nj_times.specs.Inside.CostsHeld.{AreCosts, cost_of, costliest, first_with, greatest, IsFollowed, IsLast, is_costlier}
pub use Rattle.nj_times.specs.Inside.CostsHeld.{is_next}
pub use Rattle.nj_edges.specs.Needs.{makers_of_inputs}
pub use Rattle.nj_times.specs.Dead.{dead_outputs, is_dead}
pub use Rattle.nj_times.specs.Times.{duration_at, duration_of, durations_of, logged_duration, milliseconds, sum_of, time_at, unknown_of}
pub use Rattle.nj_edges.specs.Edges.{edge_at, first_output}
pub use Rattle.nj_times.specs.Laws.{BuildsTakeTheCriticalPath, NoneIsSlower, OneListIsSlowest, OnePathIsCritical}
pub use Rattle.nj_times.specs.Critical.{AreNeededBy, IsCriticalPath}
pub use Rattle.nj_times.specs.Reports.{AreShown, IsReport, commands_in, duration_text, duration_value, edge_line, output_of, report_text}
pub use Rattle.nj_times.specs.Reports.{seconds, summary, summary_of}
pub use Rattle.std.specs.List.Sorted.{IsStrictlyIncreasing}
pub use Rattle.serde_json.specs.Written.{compact_text}
pub use Rattle.std.specs.Fmt.{decimal}
pub use Rattle.std.specs.List.{flat_map}
pub use Rattle.nj_names.specs.Files.{path_at}
pub use Rattle.serde_json.specs.Data.{string}
pub use Rattle.std.specs.Str.Lossy.{utf8_lossy}
pub use Rattle.nj_times.specs.Rules.{IsRuleReport, rule_text, slowest_members, AreSlowestRules, rule_at, rules_of, slower}
pub use Rattle.nj_times.specs.Inside.RulesHeld.{times_line, IsSmall, all_with_edge, of_one, times_in, with_edge}
pub use Rattle.nj_times.specs.Slowest.{AreSlowest}
