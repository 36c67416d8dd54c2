use Rattle.std.proofs.Common.{◌≡◌, ◌++◌, map, take}
use Rattle.std.specs.List.{flat_map}
use Rattle.nj_times.specs.Inside.RulesHeld.{times_line}
use Rattle.nj_times.proofs.rule_reports.push_rules.Given as goal

abbrev pub invariant-rules : goal.invariant-rules
invariant-rules l = l.text.items
    ≡ l.fn.text.items ++ flat_map (times_line l.graph.edges (map (λ rule. rule.now) l.rules) l.durations
    l.is_json)
    (take l.times-index l.shown)
