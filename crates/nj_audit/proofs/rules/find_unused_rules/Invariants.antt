use Rattle.std.proofs.Common.{◌≡◌, ◌++◌}
use Rattle.std.specs.List.{filter_map}
use Rattle.nj_audit.specs.Audit.{numbers, unused_rule}
use Rattle.nj_audit.proofs.rules.find_unused_rules.Given as goal

abbrev pub invariant-rules : goal.invariant-rules
invariant-rules l = l.found ≡ l.fn.found ++ filter_map (unused_rule l.graph) (numbers l.rule)
