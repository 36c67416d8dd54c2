use Rattle.std.proofs.Common.{◌≡◌, map, take, string_bytes}
use Rattle.nj_tools.proofs.chosen_rules.ChosenRules.new.Given as goal

abbrev pub invariant-rules : goal.invariant-rules
invariant-rules l = map (λ name. name.now) l.names.items ≡ map string_bytes (take l.rule-index l.rules)
