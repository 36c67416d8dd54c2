use Rattle.std.proofs.Common.{map, drop}
use Rattle.nj_scope.specs.RulesHeld.{last_lines}
use Rattle.nj_scope.specs.Inside.KeysHeld.{line_held, AreIndexes}
use Rattle.nj_scope.proofs.rule.last_of_keys.Given as goal

abbrev pub invariant-lines : goal.invariant-lines
invariant-lines l = AreIndexes (map line_held l.lines) l.last.items
    (last_lines (drop l.index (map line_held l.lines)))
