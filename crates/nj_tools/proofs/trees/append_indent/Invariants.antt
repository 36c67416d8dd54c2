use Rattle.std.proofs.Common.{◌≡◌, ◌++◌}
use Rattle.nj_tools.specs.Listings.{indent}
use Rattle.nj_tools.proofs.trees.append_indent.Given as goal

abbrev pub invariant-levels : goal.invariant-levels
invariant-levels l = l.text.items ≡ l.fn.text.items ++ indent l.counter
