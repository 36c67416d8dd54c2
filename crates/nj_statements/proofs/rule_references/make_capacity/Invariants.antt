use Rattle.std.proofs.Common.{◌-◌, length}
use Rattle.nj_statements.specs.Inside.EdgeSteps.{SameReferences}
use Rattle.nj_statements.proofs.rule_references.make_capacity.Given as goal

abbrev pub invariant-capacity : goal.invariant-capacity
invariant-capacity l = SameReferences l.fn.kept.items l.kept.items

abbrev pub decreases-capacity : goal.decreases-capacity
decreases-capacity l = l.count - length l.kept.items
