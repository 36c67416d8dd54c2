use Rattle.std.proofs.Common.{suc, ◌-◌, length}
use Rattle.nj_ask.specs.Inside.NodeLists.{SameFlags}
use Rattle.nj_ask.proofs.nodes.extend_to.Given as goal

abbrev pub invariant-missing : goal.invariant-missing
invariant-missing l = SameFlags l.fn.flags.items l.flags.items

abbrev pub decreases-missing : goal.decreases-missing
decreases-missing l = suc l.index - length l.flags.items
