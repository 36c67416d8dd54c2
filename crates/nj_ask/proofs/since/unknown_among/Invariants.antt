use Rattle.std.proofs.Common.{◌≡◌, take}
use Rattle.nj_ask.specs.Since.{new_edges}
use Rattle.nj_ask.proofs.since.unknown_among.Given as goal

abbrev pub invariant-keys : goal.invariant-keys
invariant-keys l = l.edges.items ≡ new_edges l.old (take l.next-index l.keys)
