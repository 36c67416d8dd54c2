use Rattle.std.proofs.Common.{◌≡◌, false, take}
use Rattle.nj_edge_env.specs.LateStrings.{refers}
use Rattle.nj_edge_env.proofs.key_references.refers.Given as goal

abbrev pub invariant-parts : goal.invariant-parts
invariant-parts l = refers (take l.index l.value) l.name ≡ false
