-- A fault without a cause is lack of memory, which has no place.
use Rattle.std.proofs.Common.{arith, ◌≡◌, None}
use Rattle.nj_manifest.specs.Faults.{Fault, place_of, syntax_cause}

pub placeless : (fault : Fault) → syntax_cause fault ≡ None → place_of fault ≡ None
placeless fault e = grind arith
