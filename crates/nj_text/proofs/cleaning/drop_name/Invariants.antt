use Rattle.std.specs.Vec.{vec_len}
use Rattle.nj_text.proofs.NamesDropped.{IsDropping}
use Rattle.nj_text.proofs.cleaning.drop_name.Given as goal

abbrev pub invariant-bytes : goal.invariant-bytes
invariant-bytes l = IsDropping l.floor l.fn.out.items l.out.items

abbrev pub decreases-bytes : goal.decreases-bytes
decreases-bytes l = vec_len l.out
