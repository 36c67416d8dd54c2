use Rattle.std.proofs.Common.{◌≡◌, map}
use Rattle.nj_c.specs.Paths.{numbered_step}
use Rattle.nj_c.proofs.BufferLemmas.{written_up_to}
use Rattle.nj_c.proofs.paths.write_steps.Given as goal

abbrev pub invariant-steps : goal.invariant-steps
invariant-steps l = l.steps ≡ written_up_to l.at (map numbered_step l.found) l.fn.steps
