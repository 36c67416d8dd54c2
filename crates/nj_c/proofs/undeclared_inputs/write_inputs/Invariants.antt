use Rattle.std.proofs.Common.{◌≡◌, map}
use Rattle.nj_c.specs.UndeclaredInputs.{numbered_input}
use Rattle.nj_c.proofs.BufferLemmas.{written_up_to}
use Rattle.nj_c.proofs.undeclared_inputs.write_inputs.Given as goal

abbrev pub invariant-inputs : goal.invariant-inputs
invariant-inputs l = l.inputs ≡ written_up_to l.at (map numbered_input l.found) l.fn.inputs
