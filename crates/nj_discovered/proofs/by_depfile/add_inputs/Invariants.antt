use Rattle.std.proofs.Common.{map, take}
use Rattle.nj_text.specs.Paths.{clean_path_of}
use Rattle.nj_discovered.specs.Inside.Numbers.{Appends}
use Rattle.nj_discovered.proofs.by_depfile.add_inputs.Given as goal

abbrev pub invariant-inputs : goal.invariant-inputs
invariant-inputs l =
    Appends (map clean_path_of (take l.number l.named.inputs)) l.fn.names l.names l.fn.numbers.items
    l.numbers.items
