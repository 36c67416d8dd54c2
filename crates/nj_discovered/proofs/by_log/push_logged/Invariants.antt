use Rattle.std.proofs.Common.{◌≡◌, ◌++◌, drop, map, slice_index}
use Rattle.nj_deps.specs.Logs.{numbers_of}
use Rattle.nj_discovered.proofs.by_log.push_logged.Given as goal

abbrev pub invariant-inputs : goal.invariant-inputs
invariant-inputs l =
    l.numbers.items ++ map (λ input. slice_index l.log_numbers input)
    (numbers_of (drop l.input-index l.inputs))
    ≡ l.fn.numbers.items ++ map (λ input. slice_index l.log_numbers input) (numbers_of l.inputs)
