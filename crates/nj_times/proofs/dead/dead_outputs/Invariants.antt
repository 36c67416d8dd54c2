use Rattle.std.proofs.Common.{◌≡◌, ◌++◌, map}
use Rattle.std.specs.List.{filter}
use Rattle.nj_times.specs.Dead.{dead_outputs, is_dead}
use Rattle.nj_times.proofs.dead.dead_outputs.Given as goal

abbrev pub invariant-outputs : goal.invariant-outputs
invariant-outputs l =
    map (λ output. output.now) l.dead.items ++ filter (is_dead l.graph.edges) l.output-iterator
    ≡ dead_outputs l.graph.edges l.log.lines
