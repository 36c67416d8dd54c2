use Rattle.std.proofs.Common.{◌≡◌, false}
use Rattle.std.specs.Prelude.{slice_index_or}
use Rattle.std.specs.List.{filter, range_with_len}
use Rattle.nj_ask.specs.Inside.Reached.{edge_numbers}
use Rattle.nj_ask.proofs.new_commands.flagged.Given as goal

abbrev pub invariant-numbers : goal.invariant-numbers
invariant-numbers l =
    edge_numbers l.edges.items ≡ filter (λ n. slice_index_or l.flags n false) (range_with_len 0 l.number)
