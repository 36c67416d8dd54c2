use Rattle.std.proofs.Common.{◌≡◌, ◌<◌, ◌≤◌, length, take}
use Rattle.std.specs.List.{AllByRecursion}
use Rattle.nj_graph.specs.Inside.JoiningContracts.{chosen_files}
use Rattle.nj_graph.proofs.dyndep_files.all_files.Given as goal

abbrev pub invariant-files : goal.invariant-files
invariant-files l =
    (l.index ≤ length l.joining.dyndep_files)
    × (chosen_files l.joining.dyndep_files l.indices.items ≡ take l.index l.joining.dyndep_files)
    × AllByRecursion (λ index. index < length l.joining.dyndep_files) l.indices.items
