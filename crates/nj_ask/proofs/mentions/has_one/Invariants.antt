use Rattle.std.proofs.Common.{◌≡◌}
use Rattle.std.specs.List.{list_any}
use Rattle.nj_ask.specs.DrawnNodes.{has_node, node_of}
use Rattle.nj_ask.proofs.mentions.has_one.Given as goal

abbrev pub invariant-files : goal.invariant-files
invariant-files l =
    list_any (λ file. has_node l.nodes (node_of l.folds file)) l.file-iterator
    ≡ list_any (λ file. has_node l.nodes (node_of l.folds file)) l.fn.files
