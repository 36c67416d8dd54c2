use Rattle.std.proofs.Common.{◌≡◌, map}
use Rattle.std.specs.List.{fold}
use Rattle.nj_ask.specs.DrawnNodes.{mention, node_of}
use Rattle.nj_ask.proofs.mentions.mention_files.Given as goal

abbrev pub invariant-files : goal.invariant-files
invariant-files l =
    fold mention l.nodes (map (node_of l.folds) l.file-iterator)
    ≡ fold mention l.fn.nodes (map (node_of l.folds) l.fn.files)
