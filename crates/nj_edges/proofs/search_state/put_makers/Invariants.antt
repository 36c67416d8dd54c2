use Rattle.std.proofs.Common.{take}
use Rattle.nj_edges.specs.Inside.NeedsSearched.{AreMakers}
use Rattle.nj_edges.proofs.search_state.put_makers.Given as goal

abbrev pub invariant-files : goal.invariant-files
invariant-files l = AreMakers l.graph (take l.file-index l.files) l.edges.items
