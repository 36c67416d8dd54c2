use Rattle.std.proofs.Common.{arith}
use Rattle.nj_disk.proofs.Pieces.{Consumes-piece}
use Rattle.nj_disk.proofs.disk.read_whole.Goals as goal

pub reads-preserved : goal.reads-preserved
reads-preserved g c =
    let piece = c.in_ok-count.ensures in
    record {
      read = Consumes-piece _ _ _ _ _ c.reads.filled c.in_ok-count.count c.reads.invariant.read piece.front
          piece.piece;
      in_capacity = omega arith;
      within = omega arith;
    }
