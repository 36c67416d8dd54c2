use Rattle.nj_disk.proofs.Pieces.{IsFilled}
use Rattle.nj_disk.proofs.disk.read_whole.Given as goal

abbrev pub invariant-reads : goal.invariant-reads
invariant-reads g l = IsFilled (g.R.Read.remaining l.initial.reader) (g.R.Read.remaining l.reader)
    l.bytes.items l.filled
