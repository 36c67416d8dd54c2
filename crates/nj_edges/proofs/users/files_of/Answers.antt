use Rattle.std.proofs.Common.{length}
use Rattle.nj_edges.specs.Inside.EdgesHeld.{IsWithin}
use Rattle.nj_edges.specs.Inside.UsersHeld.{span_of}
use Rattle.nj_edges.proofs.EdgeLemmas.{all-get}
use Rattle.nj_edges.proofs.users.files_of.Goals as goal

pub part-requires-clause-rises : goal.part-requires-clause-rises
part-requires-clause-rises c = rw c.span_of-span.ensures
    (all-get (λ row. IsWithin (span_of c.args.row_part row) (length c.args.files.now)) c.args.rows.now
    c.args.edge c.row.result c.requires.rows c.row.ensures).rises

pub part-requires-clause-within : goal.part-requires-clause-within
part-requires-clause-within c = rw c.span_of-span.ensures
    (all-get (λ row. IsWithin (span_of c.args.row_part row) (length c.args.files.now)) c.args.rows.now
    c.args.edge c.row.result c.requires.rows c.row.ensures).ends
