use Rattle.std.proofs.Common.{◌+◌, ◌∙◌, ap, slice_range, slice_index_or}
use Rattle.nj_edges.proofs.UserLemmas.{part-inside, part-users}
use Rattle.nj_edges.proofs.users.users_at.Goals as goal

pub part-requires-clause-rises : goal.part-requires-clause-rises
part-requires-clause-rises c = rw (c.start_at.ensures, c.start_at-2.ensures)
    (c.requires.held.1 c.args.file.0 c.requires.file).rises

pub part-requires-clause-within : goal.part-requires-clause-within
part-requires-clause-within c = rw c.start_at-2.ensures
    (part-inside c.args.edges.now _ _ _ (c.requires.held.1 c.args.file.0 c.requires.file))

pub returns : goal.returns
returns c uses are =
    let start = slice_index_or c.args.starts.now c.args.file.0 0 in
    let end = slice_index_or c.args.starts.now (c.args.file.0 + 1) 0 in
    let found = c.part.ensures ∙ ap (λ s. slice_range c.args.edges.now s c.start_at-2.result)
    c.start_at.ensures ∙ ap (slice_range c.args.edges.now start) c.start_at-2.ensures in
    part-users c.args.edges.now c.part.result.now start end (uses c.args.file.0) found
    (are c.args.file.0 c.requires.file)
