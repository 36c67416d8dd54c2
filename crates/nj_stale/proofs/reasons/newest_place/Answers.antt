use Rattle.std.proofs.Common.{Option, ℕ, ap, ◌∙◌}
use Rattle.std.specs.Prelude.{unwrap_or}
use Rattle.nj_edges.specs.Edges.{edge_at}
use Rattle.nj_stale.proofs.FoundLemmas.{newest_by_state}
use Rattle.nj_stale.proofs.reasons.newest_place.Goals as goal

pub returns : goal.returns
returns c = λ facts lines s of_s lends.
    c.first_with.ensures
    ∙ newest_by_state c.args.graph.now c.args.times.now c.file_count-file_count.ensures.each_path_once
    c.requires.times facts lines s of_s c.args.lent.now lends c.counted_inputs-files.result.now
    (edge_at c.args.graph.now.edges c.args.edge.0) c.counted_inputs-files.ensures.files
    c.unwrap_or-newest.result
    (c.unwrap_or-newest.ensures ∙ ap (λ (n : Option ℕ). unwrap_or n 0) c.newest_of.ensures)
