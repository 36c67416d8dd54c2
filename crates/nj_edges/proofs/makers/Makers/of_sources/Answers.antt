use Rattle.std.proofs.Common.{ap, ◌∙◌}
use Rattle.nj_edges.specs.Inside.MakersHeld.{makers_held}
use Rattle.nj_edges.proofs.MakerLemmas.{sources}
use Rattle.nj_edges.proofs.makers.Makers.of_sources.Goals as goal

pub returns : goal.returns
returns c = ap makers_held (c.in_ok-numbers.ensures.items_if_clones_equal (λ y is. is)) ∙ sources c.args.count
