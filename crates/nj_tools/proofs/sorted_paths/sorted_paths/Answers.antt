use Rattle.std.proofs.Common.{ap, append-nil, map, sym, ◌∙◌}
use Rattle.nj_tools.specs.Listings.{sorted}
use Rattle.nj_tools.proofs.sorted_paths.sorted_paths.Goals as goal

pub returns : goal.returns
returns c =
    c.in_ok-sort_slices.ensures
    ∙ ap sorted (sym (append-nil (map (λ path. path.now) c.files.paths.items))
    ∙ (rw c.in-None.ensures.steps.0 at c.files.invariant))
