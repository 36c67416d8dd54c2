use Rattle.std.proofs.Common.{◌++◌, codes, ap, ◌∙◌}
use Rattle.nj_tools.proofs.TreeLemmas.{indent-next}
use Rattle.nj_tools.proofs.trees.append_indent.Goals as goal

pub levels-preserved : goal.levels-preserved
levels-preserved c =
    c.in_ok-extend_from_slice.ensures.items ∙ ap (λ t. t ++ codes "  ") c.levels.invariant
    ∙ indent-next c.args.text.now.items c.levels.counter
