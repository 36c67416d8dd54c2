use Rattle.std.proofs.Common.{ap, subst, sym, ◌∙◌}
use Rattle.nj_graph.specs.Handles.{file_of}
use Rattle.nj_tools.specs.Inside.Collections.{Flags, HasExactly}
use Rattle.nj_tools.proofs.CollectedLemmas.{more_flagged}
use Rattle.nj_tools.proofs.file_set.FileSet.insert.Goals as goal

pub returns-clause-more : goal.returns-clause-more
returns-clause-more c paths so_far =
    more_flagged c.self.inside.graph.now c.args.file.graph.now c.self.inside.flags.items paths
    c.number.result.0
    (file_of c.args.file).path c.self.invariant.1 c.self.invariant.0
    (c.requires ∙ sym (ap (λ (s : Flags). s.graph) c.self.view_is)) c.number.ensures.number
    (subst (λ s. HasExactly s paths) (sym c.self.view_is) so_far)
