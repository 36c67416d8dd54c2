use Rattle.std.proofs.Common.{◌∙◌, Ok, ap, refl, sym}
use Rattle.nj_edges.proofs.ChangeLemmas.{files-paths}
use Rattle.nj_graph.specs.Graph.{files_of}
use Rattle.nj_graph.proofs.graph.Graph.targets.Goals as goal

pub returns : goal.returns
returns g c =
    let (paths, is, are) = c.in_ok-numbers.ensures.picks in
    (is ∙ ap Ok (sym (files-paths (files_of c.args.self.now) c.in_ok-numbers.numbers.items paths are)), refl)
