use Rattle.std.proofs.Common.{◌∙◌}
use Rattle.nj_graph.proofs.HandleLemmas.{files-there, paths-there}
use Rattle.nj_graph.proofs.handle_lists.Files.numbers.Goals as goal

pub returns-clause-paths : goal.returns-clause-paths
returns-clause-paths c graph paths is =
    paths-there c.self.inside.graph.now graph c.self.inside.left.now paths (c.self.view_is ∙ is)

pub returns-clause-known : goal.returns-clause-known
returns-clause-known c graph paths is =
    files-there c.self.inside.graph.now graph c.self.inside.left.now paths (c.self.view_is ∙ is)
    c.self.invariant
