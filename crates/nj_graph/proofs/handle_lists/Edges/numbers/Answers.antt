use Rattle.std.proofs.Common.{◌∙◌}
use Rattle.nj_graph.proofs.HandleLemmas.{edges-there, numbers-there}
use Rattle.nj_graph.proofs.handle_lists.Edges.numbers.Goals as goal

pub returns-clause-numbers : goal.returns-clause-numbers
returns-clause-numbers c graph numbers is =
    numbers-there c.self.inside.graph.now graph c.self.inside.left.now numbers (c.self.view_is ∙ is)

pub returns-clause-known : goal.returns-clause-known
returns-clause-known c graph numbers is =
    edges-there c.self.inside.graph.now graph c.self.inside.left.now numbers (c.self.view_is ∙ is)
    c.self.invariant
