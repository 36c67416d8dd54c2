use Rattle.nj_graph.specs.Graph.{files_of}
use Rattle.nj_graph.proofs.PickedTargets.{picks-known}
use Rattle.nj_graph.proofs.graph.Graph.pick_targets.Goals as goal

pub returns-clause-known : goal.returns-clause-known
returns-clause-known g c = picks-known (files_of c.args.self.now) _ c.pick_named.result c.pick_named.ensures
