use Rattle.std.proofs.Common.{length}
use Rattle.nj_deps.proofs.NumberLemmas.{number-below}
use Rattle.nj_graph.proofs.deps_logs.add_inputs.Goals as goal

pub path-requires : goal.path-requires
path-requires c =
    number-below (length c.args.log.now.paths) c.args.numbers.now c.inputs.number-index _ c.requires
    c.inputs-test.true
