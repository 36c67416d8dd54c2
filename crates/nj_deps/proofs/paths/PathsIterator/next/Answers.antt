use Rattle.std.proofs.Common.{sym, ◌∙◌}
use Rattle.nj_deps.proofs.NumberLemmas.{first-left}
use Rattle.nj_deps.proofs.paths.PathsIterator.next.Goals as goal

pub returns-clause-steps : goal.returns-clause-steps
returns-clause-steps c =
    let own = c.self.inside in
    sym c.self.view_is
    ∙ first-left own.paths.now own.next c.name-path.result.now c.name-path.ensures
