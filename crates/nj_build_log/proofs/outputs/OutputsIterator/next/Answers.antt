use Rattle.std.proofs.Common.{sym, ◌∙◌}
use Rattle.nj_build_log.proofs.EntryLemmas.{first-left}
use Rattle.nj_build_log.proofs.outputs.OutputsIterator.next.Goals as goal

pub returns-clause-steps : goal.returns-clause-steps
returns-clause-steps c =
    let own = c.self.inside in
    sym c.self.view_is
    ∙ first-left own.outputs.now own.next c.name-output.result.now c.name-output.ensures
