use Rattle.std.proofs.Common.{refl, ap, ◌∙◌}
use Rattle.nj_statements.proofs.RecordLemmas.{in-force}
use Rattle.nj_statements.proofs.built.Built.defaults.Goals as goal

pub returns-else-is_empty-clause-files : goal.returns-else-is_empty-clause-files
returns-else-is_empty-clause-files c =
    in-force _ c.args.self.now c.as_slice-defaults.result.now c.self.inside.records.defaults c.self.view_is
    (c.as_slice-defaults.ensures.value ∙ ap (λ r. r.defaults) c.records.view_is)
    refl c.self.invariant.defaults_known c.if-is_empty.ensures
