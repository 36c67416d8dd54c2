use Rattle.std.proofs.Common.{◌<◌, ap, length, set, subst, sym, ◌∙◌}
use Rattle.nj_statements.specs.declared.edge_record.Detail.{Detail}
use Rattle.nj_statements.specs.Records.{RecordsModel}
use Rattle.nj_statements.specs.Inside.JoiningSteps.{also_restat, with_restat}
use Rattle.nj_statements.specs.Inside.RecordsFields.{records_of}
use Rattle.nj_statements.proofs.JoiningLemmas.{set-changed}
use Rattle.nj_statements.proofs.records.EdgeRecords.note_restat.Goals as goal

pub returns : goal.returns
returns c =
    let was = records_of c.self.inside in
    let also = also_restat c.args.restat in
    let below = subst (λ (r : RecordsModel). c.args.edge.0 < length r.details) (sym c.self.view_is) c.requires
    in
    ap (λ ds. record was { details = ds })
    (ap (λ (d : Detail). set was.details c.args.edge.0 (also d)) c.index_mut.ensures.value
    ∙ set-changed also c.args.edge.0 was.details c.index_mut.result.now below)
    ∙ ap (with_restat c.args.restat c.args.edge.0) c.self.view_is
