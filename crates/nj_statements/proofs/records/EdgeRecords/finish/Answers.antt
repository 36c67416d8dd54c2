use Rattle.std.proofs.Common.{inl, inr, ℕ, List, ap, subst, sym, ◌∙◌}
use Rattle.nj_edges.specs.Graph.{FinishesAs}
use Rattle.nj_faults.specs.declared.fault.Cause.TheVariants.{Cycle}
use Rattle.nj_faults.specs.Faults.{fault_at}
use Rattle.nj_names.specs.NameTables.{name_at}
use Rattle.nj_statements.specs.Built.{IsBuiltOf}
use Rattle.nj_statements.specs.Records.{spot_of, with_graph}
use Rattle.nj_statements.specs.Inside.RecordsFields.{records_of}
use Rattle.nj_statements.proofs.Faults.{by-fault}
use Rattle.nj_statements.proofs.RecordLemmas.{cycle-of}
use Rattle.nj_statements.proofs.records.EdgeRecords.finish.Goals as goal

pub returns-in-Cycle-clause-comes : goal.returns-in-Cycle-clause-comes
returns-in-Cycle-clause-comes c = λ files edges entries done is'.
    let is = subst (λ r. IsBuiltOf (with_graph (record { files = files; edges = edges }) r) entries)
    (sym c.self.view_is) is' in
    let cycle = subst (FinishesAs files edges) c.in-Cycle.is done in
    let d = c.index-detail.result.now in
    let fault = λ (output : List ℕ). fault_at (name_at c.self.inside.names d.file) (spot_of d) (Cycle output)
    in
    by-fault (fault c.from-output.result) c.cycle_fault.result c.cycle_fault.ensures inl (λ same.
    inr (cycle-of (records_of c.self.inside) edges entries c.in-Cycle.cycle.edge.0 d
    c.in-Cycle.cycle.output.items c.cycle_fault.result is.details is.paths cycle.0 c.index-detail.ensures
    cycle.1 cycle.2 (same ∙ ap fault c.from-output.ensures)))
