use Rattle.std.proofs.Common.{Ok, ◌∙◌, ◌≡◌, ◌∷◌, None, unwrap_or, length, sym, ap, subst}
use Rattle.nj_scope.specs.Scopes.{first_given}
use Rattle.nj_edge_env.specs.Blocks.{bound_in}
use Rattle.nj_manifest.specs.Contents.{words_model}
use Rattle.nj_manifest.specs.Statements.{DefaultModel}
use Rattle.nj_scope.specs.ReadingList.{value_after}
use Rattle.nj_faults.specs.Faults.{IsFault}
use Rattle.nj_statements.specs.EdgeList.{Values}
use Rattle.nj_statements.specs.BuildFaults.{default_fault, target_fault}
use Rattle.nj_statements.specs.Answers.{BuildingModel, HasEdges, ReadsStatement, entry_at_place}
use Rattle.nj_statements.specs.Inside.BuildingFields.{building_of}
use Rattle.nj_statements.specs.Inside.RecordsFields.{records_of}
use Rattle.nj_statements.specs.Inside.EdgeSteps.{Sees}
use Rattle.nj_statements.proofs.Holding.{no-block, has-default}
use Rattle.nj_statements.proofs.building.Building.read_default.Goals as goal
use Rattle.nj_statements.proofs.building.Building.read_default.Goals.{in-Err, in-Ok}

pub returns-clause-reads : goal.returns-clause-reads
returns-clause-reads c = λ entries around depth by within has.
    let values : Values = value_after entries (c.args.scope.0 ∷ around) in
    let words = words_model c.args.words.now in
    let e = entry_at_place c.args.place c.args.scope.0 around depth (DefaultModel words) in
    let old : BuildingModel = record (building_of c.self.inside) { records = records_of c.records.inside } in
    let old_is = ap (λ r. record (building_of c.self.inside) { records = r }) c.records.view_is
    ∙ c.self.view_is in
    let held : HasEdges old entries = subst (λ b. HasEdges b entries) (sym old_is) has in
    let edge = length c.as_slice.result.now in
    let none = no-block old entries edge held (ap length c.as_slice.ensures.value) in
    let sees : Sees c.args.declarations.now c.args.scope.0 (bound_in old.records.blocks edge) values =
    record {
      entries = entries;
      around = around;
      declared = by;
      within = within;
      are = λ name. ap (λ o. unwrap_or o (values name)) (sym (none name));
    } in
    let expected = default_fault e entries words in
    elim c.match-add_targets.branch [
      | in-Ok w ↦
          subst (λ r. ReadsStatement (building_of c.match-add_targets.self-inside) expected e entries r)
          (sym w.result-is)
          (subst (λ b. ReadsStatement (building_of b) expected e entries (Ok tt)) (sym w.self-inside-is) (
            subst (λ es. first_given (target_fault c.args.place.file.now values es) words ≡ None)
                held.built.paths (w.in-Ok.ensures.fault values sees held.none_open),
            has-default old c.add_targets.new.targets.items e entries words held
                (w.in-Ok.ensures.added values sees),
          ))
      | in-Err w ↦
          subst (λ r. ReadsStatement (building_of c.match-add_targets.self-inside) expected e entries r)
          (sym w.result-is)
          (subst (λ es. IsFault (first_given (target_fault c.args.place.file.now values es) words)
          w.in-Err.fault) held.built.paths (w.in-Err.ensures.fault values sees held.none_open))
    ]
