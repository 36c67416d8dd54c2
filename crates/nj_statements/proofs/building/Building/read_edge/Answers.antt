use Rattle.std.proofs.Common.{◌≡◌, ◌<◌, ◌==◌, if◌then◌else◌, List, ◌∷◌, ◌++◌, [], ℕ, Option, None, unwrap_or}
use Rattle.std.proofs.Common.{Some, slice_get, length, codes, arith, refl, sym, ap, subst, ◌∙◌}
use Rattle.std.specs.Option.{option_or}
use Rattle.std.specs.Prelude.{slice_index_or}
use Rattle.std.proofs.lemmas.Bool.{ne_eqb}
use Rattle.nj_manifest.specs.LineSteps.{NameModel}
use Rattle.nj_manifest.specs.Contents.{outputs_model, used_rule, inputs_model, lines_model, build_model}
use Rattle.nj_scope.specs.Rules.{RuleModel}
use Rattle.nj_scope.specs.ReadingList.{value_after, rules_read, pools}
use Rattle.nj_edge_env.specs.Blocks.{bound_in, names_in}
use Rattle.nj_edges.specs.Edges.{inputs_of}
use Rattle.nj_faults.specs.Faults.{IsFault}
use Rattle.nj_statements.specs.declared.edge_record.Detail.{Detail}
use Rattle.nj_statements.specs.EdgeList.{Values, Block, block_of, names_bound, on_line, edges_read}
use Rattle.nj_statements.specs.EdgeList.{edge_of_build, file_given, paths_of_edges, stated_paths, edge_paths}
use Rattle.nj_statements.specs.BuildFaults.{paths_fault, late_fault}
use Rattle.nj_statements.specs.Answers.{BuildingModel, HasEdges, entry_at_place}
use Rattle.nj_statements.specs.Inside.BuildingFields.{building_of}
use Rattle.nj_statements.specs.Inside.RecordsFields.{records_of}
use Rattle.nj_statements.specs.Inside.EdgeSteps.{Sees, AddsEdge, names_read, IsFileGiven}
use Rattle.nj_statements.specs.Inside.EdgeSteps.{assigned_by, with_dyndep, names_fault}
use Rattle.nj_statements.specs.Inside.EdgeSteps.{AreNumbersOf}
use Rattle.nj_edge_env.specs.LateStrings.{asked_text}
use Rattle.nj_edge_env.specs.ReferencesHeld.{TellsCycles}
use Rattle.nj_statements.proofs.ReferenceLemmas.{same-rule}
use Rattle.nj_statements.proofs.Keeps.{keeps_none}
use Rattle.nj_statements.proofs.LateLemmas.{names-of-edge, late-fault}
use Rattle.nj_statements.proofs.Tables.{prefix-trans}
use Rattle.nj_statements.proofs.Holding.{refuses, reads-err, open-block, no-block, no-names, has-build}
use Rattle.nj_statements.proofs.Holding.{get-prefix}
use Rattle.nj_statements.proofs.building.Building.read_edge.Goals as goal

pub returns-in_err-assigned-clause-reads : goal.returns-in_err-assigned-clause-reads
returns-in_err-assigned-clause-reads c = λ entries around depth by within rule_is there has.
    let lines = lines_model c.args.build.now.lines.items in
    let outputs = outputs_model c.args.build.now in
    let inputs = inputs_model c.args.build.now in
    let rule_text : NameModel = used_rule c.args.build.now in
    let e = entry_at_place c.args.place c.args.scope.0 around depth (build_model c.args.build.now) in
    let scope_values : Values = value_after entries (c.args.scope.0 ∷ around) in
    let block : Block = block_of scope_values lines in
    let values : Values = on_line scope_values block in
    let old : BuildingModel = record (building_of c.self.inside) { records = records_of c.records.inside } in
    let old_is = ap (λ r. record (building_of c.self.inside) { records = r }) c.records.view_is
    ∙ c.self.view_is in
    let held : HasEdges old entries = subst (λ b. HasEdges b entries) (sym old_is) has in
    let edge = length c.as_slice-number.result.now in
    let count : edge ≡ length old.records.details =
    ap length c.as_slice-number.ensures.value in
    let bound = subst (λ ls. (n : ℕ) (name : List ℕ) → bound_in c.bind_block.new.blocks n name ≡ if n ==
    edge then option_or (block_of scope_values (lines_model ls) name)
    (bound_in c.records.inside.blocks n name) else bound_in c.records.inside.blocks n name)
    c.as_slice.ensures.value
    (c.in_ok-bind_block.ensures.bound entries around by within) in
    let block_is = open-block old entries block c.bind_block.new.blocks edge held count bound in
    let sees : Sees c.args.declarations.now c.args.scope.0 (bound_in c.bind_block.new.blocks edge) values =
    record {
      entries = entries;
      around = around;
      declared = by;
      within = within;
      are =
          λ name. ap (λ o. unwrap_or o (scope_values name)) (sym (block_is name));
    } in
    let late = late-fault e entries outputs rule_text inputs lines c.args.rule.number.0 c.args.rule.rule.now
    (bound_in c.bind_block.new.blocks edge) rule_is there block_is in
    let late_is = late_fault entries (edge_of_build e entries outputs rule_text inputs lines) in
    let paths = edge_paths (stated_paths values outputs inputs (c.args.rule.number.0 == 0)) in
    let meant = names_fault c.args.place.file.now c.args.place.spot (pools entries) (inputs_of paths)
    (names_read paths (bound_in c.bind_block.new.blocks edge) c.args.rule.rule.now scope_values) in
    let kept = c.in_ok-keep_references.ensures.held (rules_read entries) held.references there in
    let own = kept c.args.rule.number.0 c.rule_references-references.result.now
    (ap (λ kept. slice_index_or kept c.args.rule.number.0 None) (sym c.deref-2.ensures.value)
    ∙ c.rule_references-references.ensures) in
    let tells : TellsCycles c.args.rule.rule.now.lines c.rule_references-references.result.now =
    subst (λ (r : RuleModel). TellsCycles r.lines c.rule_references-references.result.now)
    (same-rule (rules_read entries) c.args.rule.number.0 own.0 c.args.rule.rule.now own.1 there) own.2 in
    reads-err _ (option_or (paths_fault c.args.place.file.now values (paths_of_edges (edges_read entries))
    outputs inputs) late_is) e entries c.from_residual-in_err-assigned.result c.in_err-assigned.field-0.0
    c.from_residual-in_err-assigned.ensures.1
    (subst (λ o. IsFault (option_or (paths_fault c.args.place.file.now values
    (paths_of_edges (edges_read entries)) outputs inputs) o) c.in_err-assigned.field-0.0) late
    (subst (λ es. IsFault (option_or (paths_fault c.args.place.file.now values es outputs inputs) meant)
    c.in_err-assigned.field-0.0) held.built.paths
    (c.in_err-assigned.ensures.fault values sees held.none_open tells)))

pub returns-clause-reads : goal.returns-clause-reads
returns-clause-reads c = λ entries around depth by within rule_is there has.
    let lines = lines_model c.args.build.now.lines.items in
    let outputs = outputs_model c.args.build.now in
    let inputs = inputs_model c.args.build.now in
    let rule_text : NameModel = used_rule c.args.build.now in
    let e = entry_at_place c.args.place c.args.scope.0 around depth (build_model c.args.build.now) in
    let scope_values : Values = value_after entries (c.args.scope.0 ∷ around) in
    let block : Block = block_of scope_values lines in
    let values : Values = on_line scope_values block in
    let old : BuildingModel = record (building_of c.self.inside) { records = records_of c.records.inside } in
    let old_is = ap (λ r. record (building_of c.self.inside) { records = r }) c.records.view_is
    ∙ c.self.view_is in
    let held : HasEdges old entries = subst (λ b. HasEdges b entries) (sym old_is) has in
    let edge = length c.as_slice-number.result.now in
    let count : edge ≡ length old.records.details =
    ap length c.as_slice-number.ensures.value in
    let bound = subst (λ ls. (n : ℕ) (name : List ℕ) → bound_in c.bind_block.new.blocks n name ≡ if n ==
    edge then option_or (block_of scope_values (lines_model ls) name)
    (bound_in c.records.inside.blocks n name) else bound_in c.records.inside.blocks n name)
    c.as_slice.ensures.value
    (c.in_ok-bind_block.ensures.bound entries around by within) in
    let block_is = open-block old entries block c.bind_block.new.blocks edge held count bound in
    let sees : Sees c.args.declarations.now c.args.scope.0 (bound_in c.bind_block.new.blocks edge) values =
    record {
      entries = entries;
      around = around;
      declared = by;
      within = within;
      are =
          λ name. ap (λ o. unwrap_or o (scope_values name)) (sym (block_is name));
    } in
    let late = late-fault e entries outputs rule_text inputs lines c.args.rule.number.0 c.args.rule.rule.now
    (bound_in c.bind_block.new.blocks edge) rule_is there block_is in
    let late_is = late_fault entries (edge_of_build e entries outputs rule_text inputs lines) in
    let paths = edge_paths (stated_paths values outputs inputs (c.args.rule.number.0 == 0)) in
    let meant = names_fault c.args.place.file.now c.args.place.spot (pools entries) (inputs_of paths)
    (names_read paths (bound_in c.bind_block.new.blocks edge) c.args.rule.rule.now scope_values) in
    let kept = c.in_ok-keep_references.ensures.held (rules_read entries) held.references there in
    let own = kept c.args.rule.number.0 c.rule_references-references.result.now
    (ap (λ kept. slice_index_or kept c.args.rule.number.0 None) (sym c.deref-2.ensures.value)
    ∙ c.rule_references-references.ensures) in
    let tells : TellsCycles c.args.rule.rule.now.lines c.rule_references-references.result.now =
    subst (λ (r : RuleModel). TellsCycles r.lines c.rule_references-references.result.now)
    (same-rule (rules_read entries) c.args.rule.number.0 own.0 c.args.rule.rule.now own.1 there) own.2 in
    let given = c.in_ok-assigned.assigned in
    let grows = c.in_ok-assigned.ensures.grows in
    let names_are = names-of-edge e entries outputs rule_text inputs lines c.args.rule.number.0
    c.args.rule.rule.now (bound_in c.bind_block.new.blocks edge) rule_is there block_is in
    let detail : Detail = record c.in_ok-detail.detail { pool = given.pool; dyndep = given.dyndep } in
    let kept_as = c.in_ok-detail.ensures in
    let was = old.records in
    let strings = c.add_edge.new.strings in
    let new : BuildingModel = record {
      table = c.add_edge.new.edges;
      records = record {
        blocks = c.bind_block.new.blocks;
        names = strings;
        details = c.push_reserved.new.self.items;
        defaults = was.defaults;
        dyndeps = c.push_dyndep.new.dyndeps.items;
      };
      references = c.keep_references.new.kept.items;
    } in
    let numbers = subst (λ n. AreNumbersOf strings given (assigned_by n)) (sym names_are)
    (c.in_ok-assigned.ensures.assigned values sees held.none_open) in (
      subst (λ o. option_or (paths_fault c.args.place.file.now values (paths_of_edges (edges_read entries))
          outputs inputs) o ≡ None) late
          (subst (λ es. option_or (paths_fault c.args.place.file.now values es outputs inputs) meant ≡ None)
          held.built.paths (c.in_ok-assigned.ensures.fault values sees held.none_open tells)),
      has-build old new e entries outputs rule_text inputs lines detail
          c.open_edge-edge.result c.in_ok-assigned.assigned.file held
          (subst (λ b. AddsEdge old.table new.table (edge_paths (stated_paths values outputs inputs b)))
          (ap (λ (o : Option ℕ). unwrap_or o 0 == 0) (sym rule_is))
          (c.in_ok-assigned.ensures.added values sees held.none_open))
          (λ n name. bound n name ∙ ap (λ edge. if n ==
          edge then option_or (block name) (bound_in old.records.blocks n name) else bound_in
          old.records.blocks n name)
          count)
          (λ n is. ap (names_in c.bind_block.new.blocks) (is ∙ sym count)
          ∙ subst (λ ls. names_in c.bind_block.new.blocks edge ≡ names_bound (lines_model ls))
          c.as_slice.ensures.value (c.in_ok-bind_block.ensures.names
          (no-block old entries edge held count) (no-names old entries edge held count)))
          (λ n other. c.in_ok-bind_block.ensures.other_names n (ap (λ edge. n == edge) count ∙ other))
          (prefix-trans was.names c.file_number.new.strings strings c.in_ok-file.ensures.grows grows)
          (c.push_reserved.ensures.items
          ∙ ap (λ (d : Detail). c.reserve.new.self.items ++ d ∷ []) c.with.ensures
          ∙ ap (λ (ds : List Detail). ds ++ detail ∷ []) c.in_ok-reserve.ensures.items)
          (record {
            file = get-prefix c.file_number.new.strings strings detail.file c.args.place.file.now
                grows (subst (λ n. slice_get c.file_number.new.strings n ≡ Some c.args.place.file.now)
                (sym kept_as.file_is) c.in_ok-file.ensures.number);
            spot = kept_as.spot_is;
            scope = kept_as.scope_is;
            rule = kept_as.rule_is ∙ ap (λ (o : Option ℕ). unwrap_or o 0) (sym rule_is);
            pool = numbers.pool;
            dyndep = numbers.dyndep;
            restat = kept_as.restat_is;
          })
          refl
          (c.open_edge-edge.ensures ∙ sym held.fits.as_many)
          (c.push_dyndep.ensures ∙ ap (with_dyndep c.open_edge-edge.result c.in_ok-assigned.assigned.file)
          c.in_ok-reserve-2.ensures.items)
          (subst (λ n. IsFileGiven new.table.files c.in_ok-assigned.assigned.file
          (file_given (asked_text n (codes "dyndep"))))
          (sym (names-of-edge e entries outputs rule_text inputs lines c.args.rule.number.0
          c.args.rule.rule.now (bound_in c.bind_block.new.blocks edge) rule_is there block_is))
          (c.in_ok-assigned.ensures.dyndep values sees held.none_open))
          kept,
    )

pub returns-in_err-file-clause-refused : goal.returns-in_err-file-clause-refused
returns-in_err-file-clause-refused c =
    let old : BuildingModel = record (building_of c.self.inside) { records = records_of c.records.inside } in
    let old_is = ap (λ r. record (building_of c.self.inside) { records = r }) c.records.view_is
    ∙ c.self.view_is in
    refuses c.from_residual-in_err-file.result old _ old_is old.table old.records.blocks
    c.file_number.new.strings c.reserve.new.self.items c.reserve-2.new.self.items old.references
    (keeps_none old.table) c.in_err-file.ensures.grows c.in_ok-reserve.ensures.items
    c.in_ok-reserve-2.ensures.items (λ number name below. refl) (λ number below. refl)

pub returns-in_err-detail-clause-refused : goal.returns-in_err-detail-clause-refused
returns-in_err-detail-clause-refused c =
    let old : BuildingModel = record (building_of c.self.inside) { records = records_of c.records.inside } in
    let old_is = ap (λ r. record (building_of c.self.inside) { records = r }) c.records.view_is
    ∙ c.self.view_is in
    refuses c.from_residual-in_err-detail.result old _ old_is old.table old.records.blocks
    c.file_number.new.strings c.reserve.new.self.items c.reserve-2.new.self.items old.references
    (keeps_none old.table) c.in_ok-file.ensures.grows c.in_ok-reserve.ensures.items
    c.in_ok-reserve-2.ensures.items (λ number name below. refl) (λ number below. refl)

pub returns-in_err-keep_references-clause-refused : goal.returns-in_err-keep_references-clause-refused
returns-in_err-keep_references-clause-refused c =
    let old : BuildingModel = record (building_of c.self.inside) { records = records_of c.records.inside } in
    let old_is = ap (λ r. record (building_of c.self.inside) { records = r }) c.records.view_is
    ∙ c.self.view_is in
    refuses c.from_residual-in_err-keep_references.result old _ old_is old.table old.records.blocks
    c.file_number.new.strings c.reserve.new.self.items c.reserve-2.new.self.items
    c.keep_references.new.kept.items
    (keeps_none old.table) c.in_ok-file.ensures.grows c.in_ok-reserve.ensures.items
    c.in_ok-reserve-2.ensures.items (λ number name below. refl) (λ number below. refl)

pub returns-in_err-bind_block-clause-refused : goal.returns-in_err-bind_block-clause-refused
returns-in_err-bind_block-clause-refused c =
    let old : BuildingModel = record (building_of c.self.inside) { records = records_of c.records.inside } in
    let old_is = ap (λ r. record (building_of c.self.inside) { records = r }) c.records.view_is
    ∙ c.self.view_is in
    let edge = length c.as_slice-number.result.now in
    let count : edge ≡ length old.records.details = ap length c.as_slice-number.ensures.value in
    refuses c.from_residual-in_err-bind_block.result old _ old_is old.table c.bind_block.new.blocks
    c.file_number.new.strings c.reserve.new.self.items c.reserve-2.new.self.items
    c.keep_references.new.kept.items
    (keeps_none old.table) c.in_ok-file.ensures.grows c.in_ok-reserve.ensures.items
    c.in_ok-reserve-2.ensures.items
    (λ number name below. c.in_err-bind_block.ensures.others number name
    (subst (λ n. number < n) (sym count) below))
    (λ number below. c.in_err-bind_block.ensures.other_names number
    (ne_eqb number edge (λ is. omega (arith, is, below, count))))

pub returns-in_err-assigned-clause-refused : goal.returns-in_err-assigned-clause-refused
returns-in_err-assigned-clause-refused c =
    let old : BuildingModel = record (building_of c.self.inside) { records = records_of c.records.inside } in
    let old_is = ap (λ r. record (building_of c.self.inside) { records = r }) c.records.view_is
    ∙ c.self.view_is in
    let edge = length c.as_slice-number.result.now in
    let count : edge ≡ length old.records.details = ap length c.as_slice-number.ensures.value in
    refuses c.from_residual-in_err-assigned.result old _ old_is c.add_edge.new.edges
    c.bind_block.new.blocks c.add_edge.new.strings c.reserve.new.self.items c.reserve-2.new.self.items
    c.keep_references.new.kept.items c.in_err-assigned.ensures.refused.read
    (prefix-trans old.records.names c.file_number.new.strings c.add_edge.new.strings
    c.in_ok-file.ensures.grows c.in_err-assigned.ensures.grows) c.in_ok-reserve.ensures.items
    c.in_ok-reserve-2.ensures.items
    (λ number name below. c.in_ok-bind_block.ensures.others number name
    (subst (λ n. number < n) (sym count) below))
    (λ number below. c.in_ok-bind_block.ensures.other_names number
    (ne_eqb number edge (λ is. omega (arith, is, below, count))))
