use Rattle.std.proofs.Common.{◌≡◌, ◌∷◌, ℕ, Option, Some, option_map, not, is_some, sym, ap, subst, ◌∙◌}
use Rattle.std.specs.Bool.{then_some}
use Rattle.std.specs.Option.{option_or}
use Rattle.nj_manifest.specs.Contents.{outputs_model, used_rule, inputs_model, lines_model, build_model}
use Rattle.nj_scope.specs.ReadingList.{rule_in_force}
use Rattle.nj_faults.specs.declared.fault.Cause.TheVariants.{UnknownRule}
use Rattle.nj_faults.specs.Faults.{fault_at}
use Rattle.nj_statements.specs.declared.rule_references.UsedRule.{UsedRule}
use Rattle.nj_statements.specs.EdgeList.{line_values, edge_of_build, edges_read, paths_of_edges}
use Rattle.nj_statements.specs.BuildFaults.{paths_fault, late_fault}
use Rattle.nj_statements.specs.Answers.{ReadsStatement, entry_at_place}
use Rattle.nj_statements.proofs.building.Building.read_build.Goals as goal

pub returns-clause-reads : goal.returns-clause-reads
returns-clause-reads c = λ entries around depth by within has.
    let lines = lines_model c.args.build.now.lines.items in
    let outputs = outputs_model c.args.build.now in
    let inputs = inputs_model c.args.build.now in
    let e = entry_at_place c.args.place c.args.scope.0 around depth (build_model c.args.build.now) in
    let rule_is : rule_in_force entries (c.args.scope.0 ∷ around) c.args.build.now.rule.now
    ≡ Some c.in-Some.rule.number.0 = sym (c.rule_named.ensures.number entries around by within)
    ∙ ap (option_map (λ (r : UsedRule). r.number.0)) c.in-Some.is in
    let other = option_or (paths_fault c.args.place.file.now (line_values e entries lines)
    (paths_of_edges (edges_read entries)) outputs inputs)
    (late_fault entries (edge_of_build e entries outputs (used_rule c.args.build.now) inputs lines)) in
    subst (λ o. ReadsStatement c.read_edge.new.self (option_or o other) e entries c.read_edge.result)
    (sym (ap (λ (o : Option ℕ). then_some (not (is_some o))
    (fault_at c.args.place.file.now c.args.build.now.rule_spot (UnknownRule c.args.build.now.rule.now)))
    rule_is))
    (c.read_edge.ensures.reads entries around depth by within rule_is (c.in-Some.ensures.rule entries by) has)
