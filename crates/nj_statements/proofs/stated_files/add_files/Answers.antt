use Rattle.std.proofs.Common.{◌++◌, [], length, ap, sym, subst, ◌∙◌}
use Rattle.std.proofs.lemmas.List.{length-map}
use Rattle.nj_manifest.specs.Contents.{words_model, outputs_model, inputs_model}
use Rattle.nj_text.specs.Words.{word_model}
use Rattle.nj_faults.specs.Faults.{IsFault}
use Rattle.nj_statements.specs.EdgeList.{path_given}
use Rattle.nj_statements.specs.BuildFaults.{outputs_fault, inputs_fault, paths_fault}
use Rattle.nj_statements.proofs.Faults.{fault-first, err-checks}
use Rattle.nj_statements.proofs.Adding.{edge-named}
use Rattle.nj_statements.proofs.stated_files.add_files.Goals as goal

pub returns-in_err-add_all_outputs-clause-fault : goal.returns-in_err-add_all_outputs-clause-fault
returns-in_err-add_all_outputs-clause-fault c = λ values sees none.
    let file = c.args.context.place.file.now in
    let outputs = outputs_model c.args.build.now in
    let inputs = inputs_model c.args.build.now in
    let edges = c.args.edges.now.edges in
    let f = c.in_err-add_all_outputs.field-0.0 in
    err-checks c.from_residual.result f (paths_fault file values edges outputs inputs)
    c.from_residual.ensures.1
    (fault-first (outputs_fault file values edges [] (outputs.explicit ++ outputs.implicit))
    (inputs_fault file values inputs) f
    (subst (λ o. IsFault (outputs_fault file values edges o.outputs (outputs.explicit ++ outputs.implicit)) f)
    none (c.in_err-add_all_outputs.ensures.fault values sees)))

pub returns-clause-named : goal.returns-clause-named
returns-clause-named c = λ values sees none.
    edge-named values (outputs_model c.args.build.now) (inputs_model c.args.build.now) c.args.is_phony
    c.loses_own-loses_own.result c.args.edges.now c.add_all_outputs.new.edges c.add_all_inputs.new.edges
    (c.in_ok-explicit_inputs.explicit_inputs, c.in_ok-explicit_inputs.implicit_inputs)
    none (c.loses_own-loses_own.ensures values) (c.in_ok-add_all_outputs.ensures.added values sees)
    (c.in_ok-explicit_inputs.ensures.added values sees)
    (length c.as_slice.result.now) (ap length c.as_slice.ensures.value
    ∙ sym (length-map (words_model c.args.build.now.explicit_outs.items) (path_given values)
    ∙ length-map c.args.build.now.explicit_outs.items word_model))

pub add_all_inputs-requires : goal.add_all_inputs-requires
add_all_inputs-requires c = c.in_ok-add_all_outputs.ensures.keeps.clean c.requires
