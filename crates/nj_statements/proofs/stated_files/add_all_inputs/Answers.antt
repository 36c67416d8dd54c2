use Rattle.std.proofs.Common.{◌≡◌, None, sym, subst, ◌∙◌}
use Rattle.nj_scope.specs.Scopes.{first_given}
use Rattle.std.specs.Option.{option_or}
use Rattle.nj_manifest.specs.Contents.{words_model, inputs_model}
use Rattle.nj_faults.specs.Faults.{IsFault}
use Rattle.nj_statements.specs.BuildFaults.{empty_path, inputs_fault}
use Rattle.nj_statements.proofs.Faults.{fault-first, fault-second, both-none, first-four, err-checks}
use Rattle.nj_statements.proofs.stated_files.add_all_inputs.Goals as goal

pub returns-in_err-add_inputs-clause-fault : goal.returns-in_err-add_inputs-clause-fault
returns-in_err-add_inputs-clause-fault c = λ values sees.
    let of = empty_path c.args.context.place.file.now values in
    let e = words_model c.args.build.now.explicit.items in
    let i = words_model c.args.build.now.implicit.items in
    let o = words_model c.args.build.now.order_only.items in
    let v = words_model c.args.build.now.validations.items in
    let split = first-four of e i o v in
    let F = first_given of in
    err-checks c.from_residual.result c.in_err-add_inputs.field-0.0
    (inputs_fault c.args.context.place.file.now values (inputs_model c.args.build.now))
    c.from_residual.ensures.1 (subst (λ a. IsFault a c.in_err-add_inputs.field-0.0) (sym split)
    (fault-first (F e) (option_or (F i) (option_or (F o) (F v))) _
    (subst (λ ws. IsFault (F (words_model ws)) c.in_err-add_inputs.field-0.0) c.as_slice.ensures.value
    (c.in_err-add_inputs.ensures.fault values sees))))

pub returns-in_err-add_inputs-2-clause-fault : goal.returns-in_err-add_inputs-2-clause-fault
returns-in_err-add_inputs-2-clause-fault c = λ values sees.
    let of = empty_path c.args.context.place.file.now values in
    let e = words_model c.args.build.now.explicit.items in
    let i = words_model c.args.build.now.implicit.items in
    let o = words_model c.args.build.now.order_only.items in
    let v = words_model c.args.build.now.validations.items in
    let split = first-four of e i o v in
    let F = first_given of in
    err-checks c.from_residual-in_err-add_inputs-2.result c.in_err-add_inputs-2.field-0.0
    (inputs_fault c.args.context.place.file.now values (inputs_model c.args.build.now))
    c.from_residual-in_err-add_inputs-2.ensures.1
    (subst (λ a. IsFault a c.in_err-add_inputs-2.field-0.0) (sym split)
    (fault-second (F e) (option_or (F i) (option_or (F o) (F v))) _
    (subst (λ ws. F (words_model ws) ≡ None) c.as_slice.ensures.value
    (c.in_ok-add_inputs.ensures.fault values sees))
    (fault-first (F i) (option_or (F o) (F v)) _
    (subst (λ ws. IsFault (F (words_model ws)) c.in_err-add_inputs-2.field-0.0) c.as_slice-2.ensures.value
    (c.in_err-add_inputs-2.ensures.fault values sees)))))

pub returns-in_err-add_inputs-3-clause-fault : goal.returns-in_err-add_inputs-3-clause-fault
returns-in_err-add_inputs-3-clause-fault c = λ values sees.
    let of = empty_path c.args.context.place.file.now values in
    let e = words_model c.args.build.now.explicit.items in
    let i = words_model c.args.build.now.implicit.items in
    let o = words_model c.args.build.now.order_only.items in
    let v = words_model c.args.build.now.validations.items in
    let split = first-four of e i o v in
    let F = first_given of in
    err-checks c.from_residual-in_err-add_inputs-3.result c.in_err-add_inputs-3.field-0.0
    (inputs_fault c.args.context.place.file.now values (inputs_model c.args.build.now))
    c.from_residual-in_err-add_inputs-3.ensures.1
    (subst (λ a. IsFault a c.in_err-add_inputs-3.field-0.0) (sym split)
    (fault-second (F e) (option_or (F i) (option_or (F o) (F v))) _
    (subst (λ ws. F (words_model ws) ≡ None) c.as_slice.ensures.value
    (c.in_ok-add_inputs.ensures.fault values sees))
    (fault-second (F i) (option_or (F o) (F v)) _
    (subst (λ ws. F (words_model ws) ≡ None) c.as_slice-2.ensures.value
    (c.in_ok-add_inputs-2.ensures.fault values sees))
    (fault-first (F o) (F v) _ (subst (λ ws. IsFault (F (words_model ws)) c.in_err-add_inputs-3.field-0.0)
    c.as_slice-3.ensures.value (c.in_err-add_inputs-3.ensures.fault values sees))))))

pub returns-in_err-add_validations-clause-fault : goal.returns-in_err-add_validations-clause-fault
returns-in_err-add_validations-clause-fault c = λ values sees.
    let of = empty_path c.args.context.place.file.now values in
    let e = words_model c.args.build.now.explicit.items in
    let i = words_model c.args.build.now.implicit.items in
    let o = words_model c.args.build.now.order_only.items in
    let v = words_model c.args.build.now.validations.items in
    let split = first-four of e i o v in
    let F = first_given of in
    err-checks c.from_residual-in_err-add_validations.result c.in_err-add_validations.field-0.0
    (inputs_fault c.args.context.place.file.now values (inputs_model c.args.build.now))
    c.from_residual-in_err-add_validations.ensures.1
    (subst (λ a. IsFault a c.in_err-add_validations.field-0.0) (sym split)
    (fault-second (F e) (option_or (F i) (option_or (F o) (F v))) _
    (subst (λ ws. F (words_model ws) ≡ None) c.as_slice.ensures.value
    (c.in_ok-add_inputs.ensures.fault values sees))
    (fault-second (F i) (option_or (F o) (F v)) _
    (subst (λ ws. F (words_model ws) ≡ None) c.as_slice-2.ensures.value
    (c.in_ok-add_inputs-2.ensures.fault values sees))
    (fault-second (F o) (F v) _ (subst (λ ws. F (words_model ws) ≡ None) c.as_slice-3.ensures.value
    (c.in_ok-add_inputs-3.ensures.fault values sees))
    (subst (λ ws. IsFault (F (words_model ws)) c.in_err-add_validations.field-0.0)
    c.as_slice-4.ensures.value (c.in_err-add_validations.ensures.fault values sees))))))

pub returns-clause-fault : goal.returns-clause-fault
returns-clause-fault c = λ values sees.
    let of = empty_path c.args.context.place.file.now values in
    let e = words_model c.args.build.now.explicit.items in
    let i = words_model c.args.build.now.implicit.items in
    let o = words_model c.args.build.now.order_only.items in
    let v = words_model c.args.build.now.validations.items in
    let split = first-four of e i o v in
    let F = first_given of in
    split ∙ both-none (F e) (option_or (F i) (option_or (F o) (F v)))
    (subst (λ ws. F (words_model ws) ≡ None) c.as_slice.ensures.value
    (c.in_ok-add_inputs.ensures.fault values sees))
    (both-none (F i) (option_or (F o) (F v))
    (subst (λ ws. F (words_model ws) ≡ None) c.as_slice-2.ensures.value
    (c.in_ok-add_inputs-2.ensures.fault values sees))
    (both-none (F o) (F v) (subst (λ ws. F (words_model ws) ≡ None) c.as_slice-3.ensures.value
    (c.in_ok-add_inputs-3.ensures.fault values sees))
    (subst (λ ws. F (words_model ws) ≡ None) c.as_slice-4.ensures.value
    (c.in_ok-add_validations.ensures.fault values sees))))

pub add_inputs-requires-2 : goal.add_inputs-requires-2
add_inputs-requires-2 c = c.in_ok-add_inputs.ensures.keeps.clean c.requires

pub add_inputs-requires-3 : goal.add_inputs-requires-3
add_inputs-requires-3 c = c.in_ok-add_inputs-2.ensures.keeps.clean
    (c.in_ok-add_inputs.ensures.keeps.clean c.requires)
