use Rattle.std.proofs.Common.{◌≡◌, None, ◌++◌, ap, sym, subst, ◌∙◌}
use Rattle.nj_manifest.specs.Contents.{words_model}
use Rattle.nj_faults.specs.Faults.{IsFault}
use Rattle.nj_statements.specs.EdgeList.{paths_given}
use Rattle.nj_statements.specs.BuildFaults.{outputs_fault}
use Rattle.nj_statements.specs.Answers.{Checks}
use Rattle.nj_statements.specs.Inside.EdgeSteps.{with_outputs}
use Rattle.nj_statements.proofs.Faults.{fault-first, checks-second, outputs-append, err-checks}
use Rattle.nj_statements.proofs.Tables.{outputs-open}
use Rattle.nj_statements.proofs.stated_files.add_all_outputs.Goals as goal

pub returns-in_err-add_outputs-clause-fault : goal.returns-in_err-add_outputs-clause-fault
returns-in_err-add_outputs-clause-fault c = λ values sees.
    let file = c.args.context.place.file.now in
    let old = c.args.edges.now in
    let explicit = words_model c.args.build.now.explicit_outs.items in
    let implicit = words_model c.args.build.now.implicit_outs.items in
    let split = outputs-append file values old.edges old.«open».outputs explicit implicit in
    err-checks c.from_residual.result c.in_err-add_outputs.field-0.0
    (outputs_fault file values old.edges old.«open».outputs (explicit ++ implicit))
    c.from_residual.ensures.1
    (subst (λ o. IsFault o c.in_err-add_outputs.field-0.0) (sym split)
    (fault-first (outputs_fault file values old.edges old.«open».outputs explicit)
    (outputs_fault file values old.edges (old.«open».outputs ++ paths_given values explicit) implicit) _
    (subst (λ ws. IsFault (outputs_fault file values old.edges old.«open».outputs (words_model ws))
    c.in_err-add_outputs.field-0.0) c.as_slice.ensures.value
    (c.in_err-add_outputs.ensures.fault values sees))))

pub returns-clause-fault : goal.returns-clause-fault
returns-clause-fault c = λ values sees.
    let file = c.args.context.place.file.now in
    let old = c.args.edges.now in
    let implicit = words_model c.args.build.now.implicit_outs.items in
    let paths = paths_given values (words_model c.args.build.now.explicit_outs.items) in
    let split = outputs-append file values old.edges old.«open».outputs
    (words_model c.args.build.now.explicit_outs.items) implicit in
    let after = subst (λ ws. c.add_outputs.new.edges ≡ with_outputs old (paths_given values (words_model ws)))
    c.as_slice.ensures.value (c.in_ok-add_outputs.ensures.added values sees) in
    let edges = c.in_ok-add_outputs.ensures.keeps.read.edges in
    let outputs = ap (λ t. t.«open».outputs) after ∙ ap (λ o. o.outputs) (outputs-open old paths) in
    subst (λ o. Checks o c.add_outputs-2.result) (sym split)
    (checks-second (outputs_fault file values old.edges old.«open».outputs
    (words_model c.args.build.now.explicit_outs.items))
    (outputs_fault file values old.edges (old.«open».outputs ++ paths) implicit) c.add_outputs-2.result
    (subst (λ ws. outputs_fault file values old.edges old.«open».outputs (words_model ws) ≡ None)
    c.as_slice.ensures.value (c.in_ok-add_outputs.ensures.fault values sees))
    (subst (λ o. Checks o c.add_outputs-2.result)
    (ap (λ es. outputs_fault file values es c.add_outputs.new.edges.«open».outputs implicit) edges
    ∙ ap (λ os. outputs_fault file values old.edges os implicit) outputs)
    (subst (λ ws. Checks (outputs_fault file values c.add_outputs.new.edges.edges
    c.add_outputs.new.edges.«open».outputs (words_model ws)) c.add_outputs-2.result)
    c.as_slice-2.ensures.value (c.add_outputs-2.ensures.fault values sees))))
