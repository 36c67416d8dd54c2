use Rattle.std.proofs.Common.{ap, ◌∙◌}
use Rattle.std.specs.Bool.{then_some}
use Rattle.std.proofs.lemmas.Option.{slice_get_within}
use Rattle.nj_text.specs.Words.{word_model}
use Rattle.nj_text.proofs.CleanPaths.{clean-twice}
use Rattle.nj_scope.specs.Scopes.{expanded}
use Rattle.nj_faults.specs.declared.fault.Cause.TheVariants.{EmptyPath}
use Rattle.nj_faults.specs.Faults.{fault_at}
use Rattle.nj_statements.specs.BuildFaults.{empty_path}
use Rattle.nj_statements.specs.EdgeList.{path_given}
use Rattle.nj_statements.specs.Joining.{no_values}
use Rattle.nj_statements.specs.Inside.EdgeSteps.{with_input_unless}
use Rattle.nj_statements.proofs.Faults.{err-checks}
use Rattle.nj_statements.proofs.context.Context.add_input.Goals as goal

pub add_known_input-requires : goal.add_known_input-requires
add_known_input-requires c = slice_get_within c.args.edges.now.files c.in-Some.file.0 _
    (c.in-Some.ensures.file no_values)

pub returns-in-Some-clause-fault : goal.returns-in-Some-clause-fault
returns-in-Some-clause-fault c = λ values sees. ap
    (λ b. then_some b (fault_at c.args.self.place.file.now c.args.word.now.spot EmptyPath))
    (c.in-Some.ensures.meant values)

pub returns-in-Some-clause-added : goal.returns-in-Some-clause-added
returns-in-Some-clause-added c = λ values sees. c.in_ok-add_known_input.ensures.added _
    (c.in-Some.ensures.file values)

pub returns-in-Some-clause-named : goal.returns-in-Some-clause-named
returns-in-Some-clause-named c = (
  path_given no_values (word_model c.args.word.now),
  clean-twice (expanded no_values (word_model c.args.word.now).parts),
  c.in_ok-add_known_input.ensures.added _ (c.in-Some.ensures.file no_values),
)

pub returns-in_err-path-clause-fault : goal.returns-in_err-path-clause-fault
returns-in_err-path-clause-fault c = λ values sees.
    let f = c.in_err-path.field-0.0 in
    err-checks c.from_residual-in_err-path.result f
    (empty_path c.args.self.place.file.now values (word_model c.args.word.now))
    c.from_residual-in_err-path.ensures.1 (c.in_err-path.ensures.fault values sees)

pub returns-clause-fault : goal.returns-clause-fault
returns-clause-fault c = λ values sees. c.in_ok-path.ensures.fault values sees

pub returns-clause-added : goal.returns-clause-added
returns-clause-added c = λ values sees. c.in_ok-add_input.ensures.added
    ∙ ap (with_input_unless c.args.loses_own c.args.edges.now) (c.in_ok-path.ensures.path values sees)

pub returns-clause-named : goal.returns-clause-named
returns-clause-named c = (c.in_ok-path.path.now, c.in_ok-path.ensures.clean, c.in_ok-add_input.ensures.added)
