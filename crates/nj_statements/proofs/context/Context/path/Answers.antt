use Rattle.std.proofs.Common.{ℕ, List, Err, ap, sym, subst, ◌∙◌}
use Rattle.std.specs.Bool.{then_some}
use Rattle.nj_text.specs.Calls.{is_empty}
use Rattle.nj_text.specs.Paths.{clean_path_of}
use Rattle.nj_faults.specs.declared.fault.Cause.TheVariants.{EmptyPath}
use Rattle.nj_faults.specs.Faults.{IsFault, fault_at}
use Rattle.nj_scope.specs.Scopes.{expanded}
use Rattle.nj_text.specs.Words.{word_model}
use Rattle.nj_statements.specs.Joining.{no_values}
use Rattle.nj_statements.proofs.Keeps.{cleaned}
use Rattle.nj_statements.proofs.context.Context.path.Goals as goal

pub returns-in-Some-clause-path : goal.returns-in-Some-clause-path
returns-in-Some-clause-path c = λ values sees. c.in-Some.ensures.path values

pub returns-in-Some-clause-fault : goal.returns-in-Some-clause-fault
returns-in-Some-clause-fault c = λ values sees. ap
    (λ b. then_some b (fault_at c.args.self.place.file.now c.args.word.now.spot EmptyPath))
    (c.in-Some.ensures.meant values)

pub returns-in-Ok-clause-path : goal.returns-in-Ok-clause-path
returns-in-Ok-clause-path c = λ values sees. c.in-Ok.ensures.path
    ∙ ap clean_path_of (c.in_ok-expand.ensures values sees)

pub returns-in-Ok-clause-fault : goal.returns-in-Ok-clause-fault
returns-in-Ok-clause-fault c = λ values sees.
    ap (λ b. then_some b (fault_at c.args.self.place.file.now c.args.word.now.spot EmptyPath))
    (ap is_empty (sym (c.in_ok-expand.ensures values sees)) ∙ c.in-Ok.ensures.meant)

pub returns-in-Err-EmptyPath-clause-fault : goal.returns-in-Err-EmptyPath-clause-fault
returns-in-Err-EmptyPath-clause-fault c = λ values sees.
    let meant = sym (c.in_ok-expand.ensures values sees)
    ∙ c.clean_path.ensures.empty (c.in-Err-EmptyPath.is ∙ ap Err c.in-Err-EmptyPath.field-0-is) in
    subst (λ (text : List ℕ). IsFault (then_some (is_empty text)
    (fault_at c.args.self.place.file.now c.args.word.now.spot EmptyPath)) c.fault.result) (sym meant)
    c.fault.ensures

pub returns-in-Some-clause-clean : goal.returns-in-Some-clause-clean
returns-in-Some-clause-clean c = cleaned c.in-Some.path.now
    (expanded no_values (word_model c.args.word.now).parts) (c.in-Some.ensures.path no_values)

pub returns-in-Ok-clause-clean : goal.returns-in-Ok-clause-clean
returns-in-Ok-clause-clean c = cleaned c.in-Ok.path.now c.expand.new.text.items c.in-Ok.ensures.path
