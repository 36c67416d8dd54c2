use Rattle.std.proofs.Common.{sym, ap, ◌∙◌}
use Rattle.nj_text.specs.declared.word.Part.{Part}
use Rattle.nj_text.specs.Words.{part_model}
use Rattle.nj_scope.specs.Scopes.{part_expanded}
use Rattle.nj_statements.proofs.context.Context.part_given.Goals as goal

pub returns-in-Name : goal.returns-in-Name
returns-in-Name c = λ values sees. c.value.ensures values sees
    ∙ sym (ap (λ (p : Part). part_expanded values (part_model p)) c.in-Name.is)
