use Rattle.std.proofs.Common.{◌≡◌, None, ap, subst}
use Rattle.nj_questions.specs.Questions.{audit_model, subject_model}
use Rattle.nj_ask.specs.Asks.{listed}
use Rattle.nj_ask.proofs.AuditLemmas.{kinds-allowed}
use Rattle.nj_ask.proofs.asking.task_of.Goals as goal

pub returns-in-Ok-kinds_asked-clause-taken : goal.returns-in-Ok-kinds_asked-clause-taken
returns-in-Ok-kinds_asked-clause-taken c = (
  ap subject_model c.in-Audit.is,
  record {
    asked = c.in-Ok-kinds_asked.ensures.asked;
    allowed = kinds-allowed (audit_model c.in-Audit.options) c.in-Ok-kinds_asked.ensures.known;
    unlisted = subst (λ subject. listed (subject_model subject) ≡ None) c.in-Audit.is c.requires;
  },
)
