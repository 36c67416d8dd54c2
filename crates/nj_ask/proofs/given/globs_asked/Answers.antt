use Rattle.std.proofs.Common.{map, string_bytes, subst}
use Rattle.nj_changes.specs.Ignored.{IsPatternFault}
use Rattle.nj_questions.specs.Questions.{affected_model}
use Rattle.nj_ask.proofs.AffectedLemmas.{fails-by-word, fails-by-pattern}
use Rattle.nj_ask.proofs.given.globs_asked.Goals as goal

pub returns-in-Err-clause-refused : goal.returns-in-Err-clause-refused
returns-in-Err-clause-refused c =
    fails-by-word (affected_model c.args.options.now) c.in-Err.failure c.in-Err.ensures.refused

pub returns-in-Err-read_globs-clause-refused : goal.returns-in-Err-read_globs-clause-refused
returns-in-Err-read_globs-clause-refused c =
    fails-by-pattern (affected_model c.args.options.now) c.in-Ok.ensures.allowed c.in-Err-read_globs.fault
    (subst (λ patterns. IsPatternFault (map string_bytes patterns) c.in-Err-read_globs.fault)
    c.deref.ensures.value c.in-Err-read_globs.ensures.wrong)
    c.wrong_pattern.result c.wrong_pattern.ensures
