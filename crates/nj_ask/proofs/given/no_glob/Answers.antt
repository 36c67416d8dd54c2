use Rattle.std.proofs.Common.{ℕ, List, ◌++◌, append_assoc, ap, sym, ◌∙◌}
use Rattle.std.specs.Prelude.{codes}
use Rattle.nj_globs.specs.Faults.{fault_text}
use Rattle.nj_ask.specs.declared.status.Status.TheVariants.{Usage}
use Rattle.nj_ask.specs.Endings.{program_line}
use Rattle.nj_ask.proofs.FailureLemmas.{fails-as}
use Rattle.nj_ask.proofs.given.no_glob.Goals as goal

pub returns-in-Ok : goal.returns-in-Ok
returns-in-Ok c =
    let said = λ (pattern text : List ℕ). program_line (codes "'" ++ pattern ++ text) in
    fails-as Usage _ _ c.in_words.result
    (λ line is. is ∙ ap (λ pattern. said pattern c.as_bytes.result.now) c.as_bytes-pattern.ensures.value
    ∙ ap (said c.args.pattern.now) (c.as_bytes.ensures.value ∙ c.in-Ok.ensures)
    ∙ ap program_line (sym (append_assoc (codes "'" ++ c.args.pattern.now) (codes "' of --ignore has ")
    (fault_text c.args.fault))))
    c.in_words.ensures
