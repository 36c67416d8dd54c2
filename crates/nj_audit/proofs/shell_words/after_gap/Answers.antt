use Rattle.std.proofs.Common.{sym, ap, ◌∙◌}
use Rattle.nj_audit.specs.ShellWords.{tokens_of}
use Rattle.nj_audit.proofs.ShellLemmas.{after-gap}
use Rattle.nj_audit.proofs.shell_words.after_gap.Goals as goal

pub bytes-preserved : goal.bytes-preserved
bytes-preserved c =
    sym (after-gap c.in-Some.byte.now c.in-Some.after.now (sym c.is_gap.ensures ∙ c.if-not-is_gap.false))
    ∙ ap tokens_of (sym c.in-Some.ensures.cases.0) ∙ c.bytes.invariant
