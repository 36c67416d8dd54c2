use Rattle.std.proofs.Common.{refl, string_bytes, subst}
use Rattle.nj_ask.specs.declared.status.Status.TheVariants.{Usage}
use Rattle.nj_ask.specs.Endings.{Reported}
use Rattle.nj_ask.proofs.AskingLemmas.{ends-refused, ends-shown, ends-unshown}
use Rattle.nj_ask.proofs.words.refuse.Goals as goal

pub returns-in-Ok : goal.returns-in-Ok
returns-in-Ok g c =
    rw c.in-Help.is
    (ends-shown (string_bytes c.in-Help.text) c.as_bytes.result.now c.as_bytes.ensures.value c.in-Ok.ensures
    refl)

pub returns-in-Err : goal.returns-in-Err
returns-in-Err g c =
    rw c.in-Help.is
    (ends-unshown (string_bytes c.in-Help.text) c.as_bytes.result.now c.as_bytes.ensures.value
    c.in-Err.ensures refl)

pub returns-in-Unparsed : goal.returns-in-Unparsed
returns-in-Unparsed g c =
    rw c.in-Unparsed.is
    (ends-refused (string_bytes c.in-Unparsed.text) Usage Usage _ _ refl
    (subst (Reported _ _) c.as_bytes-in-Unparsed.ensures.value c.report.ensures) refl)

pub returns-in-OldOption : goal.returns-in-OldOption
returns-in-OldOption g c = rw c.in-OldOption.is
    (ends-refused _ Usage Usage _ _ refl c.report-in-OldOption.ensures refl)
