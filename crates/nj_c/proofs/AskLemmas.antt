-- The effect of a call that changes an open session.
use Rattle.std.proofs.Common.{◌≡◌, ℤ, Option, Some, subst, sym}
use Rattle.nj_c.specs.declared.session_state.Kept.{Kept}
use Rattle.nj_c.specs.declared.status.Status.{Status}
use Rattle.nj_c.specs.Loading.{Changes}
use Rattle.nj_c.specs.Statuses.{code_of}

pub changes : (session : Option Kept) (kept new : Kept) (after : Option Kept) (result : ℤ) (status : Status)
    (does : Kept → Kept → Status → Type 0)
    → Some kept ≡ session → after ≡ Some new → result ≡ code_of status → does kept new status
    → Changes session after result does
changes session kept new after result status does was put is done =
    subst (λ s. Changes s after result does) was (new, put, (status, is, done))

-- the contents of an open session were changed where they stand
pub altered : {session after : Option Kept} {result : ℤ} {kept before new then : Kept} (status : Status)
    (does : Kept → Kept → Status → Type 0)
    → Some before ≡ session → kept ≡ before → then ≡ new → after ≡ Some then → result ≡ code_of status
    → does kept new status → Changes session after result does
altered {session = session} {after = after} {result = result} {kept = kept} {before = before} {then = then}
    status does was same put keeps is done =
    changes session before then after result status does was keeps is
    (subst (λ k. does k then status) same (subst (λ k. does kept k status) (sym put) done))
