-- Failures by another description.
use Rattle.std.specs.Prelude.{◌≡◌, ℕ, IsErr, List, Result, Ok, Err, IfErr, IfOk}
use Rattle.std.specs.Result.{IsErrAnd}
use Rattle.std.proofs.Common.{sym, subst}
use Rattle.nj_ask.specs.declared.failure.Failure.{Failure}
use Rattle.nj_ask.specs.declared.failure.Failure.TheVariants.{Refused, Write, OutOfMemory}
use Rattle.nj_ask.specs.declared.status.Status.{Status}
use Rattle.nj_ask.specs.Inside.Failures.{FailsBy}

-- a line that is described so is also described otherwise
pub fails-as : (given : Status) (Says Tells : List ℕ → Type 0) (failure : Failure)
    → ((line : List ℕ) → Says line → Tells line) → FailsBy given Says failure → FailsBy given Tells failure
fails-as given Says Tells (Refused line status) tells (says, is) = (tells line.items says, is)
fails-as given Says Tells Write tells none = absurd none
fails-as given Says Tells OutOfMemory tells none = tt

-- so are results
pub ok-as : {X E : Type 0} (P Q : X → Type 0) (result : Result X E) → ((x : X) → P x → Q x) → IfOk result P
    → IfOk result Q
ok-as P Q (Ok x) so given = so x given
ok-as P Q (Err e) so given = given

pub err-as : {X E : Type 0} (P Q : E → Type 0) (result : Result X E) → ((e : E) → P e → Q e) → IfErr result P
    → IfErr result Q
err-as P Q (Ok x) so given = given
err-as P Q (Err e) so given = so e given

-- a result of which two properties are known
pub ok-both : {X E : Type 0} (P Q R : X → Type 0) (result : Result X E) → ((x : X) → P x → Q x → R x)
    → IfOk result P → IfOk result Q → IfOk result R
ok-both P Q R (Ok x) so given too = so x given too
ok-both P Q R (Err e) so given too = given

-- a `?` for which memory ran out
pub memory-fails : {X : Type 0} (given : Status) (Says : List ℕ → Type 0) (result : Result X Failure)
    → IsErr result × IsErrAnd result (λ e. e ≡ OutOfMemory) → IfErr result (FailsBy given Says)
memory-fails given Says (Ok x) handed = tt
memory-fails given Says (Err e) (is_err, is) = subst (FailsBy given Says) (sym is) tt
