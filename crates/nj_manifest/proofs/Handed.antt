-- The errors that `?` returns.
use Rattle.std.proofs.Common.{◌≡◌, true≢false, Result, Ok, Err, IsErr, refl, sym, ap}
use Rattle.std.specs.Result.{IsErrAnd}

pub handed : {X E : Type 0} (f : E) (r : Result X E) → IsErr r × IsErrAnd r (λ e. e ≡ f) → r ≡ Err f
handed f (Ok x) (no_fault, is) = absurd (true≢false (sym no_fault))
handed f (Err e) (no_fault, is) = ap (λ x. Err x) is

pub handed-as : {X E : Type 0} (P : E → Type 0) (r : Result X E) → IsErr r × IsErrAnd r P
    → (e : E) × (r ≡ Err e) × P e
handed-as P (Ok x) (no_fault, is) = absurd (true≢false (sym no_fault))
handed-as P (Err e) (no_fault, is) = (e, refl, is)
