-- When two answers of one call are the same.
use Rattle.std.specs.Prelude.{◌≡◌, ◌⊎◌, Result, Ok, Err}

-- Both are values, and the values are the same; or both are errors, and the errors are equal unless one of them is
-- free; or the only error is free.
abbrev pub AgreeUpTo : {T E : Type 0} → (Same : T → T → Type 0) → (IsFree : E → Type 0) → (one other : Result T E) → Type 0
AgreeUpTo Same IsFree (Ok one) (Ok other) = Same one other
AgreeUpTo Same IsFree (Err one) (Err other) = (one ≡ other) ⊎ (IsFree one ⊎ IsFree other)
AgreeUpTo Same IsFree (Ok one) (Err other) = IsFree other
AgreeUpTo Same IsFree (Err one) (Ok other) = IsFree one

-- the same, where values are the same only if they are equal
abbrev pub AgreeBut : {T E : Type 0} → (IsFree : E → Type 0) → (one other : Result T E) → Type 0
AgreeBut IsFree one other = AgreeUpTo (λ a b. a ≡ b) IsFree one other

-- if both are values, the values are the same
abbrev pub AgreeIfOk : {T E : Type 0} → (Same : T → T → Type 0) → (one other : Result T E) → Type 0
AgreeIfOk Same (Ok one) (Ok other) = Same one other
AgreeIfOk Same (Ok one) (Err other) = Unit {0}
AgreeIfOk Same (Err one) (Ok other) = Unit {0}
AgreeIfOk Same (Err one) (Err other) = Unit {0}

-- both are values, and the same, or both are errors, and the same
abbrev pub AgreeBoth : {T E : Type 0} → (Same : T → T → Type 0) → (SameError : E → E → Type 0) → (one other : Result T E) → Type 0
AgreeBoth Same SameError (Ok one) (Ok other) = Same one other
AgreeBoth Same SameError (Ok one) (Err other) = ⊥
AgreeBoth Same SameError (Err one) (Ok other) = ⊥
AgreeBoth Same SameError (Err one) (Err other) = SameError one other
