-- The command, which `clap` describes in full, and its errors.
use Rattle.std.proofs.Common.{◌≡◌, ◌⊎◌, Bool, true, false, [], ◌∷◌, length, eqb, arith, refl, inl, inr, ap}
use Rattle.std.proofs.lemmas.Bool.Decides.{nat_tests}
use Rattle.std.specs.Prelude.{not, if◌then◌else◌}
use Rattle.clap.specs.Words.{IsAmong, Kinds, is_simple, is_simple_and_free}
use Rattle.clap.specs.Walk.{is_empty}
use Rattle.clap.specs.declared.error.kind.ErrorKind.{ErrorKind}
use Rattle.clap.specs.declared.error.kind.ErrorKind.TheVariants as kind
use Rattle.clap.proofs.OnLiterals.{clap_on_literals}
use Rattle.nj_args.specs.CommandLine.{command}
use Rattle.nj_args.specs.Inside.Held.{is_memory, refusal}
use Rattle.nj_args.specs.declared.usage_fault.UsageFault.TheVariants.{Unparsed, OutOfMemory}

pub simple : is_simple command ≡ true
unfolding command clap_on_literals
simple = refl

pub simple_and_free : is_simple_and_free command ≡ true
unfolding command clap_on_literals
simple_and_free = refl

one_of : (b : Bool) → ((if b then OutOfMemory else Unparsed) ≡ OutOfMemory)
    ⊎ ((if b then OutOfMemory else Unparsed) ≡ Unparsed)
one_of true = inl refl
one_of false = inr refl

with_kinds : (k x : ErrorKind) (xs : Kinds) → (refusal k ≡ OutOfMemory) ⊎ (refusal k ≡ Unparsed)
    → (refusal k ≡ OutOfMemory) ⊎ ((refusal k ≡ Unparsed) × (not (is_empty (x ∷ xs)) ≡ true))
with_kinds k x xs (inl e) = inl e
with_kinds k x xs (inr e) = let some : eqb (length (x ∷ xs)) 0 ≡ false = grind (arith, nat_tests) in
    inr (e, rw some refl)

-- an error is a lack of memory; otherwise there is at least one kind of fault
pub refused : (k : ErrorKind) (kinds : Kinds) → (k ≡ kind.OutOfMemory) ⊎ IsAmong k kinds
    → (refusal k ≡ OutOfMemory) ⊎ ((refusal k ≡ Unparsed) × (not (is_empty kinds) ≡ true))
refused k kinds (inl e) = inl (ap refusal e)
refused k [] (inr among) = absurd among
refused k (x ∷ xs) (inr among) = with_kinds k x xs (one_of (is_memory k))
