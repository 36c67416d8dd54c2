-- The command is one that `clap` describes in full, and its errors.
use Rattle.std.proofs.Common.{◌≡◌, ◌⊎◌, true, Some, List, [], ◌∷◌, refl, sym, inl, inr, ap, ◌∙◌}
use Rattle.std.specs.Prelude.{if◌then◌else◌}
use Rattle.clap.specs.Words.{IsAmong, Kinds, Text, built, fault_of, is_simple, is_simple_and_free}
use Rattle.clap.specs.declared.error.kind.ErrorKind.{ErrorKind}
use Rattle.clap.specs.declared.error.kind.ErrorKind.TheVariants as kind
use Rattle.clap.proofs.OnLiterals.{clap_on_literals}
use Rattle.nj_questions.specs.CommandLine.{command}
use Rattle.nj_questions.specs.QuestionOf.{refused_by, shows_help, unparsed}
use Rattle.nj_questions.specs.declared.refusals.Refusal.{Refusal}
use Rattle.nj_questions.specs.declared.refusals.Refusal.TheVariants.{OutOfMemory}
use Rattle.nj_questions.specs.QuestionOf.{refusal_model}
use Rattle.nj_questions.proofs.AlikeKinds.{Alike, alike}

pub simple : is_simple command ≡ true
unfolding command clap_on_literals
simple = refl

pub simple_and_free : is_simple_and_free command ≡ true
unfolding command clap_on_literals
simple_and_free = refl

helpless : (built command).top.disable_help_subcommand ≡ true
unfolding command clap_on_literals
helpless = refl

-- any kind refuses as the first does
as_first : (k : ErrorKind) (kinds : Kinds) → Alike kinds → IsAmong k kinds
    → refused_by (k ∷ []) ≡ refused_by kinds
as_first k [] same among = absurd among
as_first k (first ∷ kinds) same among =
    ap (λ b. Some (if b then shows_help else unparsed)) (same k first among (inl refl))

pub reported : (words : List Text) (k : ErrorKind) (refusal : Refusal)
    → (k ≡ kind.OutOfMemory) ⊎ IsAmong k (fault_of command words)
    → (k ≡ kind.OutOfMemory → refusal ≡ OutOfMemory)
    → (refusal ≡ OutOfMemory) ⊎ (refused_by (k ∷ []) ≡ Some (refusal_model refusal))
    → (refusal ≡ OutOfMemory) ⊎ (refused_by (fault_of command words) ≡ Some (refusal_model refusal))
reported words k refusal (inl e) memory other = inl (memory e)
reported words k refusal (inr among) memory (inl e) = inl e
reported words k refusal (inr among) memory (inr e) =
    inr (sym (as_first k (fault_of command words) (alike command words helpless) among) ∙ e)
