-- The text of a cause whose name was made of another.
use Rattle.std.proofs.Common.{arith, ◌≡◌, ℕ, List}
use Rattle.nj_manifest.specs.declared.cause.SyntaxCause.{SyntaxCause}
use Rattle.nj_manifest.specs.Faults.{named_by, syntax_text}

pub named_text : {N M : Type 0} (named : N → M) (shown : M → List ℕ) (cause : SyntaxCause N)
    → syntax_text shown (named_by named cause) ≡ syntax_text (λ name. shown (named name)) cause
named_text named shown cause = grind arith
