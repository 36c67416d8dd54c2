use Rattle.std.proofs.Common.{ℕ, Option, refl, sym, ap, ◌∙◌}
use Rattle.std.specs.Prelude.{unwrap_or}
use Rattle.nj_text.specs.Numbers.{leading_number_of}
use Rattle.nj_text.proofs.Digits.{leading_number-before_dot}
use Rattle.nj_text.proofs.numbers.version_of.Goals as goal

pub returns : goal.returns
returns c =
    let text = c.args.text.now in
    let major = c.unwrap_or-major.ensures ∙ ap (λ (n : Option ℕ). unwrap_or n 0)
    (c.leading_number.ensures ∙ sym (leading_number-before_dot text)) in
    let minor = c.unwrap_or-minor.ensures ∙ ap (λ (n : Option ℕ). unwrap_or n 0)
    (c.leading_number-2.ensures ∙ ap leading_number_of c.after_dot.ensures) in
    rw (major, minor) refl
