-- Texts, part by part.
use Rattle.std.proofs.Common.{◌≡◌, ◌++◌, ◌∙◌, ℕ, List, ap, append_assoc, sym}

-- a text, and one more part
pub more : (old part next text new : List ℕ) → text ≡ old ++ part → new ≡ text ++ next
    → new ≡ old ++ (part ++ next)
more old part next text new held is =
    is ∙ ap (λ (t : List ℕ). t ++ next) held ∙ append_assoc old part next

-- two more parts
pub two_more : (old part next last text new : List ℕ) → text ≡ old ++ part → new ≡ text ++ (next ++ last)
    → new ≡ old ++ (part ++ next ++ last)
two_more old part next last text new held is =
    more old part (next ++ last) text new held is
    ∙ ap (λ (t : List ℕ). old ++ t) (sym (append_assoc part next last))
