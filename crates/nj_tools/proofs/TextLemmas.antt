-- Texts that grow at their end.
use Rattle.std.proofs.Common.{◌≡◌, ℕ, List, ◌++◌, sym, ap, ◌∙◌, append_assoc}

module _ (base : List ℕ) {mid new : List ℕ} (so_far part : List ℕ) where
  -- one more part
  pub added : mid ≡ base ++ so_far → new ≡ mid ++ part → new ≡ base ++ (so_far ++ part)
  added is next = next ∙ ap (λ t. t ++ part) is ∙ append_assoc base so_far part

  pub added_is : {whole : List ℕ} → mid ≡ base ++ so_far → new ≡ mid ++ part → so_far ++ part ≡ whole
      → new ≡ base ++ whole
  added_is is next all = added is next ∙ ap (λ t. base ++ t) all

-- the first part of what is left was added
pub left_less : (mid part after : List ℕ) {new before whole : List ℕ} → mid ++ before ≡ whole
    → before ≡ part ++ after → new ≡ mid ++ part → new ++ after ≡ whole
left_less mid part after is parts next =
    ap (λ t. t ++ after) next ∙ append_assoc mid part after ∙ ap (λ t. mid ++ t) (sym parts) ∙ is
