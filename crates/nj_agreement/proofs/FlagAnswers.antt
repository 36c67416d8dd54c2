-- Two lists of flags with the same meaning for the same items.
use Rattle.std.proofs.Common.{◌≡◌, Bool, true, false, List, [], ◌∷◌, refl, sym, ap, ◌∙◌}
use Rattle.std.specs.Prelude.{◌↔◌}

pub same-flag : (a b : Bool) → (a ≡ true → b ≡ true) → (b ≡ true → a ≡ true) → a ≡ b
same-flag true b to from = sym (to refl)
same-flag false true to from = from refl
same-flag false false to from = refl

-- flags that say of each item whether it has a property
module _ {A : Type 0} (P : A → Type 0) (Are : List A → List Bool → Type 0)
    (none : (flags : List Bool) → Are [] flags → flags ≡ [])
    (lacks : (x : A) (xs : List A) → Are (x ∷ xs) [] → ⊥)
    (each : (x : A) (xs : List A) (is : Bool) (flags : List Bool) → Are (x ∷ xs) (is ∷ flags)
    → ((is ≡ true) ↔ P x) × Are xs flags)
  where
    pub flags-agree : (xs : List A) (one other : List Bool) → Are xs one → Are xs other → one ≡ other
    flags-agree [] one other is also = none one is ∙ sym (none other also)
    flags-agree (x ∷ xs) [] other is also = absurd (lacks x xs is)
    flags-agree (x ∷ xs) (a ∷ ones) [] is also = absurd (lacks x xs also)
    flags-agree (x ∷ xs) (a ∷ ones) (b ∷ others) is also =
        let here = each x xs a ones is in
        let there = each x xs b others also in
        ap (λ flag. flag ∷ ones) (same-flag a b (λ h. there.0.1 (here.0.0 h)) (λ h. here.0.1 (there.0.0 h)))
        ∙ ap (λ flags. b ∷ flags) (flags-agree xs ones others here.1 there.1)
