-- Lists without their repeats.
use Rattle.std.specs.Prelude.{Bool, not, List, [], ◌∷◌, filter}

-- the list without its repeats: the first of equal elements is kept
abbrev pub each_once : {A : Type 0} → (same : A → A → Bool) → List A → List A
each_once same [] = []
each_once same (x ∷ xs) = x ∷ filter (λ y. not (same y x)) (each_once same xs)
