-- Numbers of files, and the files.
use Rattle.std.proofs.Common.{◌≡◌, ℕ, List, [], ◌∷◌, map, refl, ap}
use Rattle.nj_c.specs.Pages.{numbered}

pub numbers-back : (numbers : List ℕ) → map (λ f. f.0) (numbered numbers) ≡ numbers
numbers-back [] = refl
numbers-back (n ∷ numbers) = ap (λ ns. n ∷ ns) (numbers-back numbers)
