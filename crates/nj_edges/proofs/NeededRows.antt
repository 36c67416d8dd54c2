-- The edges that files need, worked out on a small graph.
use Rattle.std.proofs.Common.{ℕ, zero, suc, [], ◌∷◌, refl, arith}
use Rattle.nj_edges.specs.Distances.{IsDistance, IsNeeded, IsNeededIn}
use Rattle.nj_edges.proofs.ChangeRows.{a, b, four, s}

-- `build a: cc s`; `build p: phony a`; `build b: cc || p`; `build v: cc |@ a`
its-maker : IsNeededIn four (b ∷ []) 0 2
its-maker = (0, omega arith, refl)

order-only : IsNeededIn four (b ∷ []) 1 1
order-only = (2, its-maker, (0, omega arith, refl))

by-phony : IsNeededIn four (b ∷ []) 2 0
by-phony = (1, order-only, (0, omega arith, refl))

-- a file nearer to an edge decides its distance
nearest : IsDistance four (b ∷ a ∷ []) 0 0
nearest = record { chain = (1, omega arith, refl); shortest = λ n needed. omega arith }

none-makes-a-source : (e : ℕ) → IsNeeded four (s ∷ []) e → ⊥
none-makes-a-source e (m, (zero, below, is), needs) = cc
none-makes-a-source e (m, (suc k, below, is), needs) = absurd (omega (arith, below))
