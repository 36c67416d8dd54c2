-- Chains, whatever their steps are.
use Rattle.std.proofs.Common.{arith, ◌≡◌, ℕ, ◌⊎◌}
use Rattle.nj_cycles.specs.Cycles.{Chain}
use Rattle.nj_cycles.specs.Cycles.Chain.{one, more}

pub chain_append : (step : ℕ → ℕ → Type 0) (e g f : ℕ) → Chain step e g → Chain step g f → Chain step e f
chain_append step e g f (one s) d = more s d
chain_append step e g f (more {g = h} s c) d = more s (chain_append step h g f c d)

pub chain_push : (step : ℕ → ℕ → Type 0) (e g f : ℕ) → Chain step e g → step g f → Chain step e f
chain_push step e g f c s = chain_append step e g f c (one s)

pub chain_map : (step other : ℕ → ℕ → Type 0) → ((e f : ℕ) → step e f → other e f) → (e f : ℕ)
    → Chain step e f → Chain other e f
chain_map step other h e f (one s) = one (h e f s)
chain_map step other h e f (more {g = g} s c) = more (h e g s) (chain_map step other h g f c)

-- a chain, or no step at all
abbrev pub Comes : (ℕ → ℕ → Type 0) → ℕ → ℕ → Type 0
Comes step e f = (e ≡ f) ⊎ Chain step e f

pub comes_then : (step : ℕ → ℕ → Type 0) (e g f : ℕ) → Comes step e g → Chain step g f → Chain step e f
comes_then step e g f h c = grind (arith, chain_append)

pub then_comes : (step : ℕ → ℕ → Type 0) (e g f : ℕ) → Chain step e g → Comes step g f → Chain step e f
then_comes step e g f c h = grind (arith, chain_append)
