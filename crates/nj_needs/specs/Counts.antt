-- Counts that stay at the greatest `u64`.
use Rattle.std.specs.Prelude.{ℕ, ◌-◌, ◌^◌, min}

-- a number as a `u64` that does not wrap
abbrev pub saturated : ℕ → ℕ
saturated n = min n (2 ^ 64 - 1)
