-- The known state of a sink in memory.
use Rattle.std.specs.Prelude.{ℕ, Bool, List, Option, Some}
use Rattle.nj_tools.specs.Sinks.{SinkState}

-- a sink in memory
pub record Memory : Type 0 where
  -- the bytes that it took so far
  pub bytes : List ℕ
  -- how many bytes it takes at most; `None` if there is no limit
  pub limit : Option ℕ
  -- how many bytes fit in its memory
  pub capacity : ℕ
  pub failures : ℕ
  pub took_since_failure : Bool

-- its known state as a sink
abbrev pub state_of : Memory → SinkState
state_of m = record { taken = Some m.bytes; failures = m.failures; took_since_failure = m.took_since_failure }
