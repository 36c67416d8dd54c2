-- How a sink in memory takes bytes.
use Rattle.std.specs.Prelude.{ℕ, ◌-◌, List, length, take, Option, Some, None}
use Rattle.nj_tools.specs.MemorySinks.{Memory}

-- the prefix of the given bytes that fits within the limit, after the given number of bytes
abbrev pub within_limit : Option ℕ → ℕ → List ℕ → List ℕ
within_limit None taken bytes = bytes
within_limit (Some limit) taken bytes = take (limit - taken) bytes

-- the prefix of the given bytes that fits in the sink
abbrev pub fitting : Memory → List ℕ → List ℕ
fitting m bytes = within_limit m.limit (length m.bytes) bytes
