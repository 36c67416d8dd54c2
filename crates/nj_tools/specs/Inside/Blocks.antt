-- Text on its way to a sink.
use Rattle.std.specs.Prelude.{◌≡◌, ℕ, List, ◌++◌}
use Rattle.nj_tools.specs.Sinks.{SinkState, Takes}

-- the sink took a prefix of the text since the old state, and the rest is pending
abbrev pub IsUnderway : (old new : SinkState) → (text unjoined : List ℕ) → Type 0
IsUnderway old new text unjoined = (front : List ℕ) × (text ≡ front ++ unjoined) × Takes old new front
