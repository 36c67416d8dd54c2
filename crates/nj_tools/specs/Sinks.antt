-- The known state of a sink, and its changes by a sink and by a whole write.
use Rattle.std.specs.Prelude.{◌≡◌, ◌≢◌, ℕ, zero, suc, ◌+◌, ◌-◌, ◌^◌, ◌≤◌, min, Bool, false, not, ◌||◌, List, [], ◌∷◌, ◌++◌, length, take, Option, Result, Ok, Err}
use Rattle.std.specs.Io.KnownBytes.{Appends}
use Rattle.nj_text.specs.Calls.{is_empty}
use Rattle.nj_tools.specs.declared.sinks.SinkFault.{SinkFault}

-- the known state of a sink
pub record SinkState : Type 0 where
  -- the bytes that it took so far; `None` for a sink that does not report them
  pub taken : Option (List ℕ)
  -- how often it failed to take bytes; the count stays at its greatest value
  pub failures : ℕ
  -- whether it took a byte since it was made, or since it last failed
  pub took_since_failure : Bool

-- the sink took the given bytes after all that it took before, and did not fail
pub record Takes (old new : SinkState) (bytes : List ℕ) : Type 0 where
  pub taken : Appends old.taken new.taken bytes
  pub failures : new.failures ≡ old.failures
  pub took_since_failure : new.took_since_failure ≡ (not (is_empty bytes) || old.took_since_failure)

-- the sink took the given bytes, then failed once, and took nothing after that
pub record FailsAfter (old new : SinkState) (bytes : List ℕ) : Type 0 where
  pub taken : Appends old.taken new.taken bytes
  pub failures : new.failures ≡ min (old.failures + 1) (2 ^ 64 - 1)
  pub took_since_failure : new.took_since_failure ≡ false

-- the meaning of a result of `put`: an error, or 0 for a text that is not empty, is a failure
abbrev pub Puts : SinkState → SinkState → List ℕ → Result ℕ SinkFault → Type 0
Puts old new [] (Ok count) = (count ≡ 0) × Takes old new []
Puts old new (byte ∷ bytes) (Ok zero) = FailsAfter old new []
Puts old new (byte ∷ bytes) (Ok (suc more)) =
    (suc more ≤ length (byte ∷ bytes)) × Takes old new (take (suc more) (byte ∷ bytes))
Puts old new bytes (Err fault) = FailsAfter old new []

-- the sink took a proper prefix of the text, then failed once, and took nothing after that
abbrev pub FailsWithin : (old new : SinkState) → (text : List ℕ) → Type 0
FailsWithin old new text = (front : List ℕ) × ((rest : List ℕ) × (front ++ rest ≡ text) × (rest ≢ [])) × FailsAfter old new front

-- the meaning of the result of a whole write
abbrev pub Writes : SinkState → SinkState → List ℕ → Result Unit SinkFault → Type 0
Writes old new text (Ok done) = Takes old new text
Writes old new text (Err fault) = FailsWithin old new text
