-- The state of a source of files, and its changes by a reading.
use Rattle.std.specs.Prelude.{◌≡◌, ℕ, ◌-◌, ◌^◌, ◌<◌, ◌≤◌, Option, option_map, List, [], ◌∷◌, ◌++◌, IfSome, Result, Ok, Err}
use Rattle.std.specs.Global.{Vec}
use Rattle.std.specs.List.{AllByRecursion}
use Rattle.nj_scope.specs.Readings.{Reading}
use Rattle.nj_scope.specs.declared.source.SourceFault.{SourceFault}
use Rattle.nj_scope.specs.declared.source.SourceFault.TheVariants.{Io, OutOfMemory}

-- the state of a source, as far as it can be known
pub record SourceState : Type 0 where
  -- the readings so far, if the source reports them
  pub readings : Option (List Reading)
  -- how often a reading has failed
  pub failures : ℕ
  -- the result for each path that it declares: the bytes, or `None` if there is no file
  pub files : List ℕ → Option (Option (List ℕ))

-- a reading is as the source declares for the path, where it declares anything
abbrev pub IsAsGiven : SourceState → Reading → Type 0
IsAsGiven source r = IfSome (source.files r.path) (λ meant. r.bytes ≡ meant)

-- The given readings were made from the source: it reports exactly them after its earlier readings, they are as it
-- declared, and it declares the same of its files as before.
pub record HasRead (before after : SourceState) (readings : List Reading) : Type 0 where
  pub reported : after.readings ≡ option_map (λ rs. rs ++ readings) before.readings
  pub as_given : AllByRecursion (IsAsGiven before) readings
  pub files : (path : List ℕ) → after.files path ≡ before.files path

-- A count of failures rose, unless it was at its greatest, where it stays. It never falls.
pub record Rises (before after : ℕ) : Type 0 where
  pub above : before < 2 ^ 64 - 1 → before < after
  pub never_falls : before ≤ after

-- the bytes of a result
abbrev pub outcome_bytes : Option (Vec ℕ) → Option (List ℕ)
outcome_bytes outcome = option_map (λ v. v.items) outcome

-- A call of `read`: a result is one more reading, and a refusal is not a reading. Only `Io` is counted, each time.
abbrev pub ReadsPath : (before after : SourceState) → (path : List ℕ) → Result (Option (Vec ℕ)) SourceFault → Type 0
ReadsPath before after path (Ok outcome) =
    HasRead before after (record { path = path; bytes = outcome_bytes outcome } ∷ []) × (after.failures ≡ before.failures)
ReadsPath before after path (Err Io) = HasRead before after [] × Rises before.failures after.failures
ReadsPath before after path (Err OutOfMemory) = HasRead before after [] × (after.failures ≡ before.failures)
