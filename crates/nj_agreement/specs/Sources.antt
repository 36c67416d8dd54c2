-- What two sources have in common.
use Rattle.std.specs.Prelude.{◌≡◌, ℕ, true, is_some, List}
use Rattle.nj_scope.specs.Sources.{SourceState, Rises}
use Rattle.nj_discovered.specs.Times.{DeclaredTimes}

-- both sources of files declare their result at each path, and declare the same
pub record DeclareSame (one other : SourceState) : Type 0 where
  pub all : (path : List ℕ) → is_some (one.files path) ≡ true
  pub same : (path : List ℕ) → other.files path ≡ one.files path

-- a source of times declares its answer at each path
abbrev pub TellAll : DeclaredTimes → Type 0
TellAll times = (path : List ℕ) → is_some (times path) ≡ true

-- the property holds unless a source has failed in between
abbrev pub UnlessFails : (before after : SourceState) → Type 0 → Type 0
UnlessFails before after holds = ¬ Rises before.failures after.failures → holds
