-- Changed paths that are ignored, by globs.
use Rattle.std.specs.Prelude.{◌≡◌, ◌≢◌, ℕ, Some, List, [], ◌∷◌, Contains, slice_get, take}
use Rattle.std.specs.List.{All, AllZip}
use Rattle.nj_globs.specs.Globs.{GlobPart, Matches}
use Rattle.nj_globs.specs.Patterns.{ArePartsOf, IsGlobFault}
use Rattle.nj_globs.specs.declared.glob_fault.GlobFault.{GlobFault}
use Rattle.nj_globs.specs.declared.glob_fault.GlobFault.TheVariants.{OutOfMemory}
use Rattle.nj_changes.specs.declared.ignored.PatternFault.{PatternFault}
use Rattle.nj_changes.specs.declared.ignored.PatternFault.TheVariants as refusal

-- ---- the globs of patterns

-- the globs are those that the patterns write, one each
abbrev pub AreGlobsOf : (patterns : List (List ℕ)) → (globs : List (List GlobPart)) → Type 0
AreGlobsOf patterns globs = AllZip ArePartsOf patterns globs

-- a pattern writes a glob
abbrev pub IsGlob : (pattern : List ℕ) → Type 0
IsGlob pattern = (parts : List GlobPart) × ArePartsOf pattern parts

-- the first of the given patterns that is not a glob, and why
pub record IsFirstWrong (patterns : List (List ℕ)) (pattern : List ℕ) (fault : GlobFault) : Type 0 where
  pub index : ℕ
  pub at : slice_get patterns index ≡ Some pattern
  pub is_fault : IsGlobFault pattern fault
  pub no_glob : fault ≢ OutOfMemory
  pub others : All IsGlob (take index patterns)

-- why patterns have no globs, unless memory ran out
abbrev pub IsPatternFault : (patterns : List (List ℕ)) → PatternFault → Type 0
IsPatternFault patterns (refusal.Wrong pattern fault) = IsFirstWrong patterns pattern.now fault
IsPatternFault patterns refusal.OutOfMemory = Unit {0}

-- ---- the paths that are left

-- one of the globs matches a path
abbrev pub MatchesOne : (globs : List (List GlobPart)) → (path : List ℕ) → Type 0
MatchesOne globs path = (glob : List GlobPart) × Contains globs glob × Matches glob path

-- the paths that none of the globs matches, in their order
pub data AreLeft (globs : List (List GlobPart)) : (paths left : List (List ℕ)) → Type 0 where
  none : AreLeft globs [] []
  ignored : {path : List ℕ} {paths left : List (List ℕ)} → MatchesOne globs path → AreLeft globs paths left
      → AreLeft globs (path ∷ paths) left
  kept : {path : List ℕ} {paths left : List (List ℕ)} → ¬ MatchesOne globs path → AreLeft globs paths left
      → AreLeft globs (path ∷ paths) (path ∷ left)
