-- The form of the version with which a dyndep file begins, and the law that exactly this is read.
use Rattle.std.specs.Prelude.{◌≡◌, ℕ, false, Ok, List, ◌∷◌, codes, ◌↔◌}
use Rattle.nj_text.specs.declared.spot.Spot.{Spot}
use Rattle.nj_text.specs.Numbers.{version_pair_of}
use Rattle.nj_text.specs.Lines.{Line, lines_after, CommentLine, BlankLine, PlainLine, kind_of}
use Rattle.nj_text.specs.Words.{WordModel}
use Rattle.nj_manifest.specs.Expansion.{expanded, no_values}
use Rattle.nj_manifest.specs.Grammar.{BindingForm}
use Rattle.nj_manifest.specs.Dyndeps.{version_next}

-- major 1 and minor 0
abbrev pub first_version : ℕ × ℕ
first_version = (1, 0)

-- `ninja_dyndep_version = VALUE`, where the value begins with the first version
pub record VersionLineForm (l : Line) : Type 0 where
  pub spot : Spot
  pub value : WordModel
  pub binding : BindingForm l.units l.end (record { spot = spot; name = codes "ninja_dyndep_version" }) value
  pub version : version_pair_of (expanded no_values value.parts) ≡ first_version

-- The version of some lines, and the lines after it. Comments and blank lines are skipped.
pub data VersionForm : List Line → (rest : List Line) → Type 0 where
  version : {l : Line} {ls : List Line} → kind_of l ≡ PlainLine → VersionLineForm l → VersionForm (l ∷ ls) (lines_after l ls)
  blank : {l : Line} {ls rest : List Line} → kind_of l ≡ BlankLine → l.is_last ≡ false → VersionForm ls rest → VersionForm (l ∷ ls) rest
  comment : {l : Line} {ls rest : List Line} → kind_of l ≡ CommentLine → l.is_last ≡ false → VersionForm ls rest
      → VersionForm (l ∷ ls) rest

-- The version is read from lines exactly where the form allows it.
abbrev pub VersionsAreTheForms : Type 0
VersionsAreTheForms = (ls rest : List Line) → (version_next ls ≡ Ok rest) ↔ VersionForm ls rest
