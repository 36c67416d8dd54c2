-- The version of a dyndep file: its reading and its form.
use Rattle.std.proofs.Common.{arith, ◌≡◌, ℕ, Bool, true, false, cond, Result, Ok, Err, List, [], ◌∷◌}
use Rattle.std.proofs.Common.{refl}
use Rattle.std.proofs.Common.{sym, ap, subst, ◌∙◌, codes}
use Rattle.nj_text.specs.Numbers.{version_pair_of}
use Rattle.nj_text.specs.Lines.{Line, lines_after, Kind, CommentLine, TabLine, BlankLine, IndentedLine}
use Rattle.nj_text.specs.Lines.{PlainLine, kind_of}
use Rattle.nj_text.specs.Calls.{State, Between, Inside, without_comments}
use Rattle.nj_manifest.specs.declared.cause.SyntaxCause.TheVariants as cause
use Rattle.nj_manifest.specs.declared.cause.Wanted.TheVariants as wanted
use Rattle.nj_manifest.specs.Faults.{Fault, Placed}
use Rattle.nj_manifest.specs.LineSteps.{◌>>=◌, name_next}
use Rattle.nj_manifest.specs.Statements.{equals_value, lines_from}
use Rattle.nj_manifest.specs.Openings.{opening_by, opening}
use Rattle.nj_manifest.specs.Expansion.{expanded, no_values}
use Rattle.nj_manifest.specs.Dyndeps.{is_first_version, version_line, version_from, version_next}
use Rattle.nj_manifest.specs.DyndepVersions.{first_version, VersionLineForm, VersionForm, VersionsAreTheForms}
use Rattle.nj_manifest.proofs.Choices.{unless_missing, ended}
use Rattle.nj_manifest.proofs.Framing.{bind-ok}
use Rattle.nj_manifest.proofs.FormsKeys.{unless_missing-ok}
use Rattle.nj_manifest.proofs.FormsTokens.{name-form, name-read}
use Rattle.nj_manifest.proofs.FormsValues.{equals_value-form, equals_value-read}
use Rattle.nj_manifest.proofs.FormsLines.{keyword_of}
use Rattle.nj_manifest.proofs.DyndepEnds.{oks}

-- ---- the line

is_the_first : (v : ℕ × ℕ) → is_first_version v ≡ true → v ≡ first_version
is_the_first v h = grind arith

line-form : (l : Line) (ls : List Line) (s : State) → version_line (Inside l ls) ≡ Ok s
    → VersionLineForm l × (s ≡ Between (lines_after l ls))
unfolding version_line
line-form l ls s h =
    let name = bind-ok (name_next wanted.Statement (Inside l ls)) _ s h in
    let value = bind-ok (unless_missing _ _ (equals_value name.0.1)) _ s name.2 in
    let read = unless_missing-ok _ _ (equals_value name.0.1) value.0 value.1 in
    let k = unless_missing-ok _ _ (Ok value.0.1) s value.2 in
    let it = name-form wanted.Statement l ls l.units name.0 name.1 in
    let word = keyword_of (codes "ninja_dyndep_version") l.units it.0 name.0.0 it.1 read.0 in
    let is = equals_value-form l ls it.0 value.0.0 value.0.1 (ap equals_value (sym it.2) ∙ read.1) in (
      record {
        spot = word.spot;
        value = value.0.0;
        binding = record {
          after_name = it.0;
          after_sign = is.0;
          of_name = word.here;
          equals = is.1;
          of_value = is.2;
        };
        version = is_the_first (version_pair_of (expanded no_values value.0.0.parts)) k.0;
      },
      sym (oks k.1) ∙ is.3,
    )

line-read : (l : Line) (ls : List Line) → VersionLineForm l
    → version_line (Inside l ls) ≡ Ok (Between (lines_after l ls))
unfolding version_line
line-read l ls f =
    rw (
      name-read wanted.Statement l ls l.units f.binding.after_name _ f.binding.of_name,
      equals_value-read l ls f.binding.after_name f.binding.after_sign f.value f.binding.equals
          f.binding.of_value,
    ) (ap (λ (v : ℕ × ℕ). unless_missing (is_first_version v) (Placed f.spot cause.DyndepVersion)
    (Ok (Between (lines_after l ls)))) f.version)

-- ---- the lines

next_by_kind : (l : Line) (ls : List Line) (k : Kind) → kind_of l ≡ k
    → version_next (l ∷ ls) ≡ (opening_by k l ls (opening ls) >>= version_from)
unfolding version_next opening
next_by_kind l ls k h = ap (λ (k : Kind). opening_by k l ls (opening ls) >>= version_from) h

next_is : (ls : List Line) → version_next ls ≡ (opening ls >>= version_from)
unfolding version_next
next_is ls = refl

no_err : {A P : Type 0} {x : A} {f : Fault} → ◌≡◌ {A = Result A Fault} (Ok x) (Err f) → P
no_err e = absurd cc

no_lines : (rest : List Line) → version_next [] ≡ Ok rest → VersionForm [] rest
unfolding version_next opening
no_lines rest h = no_err (sym h)

next-form : (ls rest : List Line) → version_next ls ≡ Ok rest → VersionForm ls rest
next-form [] rest h = no_lines rest h
next-form (l ∷ ls) rest h = by_kind (kind_of l) refl (λ e. next-form ls rest (next_is ls ∙ e))
  where
    by_last : (t : Bool) (left : List Line) → l.is_last ≡ t
        → (cond t (ended left) (opening ls) >>= version_from) ≡ Ok rest
        → (l.is_last ≡ false) × ((opening ls >>= version_from) ≡ Ok rest)
    by_last true left e g = no_err (sym g)
    by_last false left e g = (e, g)

    by_kind : (k : Kind) → kind_of l ≡ k → ((opening ls >>= version_from) ≡ Ok rest → VersionForm ls rest)
        → VersionForm (l ∷ ls) rest
    by_kind CommentLine k others =
        let more = by_last l.is_last (lines_after l (without_comments ls)) refl
        (sym (next_by_kind l ls CommentLine k) ∙ h) in
        VersionForm.comment k more.0 (others more.1)
    by_kind (TabLine tab) k others = no_err (sym h ∙ next_by_kind l ls (TabLine tab) k)
    by_kind IndentedLine k others = no_err (sym h ∙ next_by_kind l ls IndentedLine k)
    by_kind BlankLine k others =
        let more = by_last l.is_last (lines_after l ls) refl (sym (next_by_kind l ls BlankLine k) ∙ h) in
        VersionForm.blank k more.0 (others more.1)
    by_kind PlainLine k others =
        let line = bind-ok (version_line (Inside l ls)) (λ end. Ok (lines_from end)) rest
        (sym (next_by_kind l ls PlainLine k) ∙ h) in
        let form = line-form l ls line.0 line.1 in
        subst (VersionForm (l ∷ ls)) (sym (ap lines_from form.1) ∙ oks line.2)
        (VersionForm.version {l = l} {ls = ls} k form.0)

next-read : {ls rest : List Line} → VersionForm ls rest → version_next ls ≡ Ok rest
next-read (VersionForm.version {l = l} {ls = ls} k f) = grind (
  arith,
  next_by_kind l ls PlainLine k,
  line-read l ls f,
)
next-read (VersionForm.blank {l = l} {ls = ls} k e others) = grind (
  arith,
  next_by_kind l ls BlankLine k,
  ended (lines_after l ls),
  next_is ls,
  next-read others,
)
next-read (VersionForm.comment {l = l} {ls = ls} k e others) = grind (
  arith,
  next_by_kind l ls CommentLine k,
  ended (lines_after l (without_comments ls)),
  next_is ls,
  next-read others,
)

pub versions_are : VersionsAreTheForms
versions_are ls rest = (λ h. next-form ls rest h, λ f. next-read f)
