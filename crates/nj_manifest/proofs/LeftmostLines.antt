-- A line of a block, after its spaces: it is read to its end, or stuck at its first fault.
use Rattle.std.proofs.Common.{arith, ◌≡◌, ℕ, Bool, true, false, Ok, Err, List, [], ◌++◌, refl, ap, ◌∙◌, codes}
use Rattle.nj_text.specs.Units.{TextUnit}
use Rattle.nj_text.specs.Lines.{Line}
use Rattle.nj_text.specs.Words.{WordModel}
use Rattle.nj_text.specs.Calls.{State}
use Rattle.nj_manifest.specs.declared.cause.SyntaxCause.TheVariants as cause
use Rattle.nj_manifest.specs.declared.cause.Wanted.TheVariants as wanted
use Rattle.nj_manifest.specs.declared.block_lines.Keys.{Keys}
use Rattle.nj_manifest.specs.declared.block_lines.Keys.TheVariants as keys
use Rattle.nj_manifest.specs.Faults.{Placed}
use Rattle.nj_manifest.specs.LineSteps.{Step, ◌>>=◌, NameModel, name_next, expect_sign}
use Rattle.nj_manifest.specs.Statements.{LineModel, allows, equals_value, line_next}
use Rattle.nj_manifest.specs.Leftmost.{written, are_plain, offers_next}
use Rattle.nj_manifest.proofs.Choices.{if_allowed}
use Rattle.nj_manifest.proofs.LeftmostRuns.{skip, gap_of, gap_passes, gap_cut}
use Rattle.nj_manifest.proofs.LeftmostSteps.{at, text, fits-gap, after_name, FailsAt, Claim, Along, Outcome}
use Rattle.nj_manifest.proofs.LeftmostSteps.{stuck, stick}
use Rattle.nj_manifest.proofs.LeftmostNames.{NamePasses, name_skips}
use Rattle.nj_manifest.proofs.LeftmostTurns.{ReadTo, name_turn}
use Rattle.nj_manifest.proofs.LeftmostValues.{value_turn}
use Rattle.nj_manifest.proofs.LeftmostBuilds.{itself}
use Rattle.nj_manifest.proofs.LeftmostHeads.{starts}
use Rattle.nj_text.specs.Bytes.{is_space, drop_while}

abbrev line_of : NameModel → WordModel → LineModel
line_of key value = record { spot = key.spot; name = key.name; value = value }

abbrev valued : NameModel → WordModel × State → Step LineModel
valued key v = Ok (line_of key v.0, v.1)

abbrev keyed : Keys → NameModel × State → Step LineModel
keyed allowed key = if_allowed (allows allowed key.0.name) key.0 (equals_value key.1) >>= valued key.0

line_is : (allowed : Keys) (s : State) → line_next allowed s
    ≡ (name_next wanted.VariableName s >>= keyed allowed)
unfolding line_next
line_is allowed s = refl

-- a line that each block of the kind accepts
abbrev pub key_bytes : Keys → List ℕ
key_bytes keys.OfRule = codes "command=x"
key_bytes keys.OfPool = codes "depth=x"
key_bytes keys.All = codes "a=x"

reads_key : (allowed : Keys) → ReadTo (λ ms. name_next wanted.VariableName
    (at (text (key_bytes allowed)) (written []) ms) >>= keyed allowed)
unfolding name_next equals_value expect_sign
reads_key keys.OfRule = (_, λ ms. refl)
reads_key keys.OfPool = (_, λ ms. refl)
reads_key keys.All = (_, λ ms. refl)

pub key_line : (allowed : Keys) → ReadTo
    (λ ms. line_next allowed (at (text (key_bytes allowed)) (written []) ms))
key_line allowed = (
  (reads_key allowed).0,
  λ ms. line_is allowed (at (text (key_bytes allowed)) (written []) ms) ∙ (reads_key allowed).1 ms,
)

pub key_plain : (allowed : Keys) → are_plain (key_bytes allowed) ≡ true
key_plain allowed = grind arith

pub key_offers : (allowed : Keys) → offers_next wanted.VariableName (drop_while is_space (key_bytes allowed))
    ≡ true
key_offers allowed = grind arith

pub key_starts : (allowed : Keys) → starts (text (key_bytes allowed)) ≡ true
key_starts allowed = grind arith

module _ (allowed : Keys) (us : List TextUnit) (e : Line) (n : NamePasses wanted.VariableName starts us e)
  where
    unknown_reads : (x : List TextUnit) (d : Line) (ms : List Line)
        → allows allowed n.passes.value.name ≡ false
        → (s : State) → name_next wanted.VariableName (at x d ms) ≡ Ok (n.passes.value, s)
        → line_next allowed (at x d ms) ≡ Err
        (Placed n.passes.value.spot (cause.UnknownKey n.passes.value.name))
    unknown_reads x d ms h s r =
        line_is allowed (at x d ms) ∙ (ap (λ y. y >>= keyed allowed) r
        ∙ ap (λ (t : Bool). if_allowed t n.passes.value (equals_value s) >>= valued n.passes.value) h)

    -- a key that the block has not
    unknown_key : allows allowed n.passes.value.name ≡ false
        → FailsAt (line_next allowed) us e (Placed n.passes.value.spot (cause.UnknownKey n.passes.value.name))
        (gap_of us) (skip us)
    unknown_key h = record {
      cut = gap_cut us;
      place = n.spot;
      fails = λ ms.
          let a = n.again (skip us) e ms refl in
          ap (λ (y : List TextUnit). line_next allowed (at y e ms)) (gap_cut us)
          ∙ unknown_reads (gap_of us ++ skip us) e ms h a.0 a.1;
      refuses = λ x d ms same.
          let a = n.again x d ms same in
          (unknown_reads (gap_of us ++ x) d ms h a.0 a.1);
    }

pub line_turn : {P : Claim LineModel} {whole : List TextUnit} (e : Line) (allowed : Keys) (us : List TextUnit)
    → Along P whole (line_next allowed) starts us → Outcome P whole e
line_turn {P = P} {whole = whole} e allowed us a =
    name_turn e wanted.VariableName (line_next allowed) (keyed allowed) (line_is allowed) a
    (key_bytes allowed) (key_plain allowed) (key_offers allowed) (key_starts allowed) (reads_key allowed)
    (λ n b. by_allowed n (allows allowed n.passes.value.name) refl b)
  where
    by_allowed : (n : NamePasses wanted.VariableName starts us e) (t : Bool)
        → allows allowed n.passes.value.name ≡ t
        → Along P whole (λ s. keyed allowed (n.passes.value, s)) after_name n.passes.left → Outcome P whole e
    by_allowed n true h b = value_turn e (line_of n.passes.value) (λ s. keyed allowed (n.passes.value, s))
        (λ s. ap (λ (t : Bool). if_allowed t n.passes.value (equals_value s) >>= valued n.passes.value) h) b
    by_allowed n false h b =
        let d = reads_key allowed in
        stuck _ (stick (line_next allowed) (line_next allowed) (λ x. Ok x) (λ s. itself (line_next allowed s))
        a (unknown_key allowed us e n h) (key_bytes allowed) (key_plain allowed) refl d.0
        (fits-gap starts us (text (key_bytes allowed)) (key_starts allowed))
        (λ ms. line_is allowed (at (gap_of us ++ text (key_bytes allowed)) (written []) ms)
        ∙ (ap (λ r. r >>= keyed allowed) (name_skips wanted.VariableName (gap_of us)
        (text (key_bytes allowed)) (written []) ms (gap_passes us)) ∙ (reads_key allowed).1 ms)))
