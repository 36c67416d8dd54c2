-- The line of an entry: it is read to its end, or stuck at its first fault.
use Rattle.std.proofs.Common.{◌≡◌, Bool, true, Ok, Err, inl, inr, List, [], ◌∷◌, ◌++◌, refl, sym, ap, subst}
use Rattle.std.proofs.Common.{◌∙◌, codes}
use Rattle.nj_text.specs.declared.sign.Sign.TheVariants as sign
use Rattle.nj_text.specs.Units.{TextUnit}
use Rattle.nj_text.specs.Lines.{Line, PlainLine, kind_of}
use Rattle.nj_text.specs.Words.{WordModel}
use Rattle.nj_text.specs.Calls.{State}
use Rattle.nj_manifest.specs.declared.cause.Wanted.TheVariants as wanted
use Rattle.nj_manifest.specs.LineSteps.{Step, ◌>>=◌, name_next, expect_sign, section_next}
use Rattle.nj_manifest.specs.Leftmost.{written}
use Rattle.nj_manifest.specs.Dyndeps.{EntryModel, entry_line}
use Rattle.nj_manifest.specs.DyndepLeftmost.{are_apart}
use Rattle.nj_manifest.proofs.LeftmostRuns.{skip}
use Rattle.nj_manifest.proofs.LeftmostSteps.{at, text, Fits, after_name, after_words, Claim, Along, begin}
use Rattle.nj_manifest.proofs.LeftmostSteps.{Outcome, stuck, stick, pass}
use Rattle.nj_manifest.proofs.LeftmostSigns.{sign_step, colon_single, finish}
use Rattle.nj_manifest.proofs.LeftmostWords.{settled}
use Rattle.nj_manifest.proofs.LeftmostSections.{is_pipe, is_pipe2, is_pipe_at}
use Rattle.nj_manifest.proofs.LeftmostBuilds.{words_after_name}
use Rattle.nj_manifest.proofs.LeftmostHeads.{starts}
use Rattle.nj_manifest.proofs.LeftmostKinds.{kind_units, plain_same, identifier_plain}
use Rattle.nj_manifest.proofs.LeftmostTurns.{ReadTo, sign_turn, section_turn}
use Rattle.nj_manifest.proofs.DyndepLeftmostMarks.{reported, this_word, path_step, bar_step, output_word}
use Rattle.nj_manifest.proofs.DyndepLeftmostMarks.{at_end, at_second_bar, at_first_bar, entry_of, with_ins}
use Rattle.nj_manifest.proofs.DyndepLeftmostMarks.{at_ins, at_inputs, at_rule, with_outs, at_outs}
use Rattle.nj_manifest.proofs.DyndepLeftmostMarks.{with_output, at_output, entry_marked, entry-reported}
use Rattle.nj_manifest.proofs.DyndepLeftmostOutputs.{OutputSeen, reads_on, ends_here, output_seen}
use Rattle.nj_manifest.proofs.DyndepLeftmostOutputs.{after_output}
use Rattle.nj_manifest.proofs.DyndepLeftmostPaths.{apart_after, clear_step, path_is_clear, path_is_passed}
use Rattle.nj_manifest.proofs.DyndepLeftmostPaths.{clear_turn, bar_turn, word_turn}

-- the requirement on a line so that reading it reads an entry: if it fails, its units are apart
abbrev pub Seen : Step EntryModel → List TextUnit → Type 0
Seen (Ok y) us = Unit {0}
Seen (Err f) us = are_apart us ≡ true

-- the property of the line of an entry
abbrev pub EntryPlain : Claim EntryModel
EntryPlain x e ms r = (kind_units x ≡ PlainLine) × (Seen r x → entry_line (at x e ms) ≡ reported r)

-- There is no path here, whatever becomes of a path that is here.
module _ (k : State → Step EntryModel) (g : Bool × State → Step EntryModel)
    (so : (s : State) → k s ≡ (path_step s >>= g)) (begun x : List TextUnit) (d : Line) (ms : List Line)
    (meant : EntryPlain (begun ++ x) d ms (k (at x d ms))) where
  given_as : (c : Step Bool) → path_step (at x d ms) ≡ c → EntryPlain (begun ++ x) d ms (c >>= g)
  given_as c h = subst (λ (r : Step EntryModel). EntryPlain (begun ++ x) d ms r)
      (so (at x d ms) ∙ ap (λ (r : Step Bool). r >>= g) h) meant

  by_clear : (c : Step Bool) → clear_step (at x d ms) ≡ c → EntryPlain (begun ++ x) d ms (c >>= g)
  by_clear (Ok y) h = given_as (Ok y) (path_is_passed x d ms y h)
  by_clear (Err f) h = (
    meant.0,
    λ apart.
        (given_as (Err f) (path_is_clear x d ms (apart_after begun x apart) ∙ h)).1 apart,
  )

along-clear : {whole : List TextUnit} {t : List TextUnit → Bool} {us : List TextUnit}
    (k : State → Step EntryModel) (g : Bool × State → Step EntryModel)
    → ((s : State) → k s ≡ (path_step s >>= g)) → Along EntryPlain whole k t us
    → Along EntryPlain whole (λ s. clear_step s >>= g) t us
along-clear k g so a = record {
  begun = a.begun;
  cut = a.cut;
  goes =
      λ x d ms fit. by_clear k g so a.begun x d ms (a.goes x d ms fit) (clear_step (at x d ms)) refl;
}

-- ---- strings that complete a line begun

abbrev nowhere : List Line → State
nowhere ms = at [] (written []) ms

ends_second_bar : (entry : EntryModel) → ReadTo
    (λ ms. bar_step sign.PipeAt (nowhere ms) >>= λ b. at_end entry b.1)
unfolding expect_sign
ends_second_bar entry = (entry, λ ms. refl)

ends_first_bar : (entry : EntryModel) → ReadTo
    (λ ms. bar_step sign.Pipe2 (nowhere ms) >>= λ b. at_second_bar entry b.1)
unfolding expect_sign
ends_first_bar entry = (entry, λ ms. refl)

ends_ins : (out : WordModel) (outs : List WordModel) (w : WordModel) (ws : List WordModel)
    → ReadTo (λ ms. with_ins out outs (w ∷ ws, nowhere ms))
unfolding expect_sign
ends_ins out outs w ws = (entry_of out outs (w ∷ ws), λ ms. refl)

ends_inputs : (out : WordModel) (outs : List WordModel)
    → ReadTo (λ ms. clear_step (nowhere ms) >>= λ c. at_ins out outs c.1)
unfolding section_next expect_sign
ends_inputs out outs = (entry_of out outs [], λ ms. refl)

-- ` dyndep`
ends_rule : (out : WordModel) (outs : List WordModel)
    → ReadTo (λ ms. name_next wanted.CommandName (at (text (codes " dyndep")) (written []) ms) >>=
    this_word (codes "dyndep") (at_inputs out outs))
unfolding name_next section_next expect_sign
ends_rule out outs = (entry_of out outs [], λ ms. refl)

-- `:dyndep`
ends_colon : (out : WordModel) (outs : List WordModel)
    → ReadTo (λ ms. sign_step sign.Colon wanted.Colon (at (text after_output) (written []) ms) >>=
    λ c. at_rule out outs c.1)
unfolding name_next section_next expect_sign
ends_colon out outs = (entry_of out outs [], λ ms. refl)

ends_outs : (out : WordModel) (w : WordModel) (ws : List WordModel)
    → ReadTo (λ ms. with_outs out (w ∷ ws, at (text after_output) (written []) ms))
unfolding name_next section_next expect_sign
ends_outs out w ws = (entry_of out (w ∷ ws) [], λ ms. refl)

ends_output : (out : WordModel) → ReadTo
    (λ ms. clear_step (at (text after_output) (written []) ms) >>= λ c. at_outs out c.1)
unfolding name_next section_next expect_sign
ends_output out = (entry_of out [] [], λ ms. refl)

ends_word : (out : WordModel) → ReadTo (λ ms. with_output (out, at (text after_output) (written []) ms))
unfolding name_next section_next expect_sign
ends_word out = (entry_of out [] [], λ ms. refl)

-- `build x:dyndep`
ends_entry : ReadTo (λ ms. name_next wanted.Statement (at (text (codes "build x:dyndep")) (written []) ms) >>=
    this_word (codes "build") at_output)
unfolding name_next section_next expect_sign
ends_entry = (_, λ ms. refl)

-- ---- along the line

module _ {whole : List TextUnit} (e : Line) where
  inputs_turn : (out : WordModel) (outs : List WordModel) (us : List TextUnit)
      → Along EntryPlain whole (at_inputs out outs) after_name us → Outcome EntryPlain whole e
  inputs_turn out outs us a =
      clear_turn e (λ s. clear_step s >>= λ c. at_ins out outs c.1) (λ c. at_ins out outs c.1) (λ s. refl)
      (along-clear (at_inputs out outs) (λ c. at_ins out outs c.1) (λ s. refl) a) words_after_name [] refl
      refl (ends_inputs out outs) (λ h b. with_section (skip us) h b)
    where
      bars : (entry : EntryModel) (left : List TextUnit) → settled left ≡ true
          → Along EntryPlain whole (at_first_bar entry) after_words left → Outcome EntryPlain whole e
      bars entry left h b =
          bar_turn e sign.Pipe2 is_pipe2 refl (at_first_bar entry) (λ c. at_second_bar entry c.1) (λ s. refl)
          b h (ends_first_bar entry) (λ c.
          bar_turn e sign.PipeAt is_pipe_at refl (at_second_bar entry) (λ c. at_end entry c.1) (λ s. refl) c h
          (ends_second_bar entry) (λ d.
          finish (at_end entry) entry e (λ s. refl) d refl))

      with_section : (left : List TextUnit) → settled left ≡ true
          → Along EntryPlain whole (at_ins out outs) after_words left → Outcome EntryPlain whole e
      with_section left h b =
          section_turn e sign.Pipe is_pipe (at_ins out outs) (with_ins out outs) (λ s. refl) b h [] refl refl
          (ends_ins out outs)
          (λ none c. bars (entry_of out outs []) left h c)
          (λ run n c. bars (entry_of out outs n.value) run.left n.stops c)

  colon_turn : (out : WordModel) (outs : List WordModel) (us : List TextUnit)
      → Along EntryPlain whole (λ s. with_outs out (outs, s)) after_words us → Outcome EntryPlain whole e
  colon_turn out outs us a =
      sign_turn e sign.Colon wanted.Colon after_name colon_single (λ s. with_outs out (outs, s))
      (λ c. at_rule out outs c.1) (λ s. refl) a after_output refl refl refl (ends_colon out outs) (λ p b.
      word_turn e (codes "dyndep") wanted.CommandName (at_rule out outs) (at_inputs out outs) (λ s. refl) b
      (codes " dyndep") refl refl refl (ends_rule out outs) (λ n c. inputs_turn out outs n.passes.left c))

  outs_turn : (out : WordModel) (us : List TextUnit) → settled us ≡ true
      → Along EntryPlain whole (at_outs out) after_words us → Outcome EntryPlain whole e
  outs_turn out us h a =
      section_turn e sign.Pipe is_pipe (at_outs out) (with_outs out) (λ s. refl) a h after_output refl refl
      (ends_outs out) (λ none b. colon_turn out [] us b) (λ run n b. colon_turn out n.value run.left b)

  output_turn : (us : List TextUnit) → Along EntryPlain whole at_output after_name us
      → Outcome EntryPlain whole e
  output_turn us a = by_output (output_seen us e)
    where
      remainder : (out : WordModel) (left : List TextUnit)
          → Along EntryPlain whole (λ s. with_output (out, s)) after_words left → Outcome EntryPlain whole e
      remainder out left b =
          clear_turn e (λ s. clear_step s >>= λ c. at_outs out c.1) (λ c. at_outs out c.1) (λ s. refl)
          (along-clear (λ s. with_output (out, s)) (λ c. at_outs out c.1) (λ s. refl) b) (λ x h. h)
          after_output refl refl (ends_output out) (λ h c. outs_turn out (skip left) h c)

      by_output : OutputSeen us e → Outcome EntryPlain whole e
      by_output (reads_on p) = remainder p.value p.left
          (pass at_output output_word with_output (λ s. refl) a p)
      by_output (ends_here fault n) =
          let d = ends_word n.word in
          stuck fault (stick at_output output_word with_output (λ s. refl) a n.here n.bytes n.plain n.offered
          d.0 n.fits (λ ms. ap (λ r. r >>= with_output) (n.reads (written []) ms) ∙ d.1 ms))

  entry_turn : (us : List TextUnit) → Along EntryPlain whole entry_marked starts us
      → Outcome EntryPlain whole e
  entry_turn us a = word_turn e (codes "build") wanted.Statement entry_marked at_output (λ s. refl) a
      (codes "build x:dyndep") refl refl refl ends_entry (λ n b. output_turn n.passes.left b)

pub entry_outcome : (l : Line) → kind_of l ≡ PlainLine → Outcome EntryPlain l.units l
entry_outcome l h = entry_turn l l.units (begin EntryPlain entry_marked starts l.units by_fit)
  where
    by_fit : (x : List TextUnit) (e : Line) (ms : List Line) → Fits starts l.units x
        → EntryPlain x e ms (entry_marked (at x e ms))
    by_fit x e ms (inl f) = (identifier_plain x f, λ seen. sym (entry-reported (at x e ms)))
    by_fit x e ms (inr f) = (plain_same l.units x h f, λ seen. sym (entry-reported (at x e ms)))
