-- One step on along a line: it passes, and the rest decides; or the line is stuck there.
use Rattle.std.proofs.Common.{◌≡◌, ℕ, Bool, true, false, Ok, List, [], ◌∷◌, ◌++◌, ap, ◌∙◌}
use Rattle.nj_text.specs.declared.sign.Sign.{Sign}
use Rattle.nj_text.specs.Units.{TextUnit}
use Rattle.nj_text.specs.Lines.{Line}
use Rattle.nj_text.specs.Words.{WordModel}
use Rattle.nj_text.specs.Calls.{State, Between, is_sign}
use Rattle.nj_manifest.specs.declared.cause.Wanted.{Wanted}
use Rattle.nj_manifest.specs.LineSteps.{Step, ◌>>=◌, NameModel, name_next, words_next, section_next}
use Rattle.nj_manifest.specs.Leftmost.{written, are_plain, offers_next}
use Rattle.nj_manifest.proofs.LeftmostRuns.{gap_of, gap_passes}
use Rattle.nj_manifest.proofs.LeftmostSteps.{at, text, fits-gap, after_name, after_words, Passes, Claim}
use Rattle.nj_manifest.proofs.LeftmostSteps.{Along, Outcome, stuck, stick, pass}
use Rattle.nj_manifest.proofs.LeftmostNames.{NamePasses, NameSeen, name_seen, name_skips}
use Rattle.nj_manifest.proofs.LeftmostNames as names
use Rattle.nj_manifest.proofs.LeftmostSigns.{IsSingle, SignSeen, sign_step, led_on, sign_seen, sign_skips}
use Rattle.nj_manifest.proofs.LeftmostSigns as signs
use Rattle.nj_manifest.proofs.LeftmostWords.{settled, one_more, WordsPass, WordsSeen, words_seen}
use Rattle.nj_manifest.proofs.LeftmostWords as words
use Rattle.nj_manifest.proofs.LeftmostSections.{IsMark, SectionRun, SectionPass, SectionSeen, section_seen}
use Rattle.nj_manifest.proofs.LeftmostSections.{absent, present, faulty, pass_words, pass_absent}
use Rattle.nj_manifest.proofs.LeftmostSections.{pass_present}
use Rattle.nj_text.specs.Bytes.{is_space, drop_while}

-- some text is read up to here, whatever lines follow
abbrev pub ReadTo : {B : Type 0} → (List Line → Step B) → Type 0
ReadTo {B = B} reading = (value : B) × ((ms : List Line) → reading ms ≡ Ok (value, Between ms))

module _ {B : Type 0} {P : Claim B} {whole : List TextUnit} (e : Line) where
  pub name_turn : {t : List TextUnit → Bool} {us : List TextUnit} (want : Wanted) (k : State → Step B)
      (g : NameModel × State → Step B) → ((s : State) → k s ≡ (name_next want s >>= g)) → Along P whole k t us
      → (tail : List ℕ) → are_plain tail ≡ true → offers_next want (drop_while is_space tail) ≡ true
      → t (text tail) ≡ true
      → ReadTo (λ ms. name_next want (at (text tail) (written []) ms) >>= g)
      → ((n : NamePasses want t us e) → Along P whole (λ s. g (n.passes.value, s)) after_name n.passes.left
      → Outcome P whole e) → Outcome P whole e
  name_turn {t = t} {us = us} want k g so a tail plain offered fit done next = by_name (name_seen want t us e)
    where
      by_name : NameSeen want t us e → Outcome P whole e
      by_name (names.there n) = next n (pass k (name_next want) g so a n.passes)
      by_name (names.missing fault of n) = stuck fault
          (stick k (name_next want) g so a n tail plain (of tail offered) done.0
          (fits-gap t us (text tail) fit)
          (λ ms. so (at (gap_of us ++ text tail) (written []) ms)
          ∙ (ap (λ r. r >>= g) (name_skips want (gap_of us) (text tail) (written []) ms (gap_passes us))
          ∙ done.1 ms)))

  pub sign_turn : {t : List TextUnit → Bool} {us : List TextUnit} (want : Sign) (miss : Wanted)
      (t' : List TextUnit → Bool) → IsSingle want → (k : State → Step B) (g : Bool × State → Step B)
      → ((s : State) → k s ≡ (sign_step want miss s >>= g)) → Along P whole k t us
      → (tail : List ℕ) → are_plain tail ≡ true → offers_next miss (drop_while is_space tail) ≡ true
      → t (text tail) ≡ true → ReadTo (λ ms. sign_step want miss (at (text tail) (written []) ms) >>= g)
      → ((p : Passes (sign_step want miss) t t' us) → Along P whole (λ s. g (p.value, s)) t' p.left
      → Outcome P whole e) → Outcome P whole e
  sign_turn {t = t} {us = us} want miss t' single k g so a tail plain offered fit done next =
      by_sign (sign_seen want miss t t' us e single)
    where
      by_sign : SignSeen want miss t t' us e → Outcome P whole e
      by_sign (signs.there p) = next p (pass k (sign_step want miss) g so a p)
      by_sign (signs.missing fault of n) = stuck fault
          (stick k (sign_step want miss) g so a n tail plain (of tail offered) done.0
          (fits-gap t us (text tail) fit)
          (λ ms. so (at (gap_of us ++ text tail) (written []) ms)
          ∙ (ap (λ r. led_on r >>= g) (sign_skips want miss (gap_of us) (text tail) (written []) ms
          (gap_passes us)) ∙ done.1 ms)))

  pub words_turn : {t : List TextUnit → Bool} {us : List TextUnit} (k : State → Step B)
      (g : List WordModel × State → Step B) → ((s : State) → k s ≡ (words_next s >>= g))
      → Along P whole k t us → ((x : List TextUnit) → after_words x ≡ true → t x ≡ true)
      → (tail : List ℕ) → are_plain tail ≡ true → settled (text tail) ≡ true → t (one_more (text tail)) ≡ true
      → ((w : WordModel) (ws : List WordModel) → ReadTo (λ ms. g (w ∷ ws, at (text tail) (written []) ms)))
      → ((n : WordsPass us) → Along P whole (λ s. g (n.value, s)) after_words n.run.left → Outcome P whole e)
      → Outcome P whole e
  words_turn {t = t} {us = us} k g so a more tail plain ends fit done next = by_words (words_seen us e)
    where
      by_words : WordsSeen us e → Outcome P whole e
      by_words (words.there n) = next n (pass k words_next g so a (pass_words t us more n))
      by_words (words.broken fault of run n) =
          let d = done run.word run.words in
          stuck fault (stick k words_next g so a n (32 ∷ 120 ∷ tail) plain (of (32 ∷ 120 ∷ tail)) d.0
          (run.fits t (one_more (text tail)) fit)
          (λ ms. so (at (run.used ++ one_more (text tail)) (written []) ms)
          ∙ (ap (λ r. r >>= g) (run.more (text tail) (written []) ms ends) ∙ d.1 ms)))

  pub section_turn : {us : List TextUnit} (want : Sign) → IsMark want
      → (k : State → Step B) (g : List WordModel × State → Step B)
      → ((s : State) → k s ≡ (section_next want s >>= g)) → Along P whole k after_words us → settled us ≡ true
      → (tail : List ℕ) → are_plain tail ≡ true → settled (text tail) ≡ true
      → ((w : WordModel) (ws : List WordModel) → ReadTo (λ ms. g (w ∷ ws, at (text tail) (written []) ms)))
      → (is_sign want us ≡ false → Along P whole (λ s. g ([], s)) after_words us → Outcome P whole e)
      → ((run : SectionRun want us) (n : SectionPass want us run)
      → Along P whole (λ s. g (n.value, s)) after_words run.left → Outcome P whole e) → Outcome P whole e
  section_turn {us = us} want is k g so a here tail plain ends done without with =
      by_section (section_seen want us e is here)
    where
      by_section : SectionSeen want us e → Outcome P whole e
      by_section (absent none) = without none
          (pass k (section_next want) g so a (pass_absent want us is here none))
      by_section (present run n) = with run n (pass k (section_next want) g so a (pass_present want us run n))
      by_section (faulty fault of run n) =
          let d = done run.word run.words in
          stuck fault (stick k (section_next want) g so a n (32 ∷ 120 ∷ tail) plain (of (32 ∷ 120 ∷ tail)) d.0
          (run.fits (text tail))
          (λ ms. so (at (run.used ++ one_more (text tail)) (written []) ms)
          ∙ (ap (λ r. r >>= g) (run.more (text tail) (written []) ms ends) ∙ d.1 ms)))
