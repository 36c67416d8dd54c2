-- The first line of a build statement: it is read to its end, or stuck at its first fault.
use Rattle.std.proofs.Common.{arith, ◌≡◌, Bool, true, false, ◌&&◌, Result, Ok, Err, inr, List, [], ◌∷◌, ◌++◌}
use Rattle.std.proofs.Common.{refl}
use Rattle.std.proofs.Common.{ap, subst, ◌∙◌}
use Rattle.nj_text.specs.declared.sign.Sign.TheVariants as sign
use Rattle.nj_text.specs.Units.{TextUnit, first_spot}
use Rattle.nj_text.specs.Lines.{Line, spot_of_first}
use Rattle.nj_text.specs.Words.{WordModel}
use Rattle.nj_text.specs.Calls.{State, is_empty, is_sign}
use Rattle.nj_manifest.specs.declared.cause.SyntaxCause.TheVariants as cause
use Rattle.nj_manifest.specs.declared.cause.Wanted.TheVariants as wanted
use Rattle.nj_manifest.specs.Faults.{Fault, Placed}
use Rattle.nj_manifest.specs.LineSteps.{Step, ◌>>=◌, NameModel, name_next, expect_sign, words_within}
use Rattle.nj_manifest.specs.LineSteps.{words_next, section_next}
use Rattle.nj_manifest.specs.Statements.{OutputsModel, InputsModel, outputs_next, inputs_next}
use Rattle.nj_manifest.specs.Leftmost.{written}
use Rattle.nj_manifest.specs.Grammar.{HeadModel, BuildHead}
use Rattle.nj_manifest.specs.Inside.Heads.{build_head}
use Rattle.nj_manifest.proofs.Choices.{unless_none}
use Rattle.nj_manifest.proofs.LeftmostFronts.{sign-same, element-front}
use Rattle.nj_manifest.proofs.LeftmostSteps.{at, text, Fits, is_separator, is_colon, colon_is, opens-more}
use Rattle.nj_manifest.proofs.LeftmostSteps.{after_name, after_words, FailsAt, Claim, Along, Outcome, stuck}
use Rattle.nj_manifest.proofs.LeftmostSteps.{stick, bind-bind}
use Rattle.nj_manifest.proofs.LeftmostSigns.{sign_step, led_on, ending, colon_single, finish}
use Rattle.nj_manifest.proofs.LeftmostWords.{settled, settled_same, one_more, WordsPass}
use Rattle.nj_manifest.proofs.LeftmostSections.{is_pipe, is_pipe2, is_pipe_at, SectionRun, SectionPass}
use Rattle.nj_manifest.proofs.LeftmostSections.{section_none}
use Rattle.nj_manifest.proofs.LeftmostTurns.{ReadTo, name_turn, sign_turn, words_turn, section_turn}

-- ---- a build statement in steps

abbrev inputs_of : (explicit implicit order_only validations : List WordModel) → InputsModel
inputs_of e i o v = record { explicit = e; implicit = i; order_only = o; validations = v }

abbrev ended : OutputsModel → NameModel → InputsModel → State → Step HeadModel
ended outs rule ins s = ending (BuildHead outs rule ins) (expect_sign sign.LineEnd wanted.Newline s)

abbrev with_validations : OutputsModel → NameModel → (e i o : List WordModel) → List WordModel × State
    → Step HeadModel
with_validations outs rule e i o v = ended outs rule (inputs_of e i o v.0) v.1

abbrev with_order : OutputsModel → NameModel → (e i : List WordModel) → List WordModel × State
    → Step HeadModel
with_order outs rule e i o = section_next sign.PipeAt o.1 >>= with_validations outs rule e i o.0

abbrev with_implicit : OutputsModel → NameModel → (e : List WordModel) → List WordModel × State
    → Step HeadModel
with_implicit outs rule e i = section_next sign.Pipe2 i.1 >>= with_order outs rule e i.0

abbrev with_explicit : OutputsModel → NameModel → List WordModel × State → Step HeadModel
with_explicit outs rule e = section_next sign.Pipe e.1 >>= with_implicit outs rule e.0

abbrev with_rule : OutputsModel → NameModel × State → Step HeadModel
with_rule outs r = words_next r.1 >>= with_explicit outs r.0

abbrev with_colon : OutputsModel → Bool × State → Step HeadModel
with_colon outs c = name_next wanted.CommandName c.1 >>= with_rule outs

abbrev with_outputs : OutputsModel × State → Step HeadModel
with_outputs o = sign_step sign.Colon wanted.Colon o.1 >>= with_colon o.0

abbrev outputs_of : (explicit implicit : List WordModel) → OutputsModel
outputs_of e i = record { explicit = e; implicit = i }

abbrev some_output : (explicit : List WordModel) → List WordModel × State → Step OutputsModel
some_output e i = unless_none (is_empty e && is_empty i.0) wanted.Path i.1 (Ok (outputs_of e i.0, i.1))

abbrev with_implicit_outputs : List WordModel → List WordModel × State → Step HeadModel
with_implicit_outputs e i = some_output e i >>= with_outputs

abbrev with_explicit_outputs : List WordModel × State → Step HeadModel
with_explicit_outputs e = section_next sign.Pipe e.1 >>= with_implicit_outputs e.0

bind-same : {A B : Type 0} (r : Result A Fault) (f g : A → Result B Fault) → ((x : A) → f x ≡ g x)
    → (r >>= f) ≡ (r >>= g)
bind-same r f g h = grind arith

abbrev inputs_then : OutputsModel → NameModel → InputsModel × State → Step HeadModel
inputs_then outs rule ins = ended outs rule ins.0 ins.1

inputs_is : (outs : OutputsModel) (rule : NameModel) (s : State)
    → ◌≡◌ {A = Step HeadModel} (inputs_next s >>= inputs_then outs rule)
    (words_next s >>= with_explicit outs rule)
unfolding inputs_next
inputs_is outs rule s = grind arith

rule_is : (outs : OutputsModel) (s : State)
    → ◌≡◌ {A = Step HeadModel} (name_next wanted.CommandName s >>= λ rule. inputs_next rule.1 >>=
    inputs_then outs rule.0) (name_next wanted.CommandName s >>= with_rule outs)
rule_is outs s = grind (arith, bind-same, inputs_is)

colon_is_led : (outs : OutputsModel) (r : Result State Fault)
    → ◌≡◌ {A = Step HeadModel} (r >>= λ colon. name_next wanted.CommandName colon >>=
    λ rule. inputs_next rule.1 >>= inputs_then outs rule.0) (led_on r >>= with_colon outs)
colon_is_led outs r = grind (arith, rule_is)

abbrev outputs_then : OutputsModel × State → Step HeadModel
outputs_then o = expect_sign sign.Colon wanted.Colon o.1 >>= λ colon. name_next wanted.CommandName colon >>=
    λ rule. inputs_next rule.1 >>= inputs_then o.0 rule.0

outputs_is : (s : State) → ◌≡◌ {A = Step HeadModel} (outputs_next s >>= outputs_then)
    (words_next s >>= with_explicit_outputs)
unfolding outputs_next
outputs_is s =
    bind-same (outputs_next s) outputs_then with_outputs
    (λ o. colon_is_led o.0 (expect_sign sign.Colon wanted.Colon o.1))
    ∙ (bind-bind (words_next s) _ with_outputs
    ∙ bind-same (words_next s) _ with_explicit_outputs
    (λ e. bind-bind (section_next sign.Pipe e.1) (some_output e.0) with_outputs))

build_is : (s : State) → build_head s ≡ (words_next s >>= with_explicit_outputs)
unfolding build_head
build_is s = outputs_is s

-- ---- strings that complete a line begun

abbrev nowhere : List Line → State
nowhere ms = at [] (written []) ms

ends_explicit : (outs : OutputsModel) (rule : NameModel) (w : WordModel) (ws : List WordModel)
    → ReadTo (λ ms. with_explicit outs rule (w ∷ ws, nowhere ms))
unfolding section_next expect_sign
ends_explicit outs rule w ws = (BuildHead outs rule (inputs_of (w ∷ ws) [] [] []), λ ms. refl)

ends_implicit : (outs : OutputsModel) (rule : NameModel) (e : List WordModel) (w : WordModel)
    (ws : List WordModel) → ReadTo (λ ms. with_implicit outs rule e (w ∷ ws, nowhere ms))
unfolding section_next expect_sign
ends_implicit outs rule e w ws = (BuildHead outs rule (inputs_of e (w ∷ ws) [] []), λ ms. refl)

ends_order : (outs : OutputsModel) (rule : NameModel) (e i : List WordModel) (w : WordModel)
    (ws : List WordModel) → ReadTo (λ ms. with_order outs rule e i (w ∷ ws, nowhere ms))
unfolding section_next expect_sign
ends_order outs rule e i w ws = (BuildHead outs rule (inputs_of e i (w ∷ ws) []), λ ms. refl)

ends_validations : (outs : OutputsModel) (rule : NameModel) (e i o : List WordModel) (w : WordModel)
    (ws : List WordModel) → ReadTo (λ ms. with_validations outs rule e i o (w ∷ ws, nowhere ms))
unfolding expect_sign
ends_validations outs rule e i o w ws = (BuildHead outs rule (inputs_of e i o (w ∷ ws)), λ ms. refl)

abbrev name_r : NameModel
name_r = record { spot = first_spot; name = 114 ∷ [] }

-- ` r`
ends_rule : (outs : OutputsModel) → ReadTo
    (λ ms. name_next wanted.CommandName (at (text (32 ∷ 114 ∷ [])) (written []) ms) >>= with_rule outs)
unfolding name_next words_next words_within section_next expect_sign
ends_rule outs = (BuildHead outs name_r (inputs_of [] [] [] []), λ ms. refl)

-- `:r`
ends_colon : (outs : OutputsModel) → ReadTo
    (λ ms. sign_step sign.Colon wanted.Colon (at (text (58 ∷ 114 ∷ [])) (written []) ms) >>= with_colon outs)
unfolding name_next words_next words_within section_next expect_sign
ends_colon outs = (BuildHead outs name_r (inputs_of [] [] [] []), λ ms. refl)

ends_implicit_outputs : (e : List WordModel) (w : WordModel) (ws : List WordModel)
    → ReadTo (λ ms. with_implicit_outputs e (w ∷ ws, at (text (58 ∷ 114 ∷ [])) (written []) ms))
unfolding name_next words_next words_within section_next expect_sign
ends_implicit_outputs [] w ws = (
  BuildHead (outputs_of [] (w ∷ ws)) name_r (inputs_of [] [] [] []),
  λ ms. refl,
)
ends_implicit_outputs (v ∷ e) w ws = (
  BuildHead (outputs_of (v ∷ e) (w ∷ ws)) name_r (inputs_of [] [] [] []),
  λ ms. refl,
)

ends_explicit_outputs : (w : WordModel) (ws : List WordModel)
    → ReadTo (λ ms. with_explicit_outputs (w ∷ ws, at (text (58 ∷ 114 ∷ [])) (written []) ms))
unfolding name_next words_next words_within section_next expect_sign
ends_explicit_outputs w ws = (BuildHead (outputs_of (w ∷ ws) []) name_r (inputs_of [] [] [] []), λ ms. refl)

-- ---- along the line

pub words_after_name : (x : List TextUnit) → after_words x ≡ true → after_name x ≡ true
words_after_name x h = opens-more is_colon is_separator (colon_is (λ b. is_separator b ≡ true) refl) x h

pub itself : {A : Type 0} (r : Result A Fault) → r ≡ (r >>= λ x. Ok x)
itself r = grind arith

-- an output is read
there_is : (ex im : List WordModel) → (is_empty ex && is_empty im) ≡ false → (s : State)
    → with_implicit_outputs ex (im, s) ≡ with_outputs (outputs_of ex im, s)
there_is ex im h s = grind arith

-- no output after `build`
no_explicit : (e : Line) (us : List TextUnit) (n : WordsPass us) → is_empty n.value ≡ true
    → is_sign sign.Pipe n.run.left ≡ false
    → FailsAt build_head us e (Placed (spot_of_first n.run.left e.end) (cause.Expected wanted.Path))
    n.run.used n.run.left
no_explicit e us n empty none = record {
  cut = n.run.cut;
  place = refl;
  fails = λ ms. ap (λ (y : List TextUnit). build_head (at y e ms)) n.run.cut
      ∙ nothing_read n.run.left e ms n.stops none;
  refuses = λ x d ms same.
      let seen = element-front x n.run.left same in
      (nothing_read x d ms (settled_same x n.run.left seen ∙ n.stops)
      (sign-same sign.Pipe x n.run.left seen ∙ none));
}
  where
    missing : (t : Bool) (ws : List WordModel) (x : List TextUnit) (d : Line) (ms : List Line)
        → is_empty ws ≡ t → t ≡ true → with_implicit_outputs ws ([], at x d ms)
        ≡ Err (Placed (spot_of_first x d.end) (cause.Expected wanted.Path))
    missing t [] x d ms h g = refl
    missing t (w ∷ ws) x d ms h g = absurd cc

    nothing_read : (x : List TextUnit) (d : Line) (ms : List Line) → settled x ≡ true
        → is_sign sign.Pipe x ≡ false → build_head (at (n.run.used ++ x) d ms)
        ≡ Err (Placed (spot_of_first x d.end) (cause.Expected wanted.Path))
    nothing_read x d ms h g =
        build_is (at (n.run.used ++ x) d ms)
        ∙ (ap (λ r. r >>= with_explicit_outputs) (n.goes x d ms h)
        ∙ (ap (λ r. r >>= with_implicit_outputs n.value) (section_none sign.Pipe x d ms h g)
        ∙ missing true n.value x d ms empty refl))

-- `|` with no words after it, and none before
no_implicit : (e : Line) (ex : List WordModel) (left : List TextUnit) (run : SectionRun sign.Pipe left)
    (m : SectionPass sign.Pipe left run) → (is_empty ex && is_empty m.value) ≡ true
    → FailsAt (λ s. with_explicit_outputs (ex, s)) left e
    (Placed (spot_of_first run.left e.end) (cause.Expected wanted.Path)) run.used run.left
no_implicit e ex left run m empty = record {
  cut = run.cut;
  place = refl;
  fails = λ ms. ap (λ (y : List TextUnit). with_explicit_outputs (ex, at y e ms)) run.cut
      ∙ nothing_read run.left e ms (inr refl);
  refuses = λ x d ms same. nothing_read x d ms (inr (element-front x run.left same));
}
  where
    nothing_read : (x : List TextUnit) (d : Line) (ms : List Line) → Fits after_words run.left x
        → with_explicit_outputs (ex, at (run.used ++ x) d ms)
        ≡ Err (Placed (spot_of_first x d.end) (cause.Expected wanted.Path))
    nothing_read x d ms fit =
        ap (λ r. r >>= with_implicit_outputs ex) (m.goes x d ms fit)
        ∙ ap (λ (t : Bool). unless_none t wanted.Path (at x d ms) (Ok (outputs_of ex m.value, at x d ms)) >>=
        with_outputs) empty

module _ {P : Claim HeadModel} {whole : List TextUnit} (e : Line) where
  at_inputs : (outs : OutputsModel) (rule : NameModel) (us : List TextUnit)
      → Along P whole (λ s. with_rule outs (rule, s)) after_name us → Outcome P whole e
  at_inputs outs rule us a =
      words_turn e (λ s. with_rule outs (rule, s)) (with_explicit outs rule) (λ s. refl) a words_after_name []
      refl refl refl (ends_explicit outs rule) (λ n b. at_implicit n.value n.run.left n.stops b)
    where
      at_end : (ex im oo vs : List WordModel) (left : List TextUnit)
          → Along P whole (λ s. with_validations outs rule ex im oo (vs, s)) after_words left
          → Outcome P whole e
      at_end ex im oo vs left b = finish (λ s. with_validations outs rule ex im oo (vs, s))
          (BuildHead outs rule (inputs_of ex im oo vs)) e (λ s. refl) b refl

      at_validations : (ex im oo : List WordModel) (left : List TextUnit) → settled left ≡ true
          → Along P whole (λ s. with_order outs rule ex im (oo, s)) after_words left → Outcome P whole e
      at_validations ex im oo left h b =
          section_turn e sign.PipeAt is_pipe_at (λ s. with_order outs rule ex im (oo, s))
          (with_validations outs rule ex im oo) (λ s. refl) b h [] refl refl
          (ends_validations outs rule ex im oo)
          (λ none c. at_end ex im oo [] left c) (λ run n c. at_end ex im oo n.value run.left c)

      at_order : (ex im : List WordModel) (left : List TextUnit) → settled left ≡ true
          → Along P whole (λ s. with_implicit outs rule ex (im, s)) after_words left → Outcome P whole e
      at_order ex im left h b =
          section_turn e sign.Pipe2 is_pipe2 (λ s. with_implicit outs rule ex (im, s))
          (with_order outs rule ex im) (λ s. refl) b h [] refl refl (ends_order outs rule ex im)
          (λ none c. at_validations ex im [] left h c)
          (λ run n c. at_validations ex im n.value run.left n.stops c)

      at_implicit : (ex : List WordModel) (left : List TextUnit) → settled left ≡ true
          → Along P whole (λ s. with_explicit outs rule (ex, s)) after_words left → Outcome P whole e
      at_implicit ex left h b =
          section_turn e sign.Pipe is_pipe (λ s. with_explicit outs rule (ex, s)) (with_implicit outs rule ex)
          (λ s. refl) b h [] refl refl (ends_implicit outs rule ex)
          (λ none c. at_order ex [] left h c) (λ run n c. at_order ex n.value run.left n.stops c)

  at_colon : (outs : OutputsModel) (us : List TextUnit)
      → Along P whole (λ s. with_outputs (outs, s)) after_words us → Outcome P whole e
  at_colon outs us a =
      sign_turn e sign.Colon wanted.Colon after_name colon_single (λ s. with_outputs (outs, s))
      (with_colon outs) (λ s. refl) a (58 ∷ 114 ∷ []) refl refl refl (ends_colon outs)
      (λ p b. at_rule p.left b)
    where
      at_rule : (left : List TextUnit) → Along P whole
          (λ s. name_next wanted.CommandName s >>= with_rule outs) after_name left → Outcome P whole e
      at_rule left b =
          name_turn e wanted.CommandName (λ s. name_next wanted.CommandName s >>= with_rule outs)
          (with_rule outs) (λ s. refl) b (32 ∷ 114 ∷ []) refl refl refl (ends_rule outs)
          (λ n c. at_inputs outs n.passes.value n.passes.left c)

  -- the same reading in another form
  along-same : {t : List TextUnit → Bool} {us : List TextUnit} (k k' : State → Step HeadModel)
      → ((s : State) → k s ≡ k' s) → Along P whole k t us → Along P whole k' t us
  along-same k k' so a = record {
    begun = a.begun;
    cut = a.cut;
    goes =
        λ x d ms fit. subst (P (a.begun ++ x) d ms) (so (at x d ms)) (a.goes x d ms fit);
  }

  at_outputs : (ex im : List WordModel) (us : List TextUnit) → (is_empty ex && is_empty im) ≡ false
      → Along P whole (λ s. with_implicit_outputs ex (im, s)) after_words us → Outcome P whole e
  at_outputs ex im us h a = at_colon (outputs_of ex im) us
      (along-same _ (λ s. with_outputs (outputs_of ex im, s)) (there_is ex im h) a)

  pub build_turn : (us : List TextUnit) → Along P whole build_head after_name us → Outcome P whole e
  build_turn us a =
      words_turn e build_head with_explicit_outputs build_is a words_after_name (58 ∷ 114 ∷ []) refl refl refl
      ends_explicit_outputs at_implicit
    where
      stuck_first : (n : WordsPass us) → is_empty n.value ≡ true → is_sign sign.Pipe n.run.left ≡ false
          → Outcome P whole e
      stuck_first n empty none =
          let d = ends_explicit_outputs n.run.word n.run.words in
          stuck _ (stick build_head build_head (λ x. Ok x) (λ s. itself (build_head s)) a
          (no_explicit e us n empty none) (32 ∷ 120 ∷ 58 ∷ 114 ∷ []) refl refl d.0
          (n.run.fits after_name (one_more (text (58 ∷ 114 ∷ []))) refl)
          (λ ms. build_is (at (n.run.used ++ one_more (text (58 ∷ 114 ∷ []))) (written []) ms)
          ∙ (ap (λ r. r >>= with_explicit_outputs)
          (n.run.more (text (58 ∷ 114 ∷ [])) (written []) ms refl) ∙ d.1 ms)))

      by_empty : (n : WordsPass us) (t : Bool) → is_empty n.value ≡ t → is_sign sign.Pipe n.run.left ≡ false
          → Along P whole (λ s. with_implicit_outputs n.value ([], s)) after_words n.run.left
          → Outcome P whole e
      by_empty n true h none b = stuck_first n h none
      by_empty n false h none b = at_outputs n.value [] n.run.left (ap (λ (t : Bool). t && true) h) b

      -- `|` with no words after it, and none before
      stuck_second : (ex : List WordModel) (left : List TextUnit) (run : SectionRun sign.Pipe left)
          (m : SectionPass sign.Pipe left run)
          → Along P whole (λ s. with_explicit_outputs (ex, s)) after_words left
          → (is_empty ex && is_empty m.value) ≡ true → Outcome P whole e
      stuck_second ex left run m b empty =
          let d = ends_implicit_outputs ex run.word run.words in
          stuck _ (stick (λ s. with_explicit_outputs (ex, s)) (λ s. with_explicit_outputs (ex, s)) (λ x. Ok x)
          (λ s. itself (with_explicit_outputs (ex, s))) b (no_implicit e ex left run m empty)
          (32 ∷ 120 ∷ 58 ∷ 114 ∷ []) refl refl d.0 (run.fits (text (58 ∷ 114 ∷ [])))
          (λ ms. ap (λ r. r >>= with_implicit_outputs ex)
          (run.more (text (58 ∷ 114 ∷ [])) (written []) ms refl) ∙ d.1 ms))

      by_both : (n : WordsPass us) (run : SectionRun sign.Pipe n.run.left)
          (m : SectionPass sign.Pipe n.run.left run) (t : Bool) → (is_empty n.value && is_empty m.value) ≡ t
          → Along P whole (λ s. with_explicit_outputs (n.value, s)) after_words n.run.left
          → Along P whole (λ s. with_implicit_outputs n.value (m.value, s)) after_words run.left
          → Outcome P whole e
      by_both n run m true h b c = stuck_second n.value n.run.left run m b h
      by_both n run m false h b c = at_outputs n.value m.value run.left h c

      at_implicit : (n : WordsPass us) → Along P whole (λ s. with_explicit_outputs (n.value, s)) after_words
          n.run.left → Outcome P whole e
      at_implicit n b =
          section_turn e sign.Pipe is_pipe (λ s. with_explicit_outputs (n.value, s))
          (with_implicit_outputs n.value) (λ s. refl) b n.stops (58 ∷ 114 ∷ []) refl refl
          (ends_implicit_outputs n.value)
          (λ none c. by_empty n (is_empty n.value) refl none c)
          (λ run m c. by_both n run m (is_empty n.value && is_empty m.value) refl b c)
