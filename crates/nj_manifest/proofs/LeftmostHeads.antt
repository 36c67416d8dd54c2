-- The first line of a statement: it is read to its end, or stuck at its first fault.
use Rattle.std.proofs.Common.{arith, ◌≡◌, ℕ, Bool, true, false, cond, Result, Ok}
use Rattle.std.proofs.Common.{List, []}
use Rattle.std.proofs.Common.{◌∷◌, ◌++◌, refl, ap, ◌∙◌, codes}
use Rattle.std.specs.Str.{bytes_eq}
use Rattle.nj_text.specs.declared.sign.Sign.TheVariants as sign
use Rattle.nj_text.specs.Bytes.{begins_with}
use Rattle.nj_text.specs.Units.{TextUnit, first_spot}
use Rattle.nj_text.specs.Lines.{Line, spot_of_first}
use Rattle.nj_text.specs.Words.{in_identifier, WordModel}
use Rattle.nj_text.specs.Calls.{State, is_empty}
use Rattle.nj_manifest.specs.declared.cause.SyntaxCause.TheVariants as cause
use Rattle.nj_manifest.specs.declared.cause.Wanted.{Wanted}
use Rattle.nj_manifest.specs.declared.cause.Wanted.TheVariants as wanted
use Rattle.nj_manifest.specs.Faults.{Fault, Placed}
use Rattle.nj_manifest.specs.LineSteps.{Step, ◌>>=◌, NameModel, name_next, expect_sign, words_next}
use Rattle.nj_manifest.specs.Statements.{BindingModel, DefaultModel, IncludeModel, SubninjaModel}
use Rattle.nj_manifest.specs.Statements.{equals_value, targets_next, file_next}
use Rattle.nj_manifest.specs.Leftmost.{written, offers_next}
use Rattle.nj_manifest.specs.Grammar.{HeadModel, Alone, RuleHead, PoolHead}
use Rattle.nj_manifest.specs.Inside.Heads.{build_head, as_head, head_after, head_next, name_alone}
use Rattle.nj_manifest.proofs.Choices.{unless_none}
use Rattle.nj_manifest.proofs.LeftmostFronts.{element-front}
use Rattle.nj_manifest.proofs.LeftmostSteps.{at, text, after_name, after_words, FailsAt, Claim, Along}
use Rattle.nj_manifest.proofs.LeftmostSteps.{Outcome, stuck, stick, pass}
use Rattle.nj_manifest.proofs.LeftmostSigns.{ending, finish}
use Rattle.nj_manifest.proofs.LeftmostWords.{settled, settled_same, one_more, WordsPass}
use Rattle.nj_manifest.proofs.LeftmostTurns.{ReadTo, name_turn, words_turn}
use Rattle.nj_manifest.proofs.LeftmostValues.{value_turn}
use Rattle.nj_manifest.proofs.LeftmostBuilds.{words_after_name, itself, build_turn}
use Rattle.nj_manifest.proofs.LeftmostFiles.{file_word, FileSeen, reads_on, ends_here, file_seen}

-- ---- the lines in steps

abbrev line_end : State → Result State Fault
line_end s = expect_sign sign.LineEnd wanted.Newline s

end_is : {A : Type 0} (head : A → HeadModel) (x : A) (r : Result State Fault)
    → as_head head (ending x r) ≡ ending (head x) r
end_is head x r = grind arith

abbrev named_end : (NameModel → HeadModel) → NameModel × State → Step HeadModel
named_end head n = ending (head n.0) (line_end n.1)

named_is : (head : NameModel → HeadModel) (r : Step NameModel)
    → as_head head (r >>= λ name. ending name.0 (line_end name.1)) ≡ (r >>= named_end head)
named_is head r = grind arith

alone_is : (want : Wanted) (head : NameModel → HeadModel) (s : State)
    → as_head head (name_alone want s) ≡ (name_next want s >>= named_end head)
unfolding name_alone
alone_is want head s = named_is head (name_next want s)

abbrev targets_end : (List WordModel → HeadModel) → List WordModel × State → Step HeadModel
targets_end head w = ending (head w.0) (unless_none (is_empty w.0) wanted.TargetName w.1 (line_end w.1))

targets_by : (head : List WordModel → HeadModel) (r : Step (List WordModel))
    → as_head head (r >>= λ w. ending w.0 (unless_none (is_empty w.0) wanted.TargetName w.1 (line_end w.1)))
    ≡ (r >>= targets_end head)
targets_by head r = grind arith

targets_is : (head : List WordModel → HeadModel) (s : State)
    → as_head head (targets_next s) ≡ (words_next s >>= targets_end head)
unfolding targets_next
targets_is head s = targets_by head (words_next s)

abbrev file_end : (WordModel → HeadModel) → WordModel × State → Step HeadModel
file_end head w = ending (head w.0) (line_end w.1)

file_by : (head : WordModel → HeadModel) (r : Step WordModel)
    → as_head head (r >>= λ w. ending w.0 (line_end w.1)) ≡ (r >>= file_end head)
file_by head r = grind arith

file_led : (s : State) → ◌≡◌ {A = Step WordModel} (file_next s)
    (file_word s >>= λ w. ending w.0 (line_end w.1))
unfolding file_next
file_led s = grind arith

file_is : (head : WordModel → HeadModel) (s : State)
    → as_head head (file_next s) ≡ (file_word s >>= file_end head)
file_is head s = ap (as_head head) (file_led s) ∙ file_by head (file_word s)

-- ---- strings that complete a line begun

ends_name : (want : Wanted) (head : NameModel → HeadModel)
    → ReadTo (λ ms. name_next want (at (text (32 ∷ 114 ∷ [])) (written []) ms) >>= named_end head)
unfolding name_next expect_sign
ends_name want head = (head (record { spot = first_spot; name = 114 ∷ [] }), λ ms. refl)

ends_targets : (head : List WordModel → HeadModel) (w : WordModel) (ws : List WordModel)
    → ReadTo (λ ms. targets_end head (w ∷ ws, at [] (written []) ms))
unfolding expect_sign
ends_targets head w ws = (head (w ∷ ws), λ ms. refl)

ends_file : (head : WordModel → HeadModel) (w : WordModel)
    → ReadTo (λ ms. file_end head (w, at [] (written []) ms))
unfolding expect_sign
ends_file head w = (head w, λ ms. refl)

-- `a=b`
ends_binding : ReadTo (λ ms. name_next wanted.Statement (at (text (97 ∷ 61 ∷ 98 ∷ [])) (written []) ms) >>=
    λ word. head_after word.0.name word.1)
unfolding name_next head_after equals_value expect_sign
ends_binding = (_, λ ms. refl)

-- ---- along the line

-- no word after `default`
no_target : (head : List WordModel → HeadModel) (e : Line) (us : List TextUnit) (n : WordsPass us)
    → is_empty n.value ≡ true
    → FailsAt (λ s. words_next s >>= targets_end head) us e
    (Placed (spot_of_first n.run.left e.end) (cause.Expected wanted.TargetName)) n.run.used n.run.left
no_target head e us n empty = grind (arith, settled_same, element-front, settled, ending, unless_none)

-- a line begins with a name
abbrev pub starts : List TextUnit → Bool
starts us = begins_with in_identifier us

module _ {P : Claim HeadModel} {whole : List TextUnit} (e : Line) where
  alone_turn : (want : Wanted) (head : NameModel → HeadModel) (us : List TextUnit)
      → offers_next want (114 ∷ []) ≡ true → Along P whole (λ s. as_head head (name_alone want s)) after_name
      us → Outcome P whole e
  alone_turn want head us offered a =
      name_turn e want (λ s. as_head head (name_alone want s)) (named_end head) (alone_is want head) a
      (32 ∷ 114 ∷ []) refl offered refl (ends_name want head)
      (λ n b. finish (λ s. named_end head (n.passes.value, s)) (head n.passes.value) e (λ s. refl) b refl)

  targets_turn : (head : List WordModel → HeadModel) (us : List TextUnit)
      → Along P whole (λ s. as_head head (targets_next s)) after_name us → Outcome P whole e
  targets_turn head us a =
      words_turn e (λ s. as_head head (targets_next s)) (targets_end head) (targets_is head) a
      words_after_name [] refl refl refl (ends_targets head) (λ n b. by_empty n (is_empty n.value) refl b)
    where
      by_empty : (n : WordsPass us) (t : Bool) → is_empty n.value ≡ t
          → Along P whole (λ s. targets_end head (n.value, s)) after_words n.run.left → Outcome P whole e
      by_empty n false h b = finish (λ s. targets_end head (n.value, s)) (head n.value) e
          (λ s. ap (λ (t : Bool). ending (head n.value) (unless_none t wanted.TargetName s (line_end s))) h) b
          refl
      by_empty n true h b =
          let d = ends_targets head n.run.word n.run.words in
          stuck _ (stick (λ s. as_head head (targets_next s)) (λ s. words_next s >>= targets_end head)
          (λ x. Ok x) (λ s. targets_is head s ∙ itself (words_next s >>= targets_end head)) a
          (no_target head e us n h) (32 ∷ 120 ∷ []) refl refl d.0
          (n.run.fits after_name (one_more []) refl)
          (λ ms. targets_is head (at (n.run.used ++ one_more []) (written []) ms)
          ∙ (ap (λ r. r >>= targets_end head) (n.run.more [] (written []) ms refl) ∙ d.1 ms)))

  file_turn : (head : WordModel → HeadModel) (us : List TextUnit)
      → Along P whole (λ s. as_head head (file_next s)) after_name us → Outcome P whole e
  file_turn head us a = by_file (file_seen us e)
    where
      by_file : FileSeen us e → Outcome P whole e
      by_file (reads_on p) = finish (λ s. file_end head (p.value, s)) (head p.value) e (λ s. refl)
          (pass (λ s. as_head head (file_next s)) file_word (file_end head) (file_is head) a p) refl
      by_file (ends_here fault n) =
          let d = ends_file head n.word in
          stuck fault (stick (λ s. as_head head (file_next s)) file_word (file_end head) (file_is head) a
          n.here n.bytes n.plain n.offered d.0 n.fits
          (λ ms. file_is head (at (n.used ++ text n.bytes) (written []) ms)
          ∙ (ap (λ r. r >>= file_end head) (n.reads (written []) ms) ∙ d.1 ms)))

  after_turn : (word : List ℕ) (us : List TextUnit) → Along P whole (λ s. head_after word s) after_name us
      → Outcome P whole e
  unfolding head_after
  after_turn word us a =
      by_word (bytes_eq word (codes "build")) (bytes_eq word (codes "rule")) (bytes_eq word (codes "pool"))
      (bytes_eq word (codes "default")) (bytes_eq word (codes "include"))
      (bytes_eq word (codes "subninja")) a
    where
      by_word : (b r p d i u : Bool)
          → Along P whole (λ s. cond b (build_head s)
          (cond r (as_head RuleHead (name_alone wanted.RuleName s))
          (cond p (as_head PoolHead (name_alone wanted.PoolName s))
          (cond d (as_head (λ words. Alone (DefaultModel words)) (targets_next s))
          (cond i (as_head (λ word. Alone (IncludeModel word)) (file_next s))
          (cond u (as_head (λ word. Alone (SubninjaModel word)) (file_next s))
          (as_head (λ value. Alone (BindingModel word value)) (equals_value s)))))))) after_name us
          → Outcome P whole e
      by_word true r p d i u a = build_turn e us a
      by_word false true p d i u a = alone_turn wanted.RuleName RuleHead us refl a
      by_word false false true d i u a = alone_turn wanted.PoolName PoolHead us refl a
      by_word false false false true i u a = targets_turn (λ words. Alone (DefaultModel words)) us a
      by_word false false false false true u a = file_turn (λ word. Alone (IncludeModel word)) us a
      by_word false false false false false true a = file_turn (λ word. Alone (SubninjaModel word)) us a
      by_word false false false false false false a =
          value_turn e (λ value. Alone (BindingModel word value))
          (λ s. as_head (λ value. Alone (BindingModel word value)) (equals_value s)) (λ s. refl) a

  pub head_turn : (us : List TextUnit) → Along P whole head_next starts us → Outcome P whole e
  unfolding head_next
  head_turn us a =
      name_turn e wanted.Statement head_next (λ word. head_after word.0.name word.1) (λ s. refl) a
      (97 ∷ 61 ∷ 98 ∷ []) refl refl refl ends_binding
      (λ n b. after_turn n.passes.value.name n.passes.left b)
