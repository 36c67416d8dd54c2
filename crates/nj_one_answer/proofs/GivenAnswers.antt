-- One reading of the options of `affected`, and of the paths that they leave.
use Rattle.std.proofs.Common.{◌≡◌, ◌≢◌, ◌<◌, ◌⊎◌, inl, inr, ℕ, Option, Some, None, List, [], ◌∷◌, slice_get}
use Rattle.std.proofs.Common.{take, length}
use Rattle.std.proofs.Common.{refl, sym, ap, subst, ◌∙◌, arith}
use Rattle.std.specs.List.{All, slice_index_or}
use Rattle.std.proofs.lemmas.Bool.{cases_order}
use Rattle.std.proofs.lemmas.List.{get_or-take, length-take-le}
use Rattle.std.proofs.lemmas.List.Elements.{All-cons, All-nil}
use Rattle.std.proofs.lemmas.Option.{get_or_from_slice_get, same_Some, slice_get_within}
use Rattle.nj_globs.specs.Globs.{GlobPart}
use Rattle.nj_globs.specs.Laws.{GoodPatternsAreRead, OneFault, OneReading}
use Rattle.nj_globs.specs.Patterns.{IsGlobFault}
use Rattle.nj_globs.specs.declared.glob_fault.GlobFault.{GlobFault}
use Rattle.nj_globs.specs.declared.glob_fault.GlobFault.TheVariants.{OutOfMemory}
use Rattle.nj_changes.specs.Ignored.{AreGlobsOf, AreLeft, IsFirstWrong, IsGlob}
use Rattle.nj_changes.specs.Ignored.AreLeft.{none, ignored, kept}
use Rattle.nj_questions.specs.Questions.{AffectedModel, TestsModel, affected, audit, draw, json, keys, stale}
use Rattle.nj_questions.specs.Questions.{tests, timings, why}
use Rattle.nj_ask.specs.Answers.{keys_misuse}
use Rattle.nj_ask.specs.Audits.{audit_misuse}
use Rattle.nj_ask.specs.Given.{change_misuse, pattern_line, LeavesPaths, MisusesAffected, TakesAffected}
use Rattle.nj_ask.specs.Given.MisusesAffected.{by_word as misused_word, no_glob}
use Rattle.nj_ask.specs.Stales.{stale_misuse}
use Rattle.nj_ask.specs.Times.{times_misuse}
use Rattle.nj_ask.specs.ChosenTests.{MisusesTests, TakesTests, word_misuse}
use Rattle.nj_ask.specs.ChosenTests.MisusesTests.{by_change, by_word}
use Rattle.nj_one_answer.specs.Answers.{MisusedIsNotTaken, OneMisuse}

pub some-or-none : {X : Type 0} (x : X) (o : Option X) → o ≡ Some x → o ≡ None → ⊥
some-or-none x o is lacks = let both : Some x ≡ None = sym is ∙ lacks in absurd cc

-- ---- the paths that are left

left-agree : (globs : List (List GlobPart)) (paths one other : List (List ℕ)) → AreLeft globs paths one
    → AreLeft globs paths other → one ≡ other
left-agree globs _ _ _ none none = refl
left-agree globs _ _ _ (ignored {paths = ps} {left = l} is rest) (ignored {left = m} also more) =
    left-agree globs ps l m rest more
left-agree globs _ _ _ (ignored is rest) (kept not more) = absurd (not is)
left-agree globs _ _ _ (kept not rest) (ignored is more) = absurd (not is)
left-agree globs _ _ _ (kept {path = p} {paths = ps} {left = l} not rest) (kept {left = m} also more) =
    ap (λ paths. p ∷ paths) (left-agree globs ps l m rest more)

globs-agree : OneReading → (patterns : List (List ℕ)) (one other : List (List GlobPart))
    → AreGlobsOf patterns one → AreGlobsOf patterns other → one ≡ other
globs-agree reading [] [] [] is also = refl
globs-agree reading [] [] (glob ∷ other) is also = absurd also
globs-agree reading [] (glob ∷ one) other is also = absurd is
globs-agree reading (p ∷ ps) [] other is also = absurd is
globs-agree reading (p ∷ ps) (a ∷ one) [] is also = absurd also
globs-agree reading (p ∷ ps) (a ∷ one) (b ∷ other) is also =
    ap (λ glob. glob ∷ one) (reading p a b is.0 also.0)
    ∙ ap (λ globs. b ∷ globs) (globs-agree reading ps one other is.1 also.1)

pub leaves-agree : OneReading → (options : AffectedModel) (given one other : List (List ℕ))
    → LeavesPaths options given one → LeavesPaths options given other → one ≡ other
leaves-agree reading options given one other is also =
    let same = globs-agree reading options.ignored is.globs also.globs is.are_globs also.are_globs in
    left-agree also.globs given one other (subst (λ globs. AreLeft globs given one) same is.are_left)
    also.are_left

-- ---- patterns that are not globs

are-globs : (patterns : List (List ℕ)) (globs : List (List GlobPart)) → AreGlobsOf patterns globs
    → All IsGlob patterns
are-globs [] [] all = All-nil IsGlob
are-globs [] (glob ∷ globs) all = absurd all
are-globs (pattern ∷ patterns) [] all = absurd all
are-globs (pattern ∷ patterns) (glob ∷ globs) all =
    All-cons IsGlob pattern patterns (glob, all.0) (are-globs patterns globs all.1)

module _ (good : GoodPatternsAreRead) where
  not-glob : (pattern : List ℕ) (fault : GlobFault) → IsGlobFault pattern fault → fault ≢ OutOfMemory
      → IsGlob pattern → ⊥
  not-glob pattern fault is reason glob = absurd (reason (good pattern glob.0 fault glob.1 is))

  -- the first wrong pattern is not among globs
  not-all : (patterns others : List (List ℕ)) (pattern : List ℕ) (fault : GlobFault)
      → (wrong : IsFirstWrong patterns pattern fault) → wrong.index < length others
      → slice_index_or others wrong.index pattern ≡ slice_index_or patterns wrong.index pattern
      → All IsGlob others → ⊥
  not-all patterns others pattern fault wrong below same all =
      not-glob pattern fault wrong.is_fault wrong.no_glob
      (subst IsGlob (same ∙ get_or_from_slice_get patterns wrong.index pattern pattern wrong.at)
      (all wrong.index pattern below))

  not-before : (patterns : List (List ℕ)) (p q : List ℕ) (f g : GlobFault) (one : IsFirstWrong patterns p f)
      (other : IsFirstWrong patterns q g) → one.index < other.index → ⊥
  not-before patterns p q f g one other before =
      let within = slice_get_within patterns other.index q other.at in
      let long = length-take-le other.index patterns (omega (arith, within)) in
      not-all patterns (take other.index patterns) p f one (omega (arith, long, before))
      (get_or-take other.index patterns one.index p before) other.others

  first-agree : OneFault → (patterns : List (List ℕ)) (p q : List ℕ) (f g : GlobFault)
      → IsFirstWrong patterns p f → IsFirstWrong patterns q g → pattern_line p f ≡ pattern_line q g
  first-agree fault patterns p q f g one other = by (cases_order one.index other.index)
    where
      by : (one.index ≡ other.index) ⊎ ((one.index < other.index) ⊎ (other.index < one.index))
          → pattern_line p f ≡ pattern_line q g
      by (inl same) =
          let pattern = same_Some p q (sym one.at ∙ ap (slice_get patterns) same ∙ other.at) in
          ap (λ x. pattern_line x f) pattern
          ∙ ap (pattern_line q) (fault q f g (subst (λ x. IsGlobFault x f) pattern one.is_fault)
          other.is_fault
          one.no_glob other.no_glob)
      by (inr (inl before)) = absurd (not-before patterns p q f g one other before)
      by (inr (inr after)) = absurd (not-before patterns q p g f other one after)

  affected-misuse : OneFault → (options : AffectedModel) (line other : List ℕ) → MisusesAffected options line
      → MisusesAffected options other → line ≡ other
  affected-misuse fault options _ _ (misused_word {line = a} is) (misused_word {line = b} also) =
      same_Some a b (sym is ∙ also)
  affected-misuse fault options _ _ (misused_word {line = a} is) (no_glob named wrong) =
      absurd (some-or-none a (change_misuse options) is named)
  affected-misuse fault options _ _ (no_glob named wrong) (misused_word {line = a} is) =
      absurd (some-or-none a (change_misuse options) is named)
  affected-misuse fault options _ _ (no_glob {pattern = p} {fault = f} named wrong)
      (no_glob {pattern = q} {fault = g} also more) =
      first-agree fault options.ignored p q f g wrong more

  affected-apart : (options : AffectedModel) (line : List ℕ) → MisusesAffected options line
      → TakesAffected options → ⊥
  affected-apart options _ (misused_word {line = a} is) taken =
      absurd (some-or-none a (change_misuse options) is taken.words)
  affected-apart options _ (no_glob {pattern = p} {fault = f} named wrong) taken =
      not-all options.ignored options.ignored p f wrong
      (slice_get_within options.ignored wrong.index p wrong.at)
      refl (are-globs options.ignored taken.globs taken.are_globs)

-- ---- `tests`

tests-misuse : GoodPatternsAreRead → OneFault → (options : TestsModel) (line other : List ℕ)
    → MisusesTests options line → MisusesTests options other → line ≡ other
tests-misuse good fault options line other (by_word is) (by_word also) = same_Some line other (sym is ∙ also)
tests-misuse good fault options line other (by_word is) (by_change fine also) =
    absurd (some-or-none line (word_misuse options) is fine)
tests-misuse good fault options line other (by_change fine is) (by_word also) =
    absurd (some-or-none other (word_misuse options) also fine)
tests-misuse good fault options line other (by_change fine is) (by_change fine2 also) =
    affected-misuse good fault options.change line other is also

tests-apart : GoodPatternsAreRead → (options : TestsModel) (line : List ℕ) → MisusesTests options line
    → TakesTests options → ⊥
tests-apart good options line (by_word is) taken = some-or-none line (word_misuse options) is taken.words
tests-apart good options line (by_change fine is) taken =
    affected-apart good options.change line is taken.change

-- ---- whatever is asked

pub one-misuse : GoodPatternsAreRead → OneFault → OneMisuse
one-misuse good fault (affected options) line other is also =
    affected-misuse good fault options line other is also
one-misuse good fault (audit options) line other is also = same_Some line other (sym is ∙ also)
one-misuse good fault (draw options) line other is also = absurd is
one-misuse good fault json line other is also = absurd is
one-misuse good fault (keys options) line other is also = same_Some line other (sym is ∙ also)
one-misuse good fault (stale options) line other is also = same_Some line other (sym is ∙ also)
one-misuse good fault (tests options) line other is also = tests-misuse good fault options line other is also
one-misuse good fault (timings options) line other is also = same_Some line other (sym is ∙ also)
one-misuse good fault (why options) line other is also = absurd is

pub misused-apart : GoodPatternsAreRead → MisusedIsNotTaken
misused-apart good (affected options) line is taken = affected-apart good options line is taken
misused-apart good (audit options) line is taken = some-or-none line (audit_misuse options) is taken
misused-apart good (draw options) line is taken = absurd is
misused-apart good json line is taken = absurd is
misused-apart good (keys options) line is taken = some-or-none line (keys_misuse options) is taken
misused-apart good (stale options) line is taken = some-or-none line (stale_misuse options) is taken
misused-apart good (tests options) line is taken = tests-apart good options line is taken
misused-apart good (timings options) line is taken = some-or-none line (times_misuse options) is taken
misused-apart good (why options) line is taken = absurd is
