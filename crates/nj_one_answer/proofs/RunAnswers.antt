-- Two runs that end with one answer.
use Rattle.std.proofs.Common.{◌≡◌, ◌⊎◌, inl, inr, ℕ, false, List, [], refl, sym, ap, subst, ◌∙◌}
use Rattle.nj_scope.specs.Sources.{SourceState}
use Rattle.nj_tools.specs.Sinks.{SinkState, Takes}
use Rattle.nj_ask.specs.declared.status.Status.{Status}
use Rattle.nj_ask.specs.Endings.{Concludes, Ending, Ends, Reported, ReportsError, Sinks, answered}
use Rattle.nj_ask.specs.Asks.{around}
use Rattle.nj_ask.specs.Endings.{refused}
use Rattle.nj_ask.specs.Endings.Ends.{ended, memory_fails, output_fails}
use Rattle.nj_one_answer.specs.Runs.{AlikeRunsAreSame, EndAlike, IsCutOff, IsJust, SameErrors}
use Rattle.nj_one_answer.specs.Runs.{SameRuns}
use Rattle.nj_one_answer.specs.Runs.{SameUnlessFailed}
use Rattle.nj_one_answer.specs.Runs.IsCutOff.{output_failed, error_failed, lacked_memory as cut_by_memory}
use Rattle.nj_one_answer.specs.Runs.SameErrors.{reported, lacked_memory as one_lacked}
use Rattle.nj_one_answer.specs.Sinks.{SameSinks}
use Rattle.nj_one_answer.proofs.ToolAnswers.{sinks-agree}

-- ---- lines

pub reports-agree : (old one other : SinkState) (text : List ℕ) → Reported old one text
    → Reported old other text → SameUnlessFailed old one other
reports-agree old one other text (inr fails) also = inl (text, fails)
reports-agree old one other text (inl takes) (inr fails) = inr (inl (text, fails))
reports-agree old one other text (inl takes) (inl takes2) =
    inr (inr (sinks-agree old one other text takes takes2))

pub errors-agree : (what : List ℕ) (old one other : SinkState) → ReportsError what old one
    → ReportsError what old other → SameErrors what old one other
errors-agree what old one other (inl memory) also = one_lacked (inl memory)
errors-agree what old one other (inr (why, said)) (inl memory) = one_lacked (inr memory)
errors-agree what old one other (inr (why, said)) (inr (more, said2)) = reported why more said said2

-- ---- one run

-- a run ends with an answer, or it could end so with any
data Part (Is : (output : List ℕ) → Ending → Type 0) (old new : Sinks) (status : Status) : Type 0 where
  by : (output : List ℕ) (ending : Ending) → Is output ending → Ends (IsJust output ending) old new status
      → Part Is old new status
  any : ((output : List ℕ) (ending : Ending) → Ends (IsJust output ending) old new status)
      → Part Is old new status

part : (Is : (output : List ℕ) → Ending → Type 0) (old new : Sinks) (status : Status) → Ends Is old new status
    → Part Is old new status
part Is old new _ (ended {output = o} {ending = e} is took concludes) =
    by o e is (ended (refl, refl) took concludes)
part Is old new _ (output_fails {output = o} {ending = e} is fails same) =
    by o e is (output_fails (refl, refl) fails same)
part Is old new _ (memory_fails (inl none) took told) = any (λ o e. memory_fails (inl none) took told)
part Is old new _ (memory_fails (inr (o, e, is, front)) took told) =
    by o e is (memory_fails (inr (o, e, (refl, refl), front)) took told)

-- ---- two runs

module _ (Is : (output : List ℕ) → Ending → Type 0) (Same : (output other : List ℕ) → Type 0)
    (equal : (text : List ℕ) → Same text text)
    (one-answer : (output other : List ℕ) (ending end : Ending) → Is output ending → Is other end
    → Same output other × (ending ≡ end))
    (old one other : Sinks)
  where
    parts-alike : (status end : Status) → Part Is old one status → Part Is old other end
        → EndAlike Same old one other status end
    parts-alike status end (by o e is ends) (by p f also ends2) =
        let both = one-answer o p e f is also in
        record {
          output = o;
          other_output = p;
          same = both.0;
          ending = e;
          one_ends = ends;
          other_ends = subst (λ g. Ends (IsJust p g) old other end) (sym both.1) ends2;
        }
    parts-alike status end (by o e is ends) (any ends2) = record {
      output = o;
      other_output = o;
      same = equal o;
      ending = e;
      one_ends = ends;
      other_ends = ends2 o e;
    }
    parts-alike status end (any ends) (by p f also ends2) = record {
      output = p;
      other_output = p;
      same = equal p;
      ending = f;
      one_ends = ends p f;
      other_ends = ends2;
    }
    parts-alike status end (any ends) (any ends2) = record {
      output = [];
      other_output = [];
      same = equal [];
      ending = answered false [];
      one_ends = ends [] (answered false []);
      other_ends = ends2 [] (answered false []);
    }

    pub ends-alike : (status end : Status) → Ends Is old one status → Ends Is old other end
        → EndAlike Same old one other status end
    ends-alike status end ends ends2 =
        parts-alike status end (part Is old one status ends) (part Is old other end ends2)

-- ---- the same runs

module _ (old one other : Sinks) where
  abbrev Alike : (status end : Status) → Type 0
  Alike status end = IsCutOff old one status ⊎ (IsCutOff old other end ⊎ SameRuns old one other status end)

  whole : (status end : Status) → SameSinks old.output one.output other.output
      → SameSinks old.error one.error other.error → status ≡ end → Alike status end
  whole status end output error is = inr (inr (record { output = output; error = error; status_is = is }))

  concluded : (ending : Ending) (status end : Status) → SameSinks old.output one.output other.output
      → Concludes ending old.error one.error status → Concludes ending old.error other.error end
      → Alike status end
  concluded (answered looks warnings) status end output (inr fails) also =
      inl (error_failed (warnings, fails.0))
  concluded (answered looks warnings) status end output (inl is) (inr fails) =
      inr (inl (error_failed (warnings, fails.0)))
  concluded (answered looks warnings) status end output (inl is) (inl also) =
      whole status end output (sinks-agree old.error one.error other.error warnings is.0 also.0)
      (is.1 ∙ sym also.1)
  concluded (refused line given) status end output (inr fails, is) also =
      inl (error_failed (line, fails))
  concluded (refused line given) status end output (inl takes, is) (inr fails, also) =
      inr (inl (error_failed (line, fails)))
  concluded (refused line given) status end output (inl takes, is) (inl takes2, also) =
      whole status end output (sinks-agree old.error one.error other.error line takes takes2) (is ∙ sym also)

  runs-agree : (text : List ℕ) (ending : Ending) (status end : Status)
      → Ends (IsJust text ending) old one status → Ends (IsJust text ending) old other end → Alike status end
  runs-agree text ending _ end (output_fails {output = o} is fails same) also =
      inl (output_failed (o, fails) same)
  runs-agree text ending _ end (memory_fails front took told) also = inl (cut_by_memory told)
  runs-agree text ending status _ (ended is took concludes) (output_fails {output = p} also fails same) =
      inr (inl (output_failed (p, fails) same))
  runs-agree text ending status _ (ended is took concludes) (memory_fails front took2 told) =
      inr (inl (cut_by_memory told))
  runs-agree text ending status end (ended {output = o} {ending = e} is took concludes)
      (ended {output = p} {ending = f} also took2 concludes2) =
      concluded ending status end
      (sinks-agree old.output one.output other.output text
      (subst (Takes old.output one.output) is.0 took) (subst (Takes old.output other.output) also.0 took2))
      (subst (λ g. Concludes g old.error one.error status) is.1 concludes)
      (subst (λ g. Concludes g old.error other.error end) also.1 concludes2)

pub alike-runs-are-same : AlikeRunsAreSame
alike-runs-are-same old one other status end alike =
    runs-agree old one other alike.output alike.ending status end alike.one_ends
    (subst (λ text. Ends (IsJust text alike.ending) old other end) (sym alike.same) alike.other_ends)

-- ---- the same beginning

pub same-start : (files more built others : SourceState) (output out error err : SinkState) → files ≡ more
    → built ≡ others → output ≡ out → error ≡ err
    → around files built output error ≡ around more others out err
same-start files more built others output out error err f b o e =
    ap (λ s. around s built output error) f ∙ ap (λ s. around more s output error) b
    ∙ ap (λ s. around more others s error) o ∙ ap (λ s. around more others out s) e
