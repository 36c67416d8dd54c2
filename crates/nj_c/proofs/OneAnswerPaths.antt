-- Two chains of inputs from one file to another.
use Rattle.std.proofs.Common.{◌≡◌, ◌≢◌, inl, inr, ℕ, ℤ, Bool, List, Option, Some, None, map, sym, ap}
use Rattle.std.proofs.Common.{subst, ◌∙◌, bytes_eq}
use Rattle.std.specs.List.{IsDistinct}
use Rattle.nj_edges.specs.declared.chains.Step.{Step}
use Rattle.nj_edges.specs.Chains.{OnePathIsRight}
use Rattle.nj_edges.specs.EdgeGraphs.{EdgeGraph}
use Rattle.nj_c.specs.declared.paths.PathStep.{PathStep}
use Rattle.nj_c.specs.declared.status.Status.TheVariants.{Done, Nothing}
use Rattle.nj_c.specs.Buffers.{filled}
use Rattle.nj_c.specs.OneAnswer.{InMemory, SameBuffer}
use Rattle.nj_c.specs.Paths.{every_kind, numbered_step, GivesPath, GivesSteps}
use Rattle.nj_c.specs.Statuses.{code_of}
use Rattle.nj_c.proofs.OneAnswerLemmas.{nothing, refused-buffer}

module _ (one other : ℤ) (before before2 after after2 : List PathStep) (count count2 : ℕ)
    (alike : before ≡ before2)
    (kept : one ≢ code_of Done → after ≡ before) (kept2 : other ≢ code_of Done → after2 ≡ before2)
  where
    steps-agree : (path : Option (List Step)) → GivesSteps path before after count one
        → GivesSteps path before2 after2 count2 other → SameBuffer one other after after2 count count2
    steps-agree None is also =
        refused-buffer one other before before2 after after2 count count2 alike kept kept2 Nothing nothing is
        also
    steps-agree (Some steps) (done, total, all) (done2, total2, all2) = record {
      answer = record { status = done ∙ sym done2; given = λ _. total ∙ sym total2 };
      buffer = all ∙ ap (filled (map numbered_step steps)) alike ∙ sym all2;
    }

    pub paths-agree : OnePathIsRight → (g : EdgeGraph) → IsDistinct bytes_eq g.files
        → (with_validations : Bool) (from to : ℕ)
        → GivesPath g with_validations from to before after count one
        → GivesPath g with_validations from to before2 after2 count2 other
        → InMemory one other (SameBuffer one other after after2 count count2)
    paths-agree law g distinct with_validations from to (inl (path, is, gives)) (inl (path2, is2, gives2)) _
        _ =
        steps-agree path gives (subst (λ p. GivesSteps p before2 after2 count2 other)
        (sym (law g (every_kind with_validations) (record { 0 = from }) (record { 0 = to }) path path2
        distinct is
        is2)) gives2)
    paths-agree law g distinct with_validations from to (inl is) (inr lacks) _ memory = absurd (memory lacks)
    paths-agree law g distinct with_validations from to (inr lacks) also memory _ = absurd (memory lacks)
