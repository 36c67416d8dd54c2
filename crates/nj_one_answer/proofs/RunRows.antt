-- Runs that do not end alike: what the relations of two runs refuse.
use Rattle.std.proofs.Common.{◌≡◌, ◌⊎◌, inl, inr, ℕ, true, Some, List, [], ◌∷◌, refl}
use Rattle.nj_tools.specs.Sinks.{SinkState}
use Rattle.nj_ask.specs.declared.status.Status.{Status}
use Rattle.nj_ask.specs.declared.status.Status.TheVariants.{Done, Fault, Look, OutputFailed}
use Rattle.nj_ask.specs.Endings.{Sinks}
use Rattle.nj_one_answer.specs.Runs.{EndAlike, Failed, IsCutOff, SameRuns, SameUnlessFailed}
use Rattle.nj_one_answer.specs.Runs.IsCutOff.{output_failed, error_failed, lacked_memory}
use Rattle.nj_one_answer.proofs.RunAnswers.{alike-runs-are-same}

-- a sink that received the given bytes, and has not failed
abbrev took : List ℕ → SinkState
took bytes = record { taken = Some bytes; failures = 0; took_since_failure = true }

-- standard output received the first, and standard error the second
abbrev wrote : (output error : List ℕ) → Sinks
wrote output error = record { output = took output; error = took error }

unfailed : (bytes more : List ℕ) → Failed (took bytes) (took more) → ⊥
unfailed bytes more (text, (front, rest, fails)) = let is = fails.took_since_failure in absurd cc

-- two lines
two_lines : SameUnlessFailed (took []) (took (0 ∷ [])) (took (1 ∷ [])) → ⊥
two_lines (inl failed) = unfailed [] (0 ∷ []) failed
two_lines (inr (inl failed)) = unfailed [] (1 ∷ []) failed
two_lines (inr (inr same)) = let is = same.taken in absurd cc

uncut : (output error more other : List ℕ) (status : Status) → (status ≡ OutputFailed → ⊥)
    → (status ≡ Fault → ⊥) → IsCutOff (wrote output error) (wrote more other) status → ⊥
uncut output error more other _ apart apart2 (output_failed failed kept) = apart refl
uncut output error more other _ apart apart2 (error_failed failed) = unfailed error other failed
uncut output error more other _ apart apart2 (lacked_memory told) = apart2 refl

-- two outputs with status 0
two_outputs : EndAlike (λ a b. a ≡ b) (wrote [] []) (wrote (0 ∷ []) []) (wrote (1 ∷ []) []) Done Done → ⊥
two_outputs alike =
    by (alike-runs-are-same (wrote [] []) (wrote (0 ∷ []) []) (wrote (1 ∷ []) []) Done Done alike)
  where
    by : IsCutOff (wrote [] []) (wrote (0 ∷ []) []) Done
        ⊎ (IsCutOff (wrote [] []) (wrote (1 ∷ []) []) Done
        ⊎ SameRuns (wrote [] []) (wrote (0 ∷ []) []) (wrote (1 ∷ []) []) Done Done) → ⊥
    by (inl cut) = uncut [] [] (0 ∷ []) [] Done (λ e. absurd cc) (λ e. absurd cc) cut
    by (inr (inl cut)) = uncut [] [] (1 ∷ []) [] Done (λ e. absurd cc) (λ e. absurd cc) cut
    by (inr (inr same)) = let is = same.output.taken in absurd cc

-- two statuses
two_statuses : EndAlike (λ a b. a ≡ b) (wrote [] []) (wrote [] []) (wrote [] []) Done Look → ⊥
two_statuses alike = by (alike-runs-are-same (wrote [] []) (wrote [] []) (wrote [] []) Done Look alike)
  where
    by : IsCutOff (wrote [] []) (wrote [] []) Done
        ⊎ (IsCutOff (wrote [] []) (wrote [] []) Look
        ⊎ SameRuns (wrote [] []) (wrote [] []) (wrote [] []) Done Look) → ⊥
    by (inl cut) = uncut [] [] [] [] Done (λ e. absurd cc) (λ e. absurd cc) cut
    by (inr (inl cut)) = uncut [] [] [] [] Look (λ e. absurd cc) (λ e. absurd cc) cut
    by (inr (inr same)) = let is = same.status_is in absurd cc
