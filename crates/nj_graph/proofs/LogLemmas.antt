-- Lemmas on the inputs that a deps log names for edges.
use Rattle.std.proofs.Common.{◌≡◌, ◌<◌, ◌≤◌, ◌⊎◌, inl, inr, ℕ, zero, suc, List, [], ◌∷◌, ◌++◌, length}
use Rattle.std.proofs.Common.{option_map, slice_get, Option, Some, refl, sym, ap, subst, ◌∙◌, arith}
use Rattle.std.proofs.Common.{length-append}
use Rattle.std.proofs.lemmas.Bool.{cases_lt}
use Rattle.std.proofs.lemmas.List.{length-map, map_push}
use Rattle.std.proofs.lemmas.Option.{slice_get-map}
use Rattle.nj_names.proofs.ListLemmas.{get-last}
use Rattle.nj_text.specs.Paths.{clean_path_of, without_leftmost_pair}
use Rattle.nj_scope.specs.ReadingList.{ReadStatement}
use Rattle.nj_deps.specs.Logs.{LogModel}
use Rattle.nj_deps.specs.declared.path_no.PathNo.{PathNo}
use Rattle.nj_graph.specs.DepsLogs.{inputs_logged, number_logged}
use Rattle.nj_graph.specs.Inside.InputSteps.{AreNamed}
use Rattle.nj_graph.specs.Inside.LogSteps.{AreNumbersLogged, inputs_by_numbers, numbers_if_any}

pub clean-empty : clean_path_of [] ≡ 46 ∷ []
unfolding clean_path_of without_leftmost_pair
clean-empty = refl

get-front : {A : Type 0} (xs : List A) (x : A) (n : ℕ) → n < length xs
    → slice_get (xs ++ x ∷ []) n ≡ slice_get xs n
get-front [] x n below = absurd (omega (arith, below))
get-front (z ∷ zs) x zero below = refl
get-front (z ∷ zs) x (suc n) below = get-front zs x n (omega (arith, below))

-- one more number
push-number : (log : LogModel) (stated : List ReadStatement) (numbers : List (Option ℕ))
    (number : Option ℕ) (m : ℕ) → AreNumbersLogged log stated numbers → length numbers ≡ m
    → number ≡ number_logged log stated m
    → AreNumbersLogged log stated (numbers ++ number ∷ [])
push-number log stated numbers number m are count is n below = by (cases_lt n (length numbers))
  where
    by : (n < length numbers) ⊎ (length numbers ≤ n)
        → slice_get (numbers ++ number ∷ []) n ≡ Some (number_logged log stated n)
    by (inl front) = get-front numbers number n front ∙ are n front
    by (inr past) =
        let last : n ≡ length numbers = omega (arith, past, below, length-append numbers (number ∷ [])) in
        ap (slice_get (numbers ++ number ∷ [])) last ∙ get-last numbers number
        ∙ ap Some (is ∙ ap (number_logged log stated) (sym (last ∙ count)))

pub numbers-push : (log : LogModel) (stated : List ReadStatement) (numbers : List (Option PathNo))
    (number : Option PathNo) (m : ℕ) → AreNumbersLogged log stated (numbers_if_any numbers)
    → length numbers ≡ m → option_map (λ n. n.0) number ≡ number_logged log stated m
    → AreNumbersLogged log stated (numbers_if_any (numbers ++ number ∷ []))
numbers-push log stated numbers number m are count is =
    subst (AreNumbersLogged log stated) (sym (map_push (option_map (λ n. n.0)) numbers number))
    (push-number log stated (numbers_if_any numbers) (option_map (λ n. n.0) number) m are
    (length-map numbers (option_map (λ n. n.0)) ∙ count) is)

-- the paths that a log names for an edge
abbrev pub logged : LogModel → List ReadStatement → (edge : ℕ) → List (List ℕ)
logged log stated edge = inputs_logged log (number_logged log stated edge)

pub log-named : (log : LogModel) (stated : List ReadStatement) (numbers : List (Option ℕ))
    → AreNumbersLogged log stated numbers → AreNamed (logged log stated) (inputs_by_numbers log numbers)
log-named log stated numbers are n below =
    slice_get-map (inputs_logged log) numbers n
    ∙ ap (option_map (inputs_logged log))
    (are n (subst (λ k. n < k) (length-map numbers (inputs_logged log)) below))
