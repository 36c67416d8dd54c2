-- Two lists of undeclared inputs.
use Rattle.std.proofs.Common.{◌≡◌, ℕ, ◌<◌, Result, Ok, Err, IfOk, List, [], ◌∷◌, length, map, refl, ap}
use Rattle.std.proofs.Common.{◌∙◌, bytes_eq}
use Rattle.std.specs.Global.{Vec}
use Rattle.std.specs.List.{All, IsDistinct}
use Rattle.std.proofs.lemmas.List.Elements.{All-head, All-tail}
use Rattle.nj_scope.specs.ReadingList.{ReadStatement}
use Rattle.nj_edges.proofs.ChainLemmas.{only-file}
use Rattle.nj_deps.specs.Logs.{LogModel}
use Rattle.nj_graph.specs.declared.undeclared.UndeclaredInput.{UndeclaredInput}
use Rattle.nj_graph.specs.Undeclared.{AreThose, AreUndeclared, InputOfEdge, input_of_edge}
use Rattle.nj_graph.specs.Undeclared.AreThose.{none, has_it, lacks_it}
use Rattle.nj_agreement.specs.Agreement.{AgreeIfOk}

pub those-agree : {A : Type 0} {P : A → Type 0} (items one other : List A) → AreThose P items one
    → AreThose P items other → one ≡ other
those-agree _ _ _ none none = refl
those-agree _ _ _ (has_it {item} is are) (has_it also are2) =
    ap (λ those. item ∷ those) (those-agree _ _ _ are are2)
those-agree _ _ _ (has_it is are) (lacks_it not are2) = absurd (not is)
those-agree _ _ _ (lacks_it not are) (has_it is are2) = absurd (not is)
those-agree _ _ _ (lacks_it not are) (lacks_it also are2) = those-agree _ _ _ are are2

module _ (files : List (List ℕ)) (distinct : IsDistinct bytes_eq files) where
  abbrev pub Known : UndeclaredInput → Type 0
  Known input = input.file.0 < length files

  pub same-inputs : (one other : List UndeclaredInput) → All Known one → All Known other
      → map (input_of_edge files) one ≡ map (input_of_edge files) other → one ≡ other
  same-inputs [] [] known known2 are = refl
  same-inputs [] (j ∷ others) known known2 are = absurd cc
  same-inputs (i ∷ ones) [] known known2 are = absurd cc
  same-inputs (i ∷ ones) (j ∷ others) known known2 are =
      let here : input_of_edge files i ≡ input_of_edge files j = cc in
      let rest : map (input_of_edge files) ones ≡ map (input_of_edge files) others = cc in
      let file = only-file files distinct i.file j.file (All-head Known i ones known)
      (All-head Known j others known2) (ap (λ (k : InputOfEdge). k.path) here) in
      let edge = ap (λ (k : InputOfEdge). k.edge) here in
      ap (λ e. record { edge = record { 0 = e }; file = i.file } ∷ ones) edge
      ∙ ap (λ f. record { edge = j.edge; file = f } ∷ ones) file
      ∙ ap (λ is. j ∷ is) (same-inputs ones others (All-tail Known i ones known)
      (All-tail Known j others known2) rest)

  pub undeclared-agree : {E : Type 0} (log : LogModel) (entries : List ReadStatement)
      → (one other : Result (Vec UndeclaredInput) E)
      → IfOk one (λ is. AreUndeclared log entries (map (input_of_edge files) is.items))
      → IfOk other (λ is. AreUndeclared log entries (map (input_of_edge files) is.items))
      → IfOk one (λ is. All Known is.items) → IfOk other (λ is. All Known is.items)
      → AgreeIfOk (λ a b. a.items ≡ b.items) one other
  undeclared-agree log entries (Ok a) (Ok b) is also known known2 =
      same-inputs a.items b.items known known2 (those-agree _ _ _ is also)
  undeclared-agree log entries (Ok a) (Err f) _ _ _ _ = tt
  undeclared-agree log entries (Err e) (Ok b) _ _ _ _ = tt
  undeclared-agree log entries (Err e) (Err f) _ _ _ _ = tt
