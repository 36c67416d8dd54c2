-- The first fault of a depfile that files meet.
use Rattle.std.proofs.Common.{◌≡◌, ◌==◌, inl, inr, ℕ, Bool, true, cond, Option, Some, None, List}
use Rattle.std.proofs.Common.{[], ◌∷◌}
use Rattle.std.proofs.Common.{refl, sym, ap, ◌∙◌, eq-eqb}
use Rattle.std.specs.Prelude.{Contains, find}
use Rattle.std.proofs.lemmas.Bool.{eqb-true}
use Rattle.std.proofs.lemmas.List.Folds.{list_any-from_Any}
use Rattle.std.proofs.lemmas.Map.Views.{Contains-from_any}
use Rattle.std.proofs.lemmas.Option.{same_Some}
use Rattle.nj_ask.specs.declared.discovered.DiscoveredGraph.{DiscoveredGraph}
use Rattle.nj_ask.specs.declared.doubts.EdgeFault.{EdgeFault}
use Rattle.nj_ask.specs.Answers.{HasDepfileFault, IsClear}
use Rattle.nj_ask.specs.Endings.{program_line}
use Rattle.nj_ask.specs.Manifest.{is_one_of}
use Rattle.nj_ask.specs.NeededFaults.{IsFirstFault}
use Rattle.nj_agreement.proofs.FlagAnswers.{same-flag}

is-there : (numbers : List ℕ) (n : ℕ) → Contains numbers n → is_one_of numbers n ≡ true
is-there numbers n has = list_any-from_Any (λ other. n == other) numbers
    (has.0, n, has.1, has.2, eq-eqb n n refl)

one-there : (numbers : List ℕ) (n : ℕ) → is_one_of numbers n ≡ true → Contains numbers n
one-there numbers n is = Contains-from_any eqb-true n numbers is

find-same : {X : Type 0} (p q : X → Bool) (xs : List X) → ((x : X) → p x ≡ q x) → find p xs ≡ find q xs
find-same p q [] same = refl
find-same p q (x ∷ xs) same =
    ap (λ b. cond b (Some x) (find p xs)) (same x) ∙ ap (cond (q x) (Some x)) (find-same p q xs same)

module _ (known : DiscoveredGraph) (files : List (List ℕ)) where
  pub firsts-agree : (one other : Option EdgeFault) → IsFirstFault known files one
      → IsFirstFault known files other → one ≡ other
  firsts-agree one other is also =
      is.first
      ∙ find-same (λ (fault : EdgeFault). is_one_of is.needed fault.edge.0)
      (λ (fault : EdgeFault). is_one_of also.needed fault.edge.0) known.faults.items
      (λ (fault : EdgeFault). let n = fault.edge.0 in
      same-flag (is_one_of is.needed n) (is_one_of also.needed n)
      (λ h. is-there also.needed n ((also.are_needed n).1 ((is.are_needed n).0 (one-there is.needed n h))))
      (λ h. is-there is.needed n ((is.are_needed n).1 ((also.are_needed n).0 (one-there also.needed n h)))))
      ∙ sym also.first

  pub fault-lines-agree : (one other : List ℕ) → HasDepfileFault known files one
      → HasDepfileFault known files other → one ≡ other
  fault-lines-agree one other is also =
      let same : is.fault ≡ also.fault = same_Some is.fault also.fault
      (firsts-agree (Some is.fault) (Some also.fault) is.first also.first) in
      is.line_is ∙ ap (λ (fault : EdgeFault). program_line fault.text.items) same ∙ sym also.line_is

  pub clear-or-fault : (line : List ℕ) → IsClear known files → HasDepfileFault known files line → ⊥
  clear-or-fault line (inl none) has =
      absurd (let e : Some has.fault ≡ None = has.first.first
      ∙ ap (find (λ (fault : EdgeFault). is_one_of has.first.needed fault.edge.0)) none in cc)
  clear-or-fault line (inr none) has =
      absurd (let e = firsts-agree (Some has.fault) None has.first none in cc)
