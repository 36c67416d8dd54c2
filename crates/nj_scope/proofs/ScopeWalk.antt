-- The look-up of a name, from a scope to those around it.
use Rattle.std.proofs.Common.{arith, ◌≡◌, ℕ, suc, ◌<◌, List, Option, Some, None, unwrap_or, is_some, IfSome}
use Rattle.std.proofs.Common.{length}
use Rattle.std.proofs.Common.{refl, sym, ap, ◌∙◌, subst, true≢false}
use Rattle.std.specs.Option.{option_or}
use Rattle.nj_scope.specs.Scopes.{IsScope, first_given, ScopeModel, parent_at}
use Rattle.nj_scope.specs.Scopes.IsScope.{outermost, child}

abbrev pub IsWithin : List ScopeModel → Option ℕ → Type 0
IsWithin scopes None = Unit {0}
IsWithin scopes (Some n) = n < length scopes

abbrev pub scopes_left : Option ℕ → ℕ
scopes_left None = 0
scopes_left (Some n) = suc n

some_same : {X : Type 0} {x y : X} → Some x ≡ Some y → x ≡ y
some_same {x = x} h = ap (λ o. unwrap_or o x) h

within_beyond : (scopes : List ScopeModel) (n : ℕ) (parent : Option ℕ) → n < length scopes
    → IfSome parent (λ p. p < n) → IsWithin scopes parent
within_beyond scopes n parent h earlier = grind arith

pub left-falls : (n : ℕ) (parent : Option ℕ) → IfSome parent (λ p. p < n) → scopes_left parent < suc n
left-falls n parent earlier = grind arith

module _ {X : Type 0} where
  -- a look-up in the scopes that are left has the result of a look-up in all scopes
  abbrev pub LooksFrom : (own : ℕ → Option X) → List ScopeModel → (found : Option X) → Option ℕ → Type 0
  LooksFrom own scopes found None = found ≡ None
  LooksFrom own scopes found (Some n) = (around : List ℕ) × IsScope (parent_at scopes) n around
      × (found ≡ first_given own around)

  pub record StillLooks (own : ℕ → Option X) (scopes : List ScopeModel) (scope : ℕ) (next : Option ℕ) : Type 0
    where
      pub within : IsWithin scopes next
      pub looks : (around : List ℕ) → IsScope (parent_at scopes) scope around
          → LooksFrom own scopes (first_given own around) next

  module _ (own : ℕ → Option X) (scopes : List ScopeModel) (scope : ℕ) where
    pub looks-front : scope < length scopes → StillLooks own scopes scope (Some scope)
    looks-front h = record { within = h; looks = λ around is. (around, is, refl) }

    -- a scope in which it is found
    found_here : (found : Option X) (x : X) (n : ℕ) → own n ≡ Some x → LooksFrom own scopes found (Some n)
        → found ≡ Some x
    found_here found x n here (_, outermost none, is) = is ∙ ap (λ o. option_or o None) here
    found_here found x n here (_, child {around = around} some inner, is) =
        is ∙ ap (λ o. option_or o (first_given own around)) here

    pub looks-found : (x : X) (n : ℕ) → StillLooks own scopes scope (Some n) → own n ≡ Some x
        → (around : List ℕ) → IsScope (parent_at scopes) scope around → first_given own around ≡ Some x
    looks-found x n still here around is =
        found_here (first_given own around) x n here (still.looks around is)

    -- a scope in which it is not found
    looks_beyond : (found : Option X) (n : ℕ) (parent : Option ℕ) → parent_at scopes n ≡ parent → own n ≡ None
        → LooksFrom own scopes found (Some n) → LooksFrom own scopes found parent
    looks_beyond found n None p nothing (_, outermost none, is) = is ∙ ap (λ o. option_or o None) nothing
    looks_beyond found n (Some q) p nothing (_, outermost none, is) =
        absurd (true≢false (ap is_some (sym p ∙ none)))
    looks_beyond found n None p nothing (_, child some inner, is) =
        absurd (true≢false (ap is_some (sym some ∙ p)))
    looks_beyond found n (Some q) p nothing (_, child {p = r} {around = around} some inner, is) = (
      around,
      subst (λ m. IsScope (parent_at scopes) m around) (some_same (sym some ∙ p)) inner,
      is
          ∙ ap (λ o. option_or o (first_given own around)) nothing,
    )

    pub looks-beyond : (n : ℕ) (parent : Option ℕ) → StillLooks own scopes scope (Some n) → own n ≡ None
        → parent ≡ parent_at scopes n → IfSome parent (λ p. p < n) → StillLooks own scopes scope parent
    looks-beyond n parent still nothing is earlier = record {
      within = within_beyond scopes n parent still.within earlier;
      looks = λ around at. looks_beyond (first_given own around) n parent (sym is) nothing
          (still.looks around at);
    }

    pub looks-end : StillLooks own scopes scope None → (around : List ℕ)
        → IsScope (parent_at scopes) scope around → first_given own around ≡ None
    looks-end still around is = still.looks around is
