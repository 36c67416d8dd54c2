-- Lemmas on the references kept for rules: which variables refer to which.
use Rattle.std.proofs.Common.{◌≡◌, ◌≢◌, ◌⊎◌, inl, inr, ℕ, ◌<◌, ◌==◌, true, false, List, [], ◌∷◌, ◌++◌, length}
use Rattle.std.proofs.Common.{get_or, set, Option, Some, None, is_some, unwrap_or, slice_get, refl, sym, ap}
use Rattle.std.proofs.Common.{◌∙◌, suc, zero, true≢false, subst}
use Rattle.std.proofs.lemmas.List.{get_or-set_same, get_or-set_other}
use Rattle.std.proofs.lemmas.Bool.Decides.{eqb_tells}
use Rattle.nj_scope.specs.Rules.{RuleModel}
use Rattle.nj_edge_env.specs.ReferencesHeld.{ReferringKeyModel, TellsCycles}
use Rattle.nj_statements.specs.Answers.{HasReferences}
use Rattle.nj_statements.specs.Inside.EdgeSteps.{SameReferences}
use Rattle.nj_statements.proofs.Lists.{get-longer}

pub references-none : (rules : List RuleModel) → HasReferences [] rules
references-none rules number keys is = absurd (true≢false (ap is_some (sym is)))

-- the rules that are declared later change nothing
pub references-longer : (kept : List (Option (List ReferringKeyModel))) (rules more : List RuleModel)
    → HasReferences kept rules → HasReferences kept (rules ++ more)
references-longer kept rules more held number keys is = let (rule, there, tells) = held number keys is in
    (rule, get-longer rules more number rule there, tells)

pub references-same : (kept others : List (Option (List ReferringKeyModel))) (rules : List RuleModel)
    → SameReferences kept others → HasReferences kept rules → HasReferences others rules
references-same kept others rules same held number keys is = held number keys (same number ∙ is)

-- capacity for one more
pub same-pushed : (kept : List (Option (List ReferringKeyModel))) → SameReferences kept (kept ++ None ∷ [])
same-pushed [] zero = refl
same-pushed [] (suc number) = refl
same-pushed (k ∷ kept) zero = refl
same-pushed (k ∷ kept) (suc number) = same-pushed kept number

pub same-then : (first second third : List (Option (List ReferringKeyModel))) → SameReferences first second
    → SameReferences second third → SameReferences first third
same-then first second third p q number = p number ∙ q number

-- the references kept for one more rule
pub references-set : (kept new : List (Option (List ReferringKeyModel))) (rules : List RuleModel) (at : ℕ)
    (rule : RuleModel) (keys : List ReferringKeyModel) → at < length kept → new ≡ set kept at (Some keys)
    → slice_get rules at ≡ Some rule → TellsCycles rule.lines keys → HasReferences kept rules
    → HasReferences new rules
references-set kept new rules at rule keys within is there tells held number others kept_of =
    by (eqb_tells number at)
  where
    some_same : {X : Type 0} {x y : X} → Some x ≡ Some y → x ≡ y
    some_same {x = x} h = ap (λ o. unwrap_or o x) h

    set_is : get_or (set kept at (Some keys)) number None ≡ Some others
    set_is = sym (ap (λ (l : List (Option (List ReferringKeyModel))). get_or l number None) is) ∙ kept_of

    by : ((number == at) ≡ true × (number ≡ at)) ⊎ ((number == at) ≡ false × (number ≢ at))
        → (r : RuleModel) × (slice_get rules number ≡ Some r) × TellsCycles r.lines others
    by (inl (same, h)) =
        let own : Some keys ≡ Some others = sym (get_or-set_same kept at (Some keys) None within)
        ∙ ap (λ n. get_or (set kept at (Some keys)) n None) (sym h) ∙ set_is in
        (rule, ap (slice_get rules) h ∙ there, subst (TellsCycles rule.lines) (some_same own) tells)
    by (inr (other, apart)) = held number others
        (sym (get_or-set_other kept at number (Some keys) None apart) ∙ set_is)

pub same-rule : (rules : List RuleModel) (number : ℕ) (rule other : RuleModel)
    → slice_get rules number ≡ Some rule → slice_get rules number ≡ Some other → rule ≡ other
same-rule rules number rule other h k = ap (λ o. unwrap_or o rule) (sym h ∙ k)
