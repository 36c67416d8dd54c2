-- How a graph represents the rules that it lists.
use Rattle.std.proofs.lemmas.Grind.{common_steps}
use Rattle.std.proofs.Common.{◌≡◌, ℕ, zero, suc, ◌+◌, ◌<◌, Bool, true, false, cond, ◌==◌, List, [], ◌∷◌, ◌++◌}
use Rattle.std.proofs.Common.{map, take, length, get_or, Option, Some, option_map, unwrap_or, refl, sym, ap}
use Rattle.std.proofs.Common.{◌∙◌, eqb-true, eq-eqb, arith}
use Rattle.std.specs.Prelude.{slice_get}
use Rattle.std.specs.List.Sorted.{IsSortedBy, IsStableBy}
use Rattle.std.proofs.lemmas.Cmp.{nat_list_cmp_total}
use Rattle.std.proofs.lemmas.List.{map_push, append-nil}
use Rattle.std.proofs.lemmas.List.Sorted.{ranks_by}
use Rattle.std.proofs.lemmas.Option.{slice_get-get_or}
use Rattle.nj_scope.specs.Rules.{RuleModel, phony_rule, rules_in}
use Rattle.nj_graph.specs.Graph.{is_before, sorted_by, main_rules_of, rule_name}
use Rattle.nj_graph.specs.Inside.GraphHeld.{HasMainRules}
use Rattle.nj_graph.proofs.SortLemmas.{sorted_by-map, stable_sort-is}

abbrev pub name_of : Option RuleModel → List ℕ
name_of rule = unwrap_or (option_map (λ r. r.name) rule) []

abbrev some_rule : RuleModel → Option RuleModel
some_rule rule = Some rule

module _ (rules : List RuleModel) where
  abbrev pub comes_before : ℕ → ℕ → Bool
  comes_before m n = is_before (rule_name rules m) (rule_name rules n)

  -- ---- rule by rule

  module _ (numbers : List ℕ) (i : ℕ) (rule : RuleModel) (below : i < length rules)
      (is : rule ≡ get_or rules i rule) (so_far : map (slice_get rules) numbers
      ≡ map some_rule (rules_in (take i rules) 0)) where
    -- with the next rule
    more : rules_in (take (i + 1) rules) 0
        ≡ rules_in (take i rules) 0 ++ cond (0 == rule.scope) (rule ∷ []) []
    more = grind (arith, common_steps)

    pub listed-rule : rule.scope ≡ 0 → map (slice_get rules) (numbers ++ i ∷ [])
        ≡ map some_rule (rules_in (take (i + 1) rules) 0)
    listed-rule scope =
        map_push (slice_get rules) numbers i ∙ ap (λ rs. rs ++ slice_get rules i ∷ []) so_far
        ∙ ap (λ r. map some_rule (rules_in (take i rules) 0) ++ r ∷ [])
        (slice_get-get_or rules i rule below ∙ ap some_rule (sym is))
        ∙ sym (map_push some_rule (rules_in (take i rules) 0) rule)
        ∙ ap (map some_rule) (sym (more ∙ ap (λ b. rules_in (take i rules) 0 ++ cond b (rule ∷ []) [])
        (eq-eqb 0 rule.scope (sym scope))))

    pub passed-rule : (rule.scope ≡ 0 → ⊥)
        → map (slice_get rules) numbers ≡ map some_rule (rules_in (take (i + 1) rules) 0)
    passed-rule other =
        so_far ∙ ap (map some_rule) (sym (more
        ∙ ap (λ b. rules_in (take i rules) 0 ++ cond b (rule ∷ []) [])
        (differs (0 == rule.scope) (eqb-true 0 rule.scope)) ∙ append-nil (rules_in (take i rules) 0)))
      where
        differs : (b : Bool) → (b ≡ true → 0 ≡ rule.scope) → b ≡ false
        differs true h = absurd (other (sym (h refl)))
        differs false h = refl

  -- ---- sorted

  abbrev by_name : Option RuleModel → Option RuleModel → Bool
  by_name r s = is_before (name_of r) (name_of s)

  pub sorted-held : (numbers sorted : List ℕ)
      → map (slice_get rules) numbers ≡ map some_rule (rules_in rules 0) → IsSortedBy comes_before sorted
      → IsStableBy comes_before numbers sorted → HasMainRules rules sorted
  unfolding main_rules_of
  sorted-held numbers sorted all up stable =
      ap (map (slice_get rules)) (stable_sort-is comes_before (ranks_by nat_list_cmp_total (rule_name rules))
      numbers sorted up stable)
      ∙ sorted_by-map (slice_get rules) by_name numbers ∙ ap (sorted_by by_name) all
      ∙ sym (sorted_by-map some_rule by_name (rules_in rules 0))

-- the rule at an index
pub held-at : (rules : List RuleModel) (numbers : List ℕ) (listed : List RuleModel)
    → map (slice_get rules) numbers ≡ map some_rule listed → (i d : ℕ) → i < length listed
    → slice_get rules (get_or numbers i d) ≡ Some (get_or listed i phony_rule)
held-at rules [] [] h i d below = absurd (omega (arith, below))
held-at rules [] (r ∷ listed) h i d below = absurd cc
held-at rules (n ∷ numbers) [] h i d below = absurd cc
held-at rules (n ∷ numbers) (r ∷ listed) h zero d below = cc
held-at rules (n ∷ numbers) (r ∷ listed) h (suc i) d below =
    let others : map (slice_get rules) numbers ≡ map some_rule listed = cc in
    held-at rules numbers listed others i d (omega (arith, below))
