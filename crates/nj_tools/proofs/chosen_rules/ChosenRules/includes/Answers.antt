use Rattle.std.proofs.Common.{◌≡◌, ◌∙◌, ap, sym, subst, length, map, rules}
use Rattle.std.specs.List.Sorted.{IsSortedBy}
use Rattle.nj_graph.specs.Graph.{is_before}
use Rattle.nj_tools.specs.Compdb.{is_chosen}
use Rattle.nj_tools.proofs.ChosenLemmas.{search-is, chosen-found}
use Rattle.nj_tools.proofs.chosen_rules.ChosenRules.includes.Goals as goal

pub returns-else-is_empty : goal.returns-else-is_empty
returns-else-is_empty c =
    let rule = c.args.rule.now in
    let up = subst (IsSortedBy (λ name other. is_before name.now other.now)) (sym c.deref.ensures.value)
    c.self.invariant in
    let found = search-is (λ name. name.now) c.deref.result.now rule c.binary_search.result up
    c.binary_search.ensures.bound c.binary_search.ensures.position in
    let some : length c.deref.result.now ≡ 0 → ⊥ = search rules in
    let names = ap (λ names. is_chosen names rule)
    (ap (λ items. map (λ name. name.now) items) c.deref.ensures.value ∙ c.self.view_is) in
    c.is_ok.ensures.value ∙ chosen-found (λ name. name.now) c.deref.result.now rule _ some found ∙ names
