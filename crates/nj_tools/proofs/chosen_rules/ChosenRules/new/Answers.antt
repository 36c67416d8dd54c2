use Rattle.std.proofs.Common.{map, string_bytes, take_all, ap, ◌∙◌, arith, rules}
use Rattle.std.proofs.lemmas.Cmp.{nat_list_cmp_total}
use Rattle.std.proofs.lemmas.List.Sorted.{ranks_by, answers_always}
use Rattle.nj_graph.specs.Graph.{is_before}
use Rattle.nj_tools.proofs.ChosenLemmas.{chosen-same}
use Rattle.nj_tools.proofs.chosen_rules.ChosenRules.new.Goals as goal

pub invariant_of-result : goal.invariant_of-result
invariant_of-result c =
    c.in_ok-sort_by.ensures.sorted (λ name other. is_before name.now other.now)
    (ranks_by nat_list_cmp_total (λ name. name.now))
    (answers_always _ _ _ (λ f a r f' k. search rules))

pub returns : goal.returns
returns c rule =
    let all = take_all c.rules.rule-index c.args.rules.now (omega arith) in
    chosen-same (λ name. name.now) (map string_bytes c.args.rules.now) c.rules.names.items
    c.sort_by.new.self.items
    (c.rules.invariant ∙ ap (map string_bytes) all) c.sort_by.ensures.permutation rule
