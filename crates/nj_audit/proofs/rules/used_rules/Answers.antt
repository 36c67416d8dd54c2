use Rattle.std.proofs.Common.{◌<◌, ◌||◌, ◌==◌, false, get_or, length, ap, rules, sym, ◌∙◌, arith}
use Rattle.std.specs.List.{list_any}
use Rattle.std.proofs.lemmas.List.{get_or-replicate}
use Rattle.nj_graph.specs.Handles.{edges_in}
use Rattle.nj_audit.specs.Audit.{edge_numbers, rule_number}
use Rattle.nj_audit.proofs.HandleLemmas.{numbers_of, numbers_there}
use Rattle.nj_audit.proofs.rules.used_rules.Goals as goal

pub edges-init : goal.edges-init
edges-init c =
    let g = c.args.graph.now in
    let are = c.into_iter-edge-iterator.ensures.into_iter_gives ∙ c.edges-edge-items.ensures in
    let numbers = ap numbers_of are ∙ numbers_there g (edge_numbers g) in
    let count = ap length c.rules.ensures.held in
    record {
      of = are ∙ ap (edges_in g) (sym numbers);
      len = search rules;
      used = λ rule below.
          let within : rule < length c.rules.result.now = omega (arith, below, count) in
          ap (λ flags. get_or flags rule false
          || list_any (λ edge. rule_number g edge == rule) (numbers_of c.into_iter-edge-iterator.result))
          (c.in_ok-used.ensures.items_if_clones_equal (λ y is. is))
          ∙ ap (λ b. b
          || list_any (λ edge. rule_number g edge == rule) (numbers_of c.into_iter-edge-iterator.result))
          (get_or-replicate (length c.rules.result.now) rule false false within)
          ∙ ap (list_any (λ edge. rule_number g edge == rule)) numbers;
    }
