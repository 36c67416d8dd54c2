use Rattle.std.proofs.Common.{rules, arith}
use Rattle.std.specs.Ordering.{nat_cmp, is_lt}
use Rattle.std.specs.Cmp.Lexicographic.{slice_cmp}
use Rattle.std.proofs.lemmas.Cmp.{nat_list_cmp_total}
use Rattle.std.proofs.lemmas.List.Sorted.{ranks_by, answers_always}
use Rattle.nj_edge_env.proofs.ReferenceLemmas.{keys_more, all_sorted}
use Rattle.nj_edge_env.proofs.key_references.sorted_keys.Goals as goal

pub keys-preserved : goal.keys-preserved
keys-preserved c = keys_more c.args.rule.now.lines c.keys.number c.keys.names.items c.push.new.self.items
    c.key.result c.keys.invariant c.in_ok-push.ensures.items c.key.ensures

pub returns : goal.returns
returns c = record {
  rise = c.in_ok-sort_by.ensures.sorted (λ name other. is_lt (slice_cmp nat_cmp name.now other.now))
      (ranks_by nat_list_cmp_total (λ name. name.now)) (answers_always _ _ _ (λ f a r f' k. search rules));
  all = all_sorted c.args.rule.now.lines c.keys.number c.keys.names.items c.sort_by.new.self.items
      c.keys.invariant (omega arith) c.sort_by.ensures.permutation;
}
