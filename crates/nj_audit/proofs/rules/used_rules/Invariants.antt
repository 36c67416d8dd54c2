use Rattle.std.proofs.Common.{◌≡◌, ◌<◌, ◌==◌, ◌||◌, ℕ, length, false}
use Rattle.std.specs.List.{list_any}
use Rattle.std.specs.Prelude.{slice_index_or}
use Rattle.nj_audit.specs.Audit.{is_used_rule, rule_number}
use Rattle.nj_audit.proofs.HandleLemmas.{AreOf, numbers_of}
use Rattle.nj_audit.proofs.rules.used_rules.Given as goal

abbrev pub invariant-edges : goal.invariant-edges
invariant-edges l = record {
  of : AreOf l.graph l.edge-iterator;
  len : length l.used.items ≡ length l.graph.declarations.rules;
  used : (rule : ℕ) → rule < length l.graph.declarations.rules
      → (slice_index_or l.used.items rule false
      || list_any (λ edge. rule_number l.graph edge == rule) (numbers_of l.edge-iterator))
      ≡ is_used_rule l.graph rule;
}
