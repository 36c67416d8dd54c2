use Rattle.nj_edge_env.proofs.ReferenceLemmas.{KeysBelow}
use Rattle.nj_edge_env.proofs.key_references.sorted_keys.Given as goal

abbrev pub invariant-keys : goal.invariant-keys
invariant-keys l = KeysBelow l.rule.lines l.number l.names.items
