use Rattle.std.proofs.Common.{◌≡◌, map, take}
use Rattle.nj_edge_env.specs.ReferencesHeld.{refers_unbound}
use Rattle.nj_edge_env.proofs.key_references.referring_key.Given as goal

abbrev pub invariant-names : goal.invariant-names
invariant-names l = l.refers.items ≡ map (λ other. refers_unbound l.rule.lines l.name other.now)
    (take l.other-index l.names)
