use Rattle.std.proofs.Common.{◌≡◌, map, take}
use Rattle.nj_edge_env.specs.ReferencesHeld.{ReferringKeyModel}
use Rattle.nj_edge_env.specs.Inside.CyclesHeld.{key_held, referring_key}
use Rattle.nj_edge_env.proofs.key_references.references_of.Given as goal

abbrev pub invariant-names : goal.invariant-names
invariant-names l =
    map {B = ReferringKeyModel} key_held l.keys.items
    ≡ map {B = ReferringKeyModel} (λ name. referring_key l.rule.lines l.names name.now)
    (take l.name-index l.names)
