use Rattle.std.proofs.Common.{map, take_all, sym, ap, subst, ◌∙◌, arith}
use Rattle.nj_edge_env.specs.ReferencesHeld.{ReferringKeyModel}
use Rattle.nj_edge_env.specs.Inside.CyclesHeld.{AreSortedKeys, key_held, referring_key}
use Rattle.nj_edge_env.proofs.ReferenceLemmas.{are_references}
use Rattle.nj_edge_env.proofs.key_references.references_of.Goals as goal

pub returns : goal.returns
returns c =
    let lines = c.args.rule.now.lines in
    let names = c.as_slice-names.result.now in
    are_references lines names (subst (AreSortedKeys lines) (sym c.as_slice-names.ensures.value)
    c.in_ok-sorted.ensures) (map {B = ReferringKeyModel} key_held c.names.keys.items)
    (c.names.invariant ∙ ap (map {B = ReferringKeyModel} (λ name. referring_key lines names name.now))
    (take_all c.names.name-index names (omega arith)))
