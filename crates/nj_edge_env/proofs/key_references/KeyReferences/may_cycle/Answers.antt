use Rattle.std.proofs.Common.{◌∙◌, sym}
use Rattle.nj_edge_env.proofs.CycleLemmas.{unbound_counted, never_cycle}
use Rattle.nj_edge_env.proofs.key_references.KeyReferences.may_cycle.Goals as goal

pub returns : goal.returns
returns c = λ lines are off.
    let keys = c.args.self.now in
    let counts = c.deref.result.now in
    never_cycle lines keys counts c.in_ok-first_cycle.field-0 are
    (unbound_counted keys c.key_count.result counts
    (c.deref.ensures.value ∙ c.in_ok-counts.ensures.items_if_clones_equal (λ y same. same))
    c.key_count.ensures) c.in_ok-first_cycle.ensures.first (sym c.is_some.ensures ∙ off)
