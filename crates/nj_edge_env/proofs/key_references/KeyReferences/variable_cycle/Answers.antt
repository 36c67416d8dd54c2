use Rattle.std.proofs.Common.{◌∙◌, Some, sym, ap, arith, option_map}
use Rattle.nj_edge_env.specs.Blocks.{bound_in}
use Rattle.nj_edge_env.specs.ReferencesHeld.{name_at}
use Rattle.nj_edge_env.proofs.CycleLemmas.{all_counted, reported}
use Rattle.nj_edge_env.proofs.key_references.KeyReferences.variable_cycle.Goals as goal

pub returns-in-Some : goal.returns-in-Some
returns-in-Some c = λ lines tells.
    let block = bound_in c.args.blocks.now c.args.edge in
    let keys = c.args.self.now in
    let counts = c.deref.result.now in
    let counted = all_counted block keys c.keys.number c.keys.counts.items counts c.keys.invariant
    (omega arith) c.deref.ensures.value in
    ap Some c.key-in-Some.ensures ∙ sym (ap (option_map (name_at keys)) c.in-Some.is)
    ∙ reported block lines keys counts c.in_ok-number.field-0 tells counted c.in_ok-number.ensures.first

pub returns : goal.returns
returns c = λ lines tells.
    let block = bound_in c.args.blocks.now c.args.edge in
    let keys = c.args.self.now in
    let counts = c.deref.result.now in
    let counted = all_counted block keys c.keys.number c.keys.counts.items counts c.keys.invariant
    (omega arith) c.deref.ensures.value in
    sym (ap (option_map (name_at keys)) c.in-None.is)
    ∙ reported block lines keys counts c.in_ok-number.field-0 tells counted c.in_ok-number.ensures.first
