use Rattle.std.proofs.Common.{◌∙◌, sym}
use Rattle.nj_text.specs.Words.{part_model}
use Rattle.nj_edge_env.proofs.ReferenceLemmas.{none_refers, one_refers}
use Rattle.nj_edge_env.proofs.key_references.refers.Goals as goal

pub returns-then-refers_in : goal.returns-then-refers_in
returns-then-refers_in c = sym (one_refers c.args.value.now c.parts.index (part_model c.part.result)
    c.args.name.now c.part.ensures (sym c.refers_in.ensures ∙ c.if-refers_in.true))

pub parts-preserved : goal.parts-preserved
parts-preserved c = none_refers c.args.value.now c.parts.index (part_model c.part.result) c.args.name.now
    c.part.ensures c.parts.invariant (sym c.refers_in.ensures ∙ c.if-refers_in.false)
