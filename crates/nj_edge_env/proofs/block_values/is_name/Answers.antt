use Rattle.std.proofs.Common.{◌∙◌, sym, ap, Some}
use Rattle.std.proofs.lemmas.Slice.Eq.{bytes_eq-Decides}
use Rattle.nj_edge_env.proofs.BlockLemmas.{first-distinct}
use Rattle.nj_edge_env.proofs.block_values.is_name.Goals as goal

pub returns : goal.returns
returns c = λ is.
    first-distinct c.args.name.now c.args.names.now c.args.number c.count.ensures.each_name_once
    (c.name.ensures ∙ ap Some ((bytes_eq-Decides c.name.result.now c.args.name.now).0
    (sym c.eq.ensures ∙ is)))
