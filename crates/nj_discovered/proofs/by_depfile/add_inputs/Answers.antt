use Rattle.nj_discovered.proofs.FinderLemmas.{appends-next}
use Rattle.nj_discovered.proofs.by_depfile.add_inputs.Goals as goal

pub inputs-preserved : goal.inputs-preserved
inputs-preserved c =
    appends-next c.args.named.now.inputs c.inputs.number c.input.result.now c.args.names.now c.inputs.names
    c.add_clean.new.names
    c.args.numbers.now.items c.inputs.numbers.items c.add_clean.new.numbers.items c.input.ensures
    c.inputs.invariant c.in_ok-add_clean.ensures
