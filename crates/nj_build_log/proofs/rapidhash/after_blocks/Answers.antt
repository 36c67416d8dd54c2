use Rattle.std.proofs.Common.{◌*◌, ap, sym, ◌∙◌, add-one}
use Rattle.nj_build_log.specs.Rapid.{with_states, states_after}
use Rattle.nj_build_log.proofs.rapidhash.after_blocks.Goals as goal

pub turns-preserved : goal.turns-preserved
turns-preserved c =
    c.with_block-states.ensures
    ∙ ap (with_states c.args.text.now (48 * c.turns.block)) c.turns.invariant
    ∙ ap (states_after c.args.text.now c.args.state) (sym (add-one c.turns.block))
