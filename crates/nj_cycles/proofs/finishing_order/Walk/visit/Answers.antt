use Rattle.nj_cycles.specs.declared.finishing_order.Stage.TheVariants.{Open}
use Rattle.std.proofs.Common.{◌<◌, length, sym, ◌∙◌, arith}
use Rattle.std.proofs.lemmas.List.{get_or-set_same}
use Rattle.nj_cycles.specs.declared.finishing_order.Stage.TheVariants.{Unseen}
use Rattle.nj_cycles.proofs.Walking.{kept_by_set, open_is_seen}
use Rattle.nj_cycles.proofs.Turns.{begins}
use Rattle.nj_cycles.proofs.finishing_order.Walk.visit.Goals as goal

pub turns-init : goal.turns-init
turns-init g c =
    let old = c.args.self.now in
    let e = c.args.edge in
    let r = c.requires in
    let k = c.in_ok-open.ensures in
    let inside : e < length old.stages.items = omega (arith, r.edge_in, r.sound.stages_len) in
    record {
      sound = begins (g.I.EdgeInputs.makers c.args.inputs.now) (g.I.EdgeInputs.count c.args.inputs.now) old
          c.open.new.self e r.sound r.path r.edge_in r.unseen k.path k.stages k.next k.order k.meets_open;
      seen = rw k.stages (λ is. open_is_seen
          (sym (get_or-set_same old.stages.items e Open Unseen inside) ∙ is));
      kept = rw k.stages (kept_by_set old.stages.items e Open inside open_is_seen);
    }
