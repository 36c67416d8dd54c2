use Rattle.std.proofs.Common.{false, refl, sym, ◌∙◌, arith, length, ◌<◌}
use Rattle.std.proofs.lemmas.List.{get_or_read}
use Rattle.nj_cycles.proofs.Marking.{more_one}
use Rattle.nj_cycles.proofs.on_cycle.Marks.mark.Goals as goal

pub returns-clause-more : goal.returns-clause-more
returns-clause-more c =
    let old = c.args.self.now in
    let lt : c.args.edge < length old.flags.items = omega (arith, c.requires, old.flags.ok.0) in
    more_one old _ c.args.edge lt (sym (get_or_read old.flags.items c.args.edge c.index.result.now lt
    c.index.ensures false) ∙ c.if-index.false) refl c.in_ok-push.ensures.items
