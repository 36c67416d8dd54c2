use Rattle.std.proofs.Common.{◌∙◌}
use Rattle.nj_cycles.proofs.UserLemmas.{items_at}
use Rattle.nj_cycles.proofs.reversed.users_of.Goals as goal

pub returns : goal.returns
returns c = c.deref.ensures.value ∙ items_at c.args.users.now c.args.edge c.index-users-edge.result c.requires
    c.index-users-edge.is
