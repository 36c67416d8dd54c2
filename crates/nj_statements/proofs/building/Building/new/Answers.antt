use Rattle.nj_statements.proofs.Holding.{has-none}
use Rattle.nj_statements.proofs.building.Building.new.Goals as goal

pub returns : goal.returns
returns c = has-none _ c.new.ensures c.new-2.ensures.nothing c.new-2.ensures.no_names c.new-4.ensures.items
    c.new-5.ensures.items c.new-6.ensures.items c.new-7.ensures.items
