use Rattle.std.proofs.lemmas.Result.{on_ok_weaker}
use Rattle.nj_tools.proofs.EdgeObjectLemmas.{values-added}
use Rattle.nj_tools.proofs.edge_objects.add_values.Goals as goal

pub returns : goal.returns
returns c entries graph = on_ok_weaker c.add_value-10.result (λ is.
    values-added entries c.args.edge.number.0 c.args.object.now
    c.add_value.new.object c.add_value-2.new.object c.add_value-3.new.object c.add_value-4.new.object
    c.add_value-5.new.object
    c.add_value-6.new.object c.add_value-7.new.object c.add_value-8.new.object c.add_value-9.new.object
    c.add_value-10.new.object
    (c.in_ok-add_value.ensures entries graph) (c.in_ok-add_value-2.ensures entries graph)
    (c.in_ok-add_value-3.ensures entries graph)
    (c.in_ok-add_value-4.ensures entries graph) (c.in_ok-add_value-5.ensures entries graph)
    (c.in_ok-add_value-6.ensures entries graph)
    (c.in_ok-add_value-7.ensures entries graph) (c.in_ok-add_value-8.ensures entries graph)
    (c.in_ok-add_value-9.ensures entries graph) is)
    (c.add_value-10.ensures entries graph)
