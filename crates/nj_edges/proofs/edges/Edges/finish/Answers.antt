use Rattle.std.proofs.Common.{◌∙◌, ap, subst}
use Rattle.nj_edges.specs.EdgeTables.{EdgeTable}
use Rattle.nj_edges.specs.Graph.{IsFirstCycle}
use Rattle.nj_edges.specs.Inside.EdgesHeld.{lists_of}
use Rattle.nj_edges.proofs.GraphLemmas.{acyclic-held}
use Rattle.nj_edges.proofs.RootLemmas.{roots-held}
use Rattle.nj_edges.proofs.edges.Edges.finish.Goals as goal

pub invariant_of-result : goal.invariant_of-result
invariant_of-result c =
    let none = subst (IsFirstCycle c.args.self.edges) c.in-Ok-None.field-0-is c.in-Ok-None.ensures in
    let found = c.in-Ok.ensures in
    let closed = ap (λ (t : EdgeTable). t.«open») c.self.view_is ∙ c.requires in
    record {
      table = c.self.invariant;
      closed = closed;
      acyclic = acyclic-held c.self.inside.files (lists_of c.self.inside.lists) c.args.self c.self.view_is
          none;
      roots_are = roots-held _ _ c.self.invariant.edges_are closed c.in-Ok.found.roots.items
          found.roots;
      users_are = found.users;
      validation_users_are = found.validation_users;
    }
