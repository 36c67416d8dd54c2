use Rattle.std.proofs.Common.{◌∙◌, ◌<◌, is_some, ap, length, subst, sym}
use Rattle.nj_edges.specs.EdgeTables.{EdgeTable}
use Rattle.nj_edges.proofs.EdgeLemmas.{held-again, held-output, unmade}
use Rattle.nj_edges.proofs.JoinedLemmas.{output-table}
use Rattle.nj_edges.proofs.joined_edges.JoinedEdges.add_output.Goals as goal

pub invariant_of-self-then-is_none : goal.invariant_of-self-then-is_none
invariant_of-self-then-is_none c =
    let below = subst (λ (t : EdgeTable). c.args.file.0 < length t.files) (sym c.self.view_is) c.requires in
    let none = unmade _ _ c.self.invariant c.args.file below c.maker.result c.maker.ensures.maker
    c.if-is_none.ensures in
    rw (c.set.ensures, c.in_ok-push.ensures.items, c.count.ensures.count)
    (held-output _ _ c.self.invariant c.args.file below none)

pub invariant_of-self-else-is_none : goal.invariant_of-self-else-is_none
invariant_of-self-else-is_none c =
    let below = subst (λ (t : EdgeTable). c.args.file.0 < length t.files) (sym c.self.view_is) c.requires in
    rw c.in_ok-push.ensures.items (held-again _ _ c.self.invariant c.args.file below
    (ap is_some (sym c.maker.ensures.maker) ∙ c.if-is_none.ensures))

pub returns-then-is_none : goal.returns-then-is_none
returns-then-is_none c = rw c.in_ok-push.ensures.items (output-table _ _ c.self.invariant _
    c.self.view_is c.args.file c.requires)

pub returns-else-is_none : goal.returns-else-is_none
returns-else-is_none c = rw c.in_ok-push.ensures.items (output-table _ _ c.self.invariant _
    c.self.view_is c.args.file c.requires)
