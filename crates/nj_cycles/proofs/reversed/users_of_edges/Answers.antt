use Rattle.std.proofs.Common.{◌≡◌, subst, arith}
use Rattle.nj_cycles.specs.Inside.Users.{HaveUsers, NeedsSoFar}
use Rattle.nj_cycles.proofs.UserLemmas.{begins_with_none, all_edges}
use Rattle.nj_cycles.proofs.reversed.users_of_edges.Goals as goal

pub edges-init : goal.edges-init
edges-init g c =
    let makers = g.I.EdgeInputs.makers c.args.inputs.now in
    let count = g.I.EdgeInputs.count c.args.inputs.now in
    begins_with_none makers count c.in_ok-users.users.items
    (subst (λ n. HaveUsers n (λ e m. ⊥) c.in_ok-users.users.items) c.edge_count.ensures.count
    c.in_ok-users.ensures)

pub returns : goal.returns
returns g c =
    let makers = g.I.EdgeInputs.makers c.args.inputs.now in
    let count = g.I.EdgeInputs.count c.args.inputs.now in
    let all : c.edges.edge ≡ count = omega
    (arith, c.edge_count-edge-end.ensures.count, c.edges.auto.edge-end, c.edges-test.false) in
    all_edges makers count c.edges.users.items c.edge_count.ensures.known
    (subst (λ n. HaveUsers count (NeedsSoFar makers n 0) c.edges.users.items) all c.edges.invariant)
