use Rattle.std.proofs.Common.{◌<◌, ◌≤◌, [], map, length, ap, subst, ◌∙◌, arith}
use Rattle.nj_edges.specs.declared.users.RowPart.TheVariants.{CountedInputs, Outputs}
use Rattle.nj_edges.specs.Edges.{edge_at, outputs_of}
use Rattle.nj_names.specs.Files.{path_at}
use Rattle.nj_edges.specs.Inside.ChangesHeld.{FindsMore}
use Rattle.nj_edges.specs.Inside.DirtyHeld.{HasOneIn}
use Rattle.nj_edges.specs.Inside.UsersHeld.{numbers_of}
use Rattle.nj_edges.proofs.ChangeLemmas.{files-paths}
use Rattle.nj_edges.proofs.DirtyLemmas.{finding-begins, finding-continues, finding-ends}
use Rattle.nj_edges.proofs.graph.EdgeGraph.dirty_edges.Goals as goal

pub edges-init : goal.edges-init
edges-init c =
    finding-begins c.args.self.now.edges (map (path_at c.args.self.now.files) c.args.files.now)
    (numbers_of c.args.edges.now) c.in_ok-found.found c.add_all.new.found c.add_users_in.new.found
    c.add_users_in-2.new.found
    (c.in_ok-found.ensures ∙ ap (λ n. record { limit = n; numbers = [] }) c.edge_count.ensures.count)
    c.in_ok-add_all.ensures
    (c.in_ok-add_users_in.ensures Outputs c.in_ok-makers.ensures)
    (c.in_ok-add_users_in-2.ensures CountedInputs c.in_ok-users.ensures)

pub add_users_in-requires-2-clause-limit : goal.add_users_in-requires-2-clause-limit
add_users_in-requires-2-clause-limit c =
    (c.in_ok-add_users_in.ensures Outputs c.in_ok-makers.ensures).limit ∙ c.in_ok-add_all.ensures.limit
    ∙ ap (λ s. s.limit) c.in_ok-found.ensures ∙ c.edge_count.ensures.count

pub outputs-requires : goal.outputs-requires
outputs-requires c = subst (λ n. c.edge_found-edge.result.0 < n) c.edges.invariant.limit
    c.edge_found-edge.ensures.known

pub edges-preserved : goal.edges-preserved
edges-preserved c =
    let below : c.edges.place < length c.edges.found.numbers =
    omega (arith, c.edges-test.true, ap length c.numbers.ensures.numbers) in
    let edges = c.args.self.now.edges in
    let outputs = files-paths c.args.self.now.files c.outputs.result.now
    (outputs_of (edge_at edges c.edge_found-edge.result.0)) c.outputs.ensures.files in
    finding-continues edges (map (path_at c.args.self.now.files) c.args.files.now)
    (numbers_of c.args.edges.now) c.edges.found c.add_users_in-in-edges.new.found c.edges.place below
    c.edges.invariant
    (subst (λ paths. FindsMore (HasOneIn CountedInputs edges paths) c.edges.found
    c.add_users_in-in-edges.new.found) (outputs
    ∙ ap (λ n. outputs_of (edge_at edges n)) c.edge_found-edge.ensures.edge)
    (c.in_ok-add_users_in-3.ensures CountedInputs c.in_ok-users.ensures))

pub returns-clause-found : goal.returns-clause-found
returns-clause-found c =
    let past : length c.edges.found.numbers ≤ c.edges.place =
    omega (arith, c.edges-test.false, ap length c.numbers.ensures.numbers) in
    finding-ends c.args.self.now.edges (map (path_at c.args.self.now.files) c.args.files.now)
    (numbers_of c.args.edges.now) c.edges.found c.edges.place past c.edges.invariant
