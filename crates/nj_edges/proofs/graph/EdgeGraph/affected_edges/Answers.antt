use Rattle.std.proofs.Common.{◌<◌, ◌≤◌, [], map, length, ap, subst, ◌∙◌, arith}
use Rattle.nj_edges.specs.Edges.{edge_at, outputs_of}
use Rattle.nj_names.specs.Files.{path_at}
use Rattle.nj_edges.specs.Inside.ChangesHeld.{FindsMore, HasInputOf}
use Rattle.nj_edges.proofs.ChangeLemmas.{files-paths, finding-begins, finding-ends, finding-continues}
use Rattle.nj_edges.proofs.graph.EdgeGraph.affected_edges.Goals as goal

pub edges-init : goal.edges-init
edges-init c =
    finding-begins c.args.self.now.edges (map (path_at c.args.self.now.files) c.args.files.now)
    c.in_ok-found.found c.add_users.new.found
    (c.in_ok-found.ensures ∙ ap (λ n. record { limit = n; numbers = [] }) c.edge_count.ensures.count)
    c.in_ok-add_users.ensures

pub outputs-requires : goal.outputs-requires
outputs-requires c = subst (λ n. c.edge_found-edge.result.0 < n) c.edges.invariant.limit
    c.edge_found-edge.ensures.known

pub edges-preserved : goal.edges-preserved
edges-preserved c =
    let below : c.edges.place < length c.edges.found.numbers =
    omega (arith, c.edges-test.true, ap length c.numbers.ensures.numbers) in
    let edges = c.args.self.now.edges in
    let outputs = files-paths c.args.self.now.files c.outputs.result.now
    (outputs_of (edge_at edges c.edge_found-edge.result.0)) c.outputs.ensures.files in
    finding-continues edges (map (path_at c.args.self.now.files) c.args.files.now) c.edges.found
    c.add_users-in-edges.new.found c.edges.place below c.edges.invariant
    (subst (λ paths. FindsMore (HasInputOf edges paths) c.edges.found c.add_users-in-edges.new.found)
    (outputs ∙ ap (λ n. outputs_of (edge_at edges n)) c.edge_found-edge.ensures.edge)
    c.in_ok-add_users-2.ensures)

pub returns-clause-found : goal.returns-clause-found
returns-clause-found c =
    let past : length c.edges.found.numbers ≤ c.edges.place =
    omega (arith, c.edges-test.false, ap length c.numbers.ensures.numbers) in
    finding-ends c.args.self.now.edges (map (path_at c.args.self.now.files) c.args.files.now) c.edges.found
    c.edges.place past c.edges.invariant
