use Rattle.std.proofs.Common.{◌<◌, ◌≤◌, [], map, length, ap, subst, ◌∙◌, arith}
use Rattle.nj_edges.specs.Distances.{MakesOneOf}
use Rattle.nj_edges.specs.Edges.{edge_at, inputs_of}
use Rattle.nj_names.specs.Files.{path_at}
use Rattle.nj_edges.specs.Inside.ChangesHeld.{FindsMore}
use Rattle.nj_edges.proofs.ChangeLemmas.{files-paths}
use Rattle.nj_edges.proofs.NeededLemmas.{needed-are, needed-begins, needed-continues, needed-nearest}
use Rattle.nj_edges.proofs.graph.EdgeGraph.needed_edges.Goals as goal

pub edges-init : goal.edges-init
edges-init c =
    needed-begins c.args.self.now.edges (map (path_at c.args.self.now.files) c.args.files.now)
    c.in_ok-found.found c.add_makers.new.found
    (c.in_ok-found.ensures ∙ ap (λ n. record { limit = n; numbers = [] }) c.edge_count.ensures.count)
    c.in_ok-add_makers.ensures

pub inputs-requires : goal.inputs-requires
inputs-requires c = subst (λ n. c.edge_found-edge.result.0 < n) c.edges.invariant.limit
    c.edge_found-edge.ensures.known

pub edges-preserved : goal.edges-preserved
edges-preserved c =
    let below : c.edges.place < length c.edges.found.numbers =
    omega (arith, c.edges-test.true, ap length c.numbers.ensures.numbers) in
    let edges = c.args.self.now.edges in
    let inputs = files-paths c.args.self.now.files c.inputs.result.now
    (inputs_of (edge_at edges c.edge_found-edge.result.0)) c.inputs.ensures.files in
    needed-continues edges (map (path_at c.args.self.now.files) c.args.files.now) c.edges.found
    c.add_makers-in-edges.new.found c.edges.place below c.edges.invariant
    (subst (λ paths. FindsMore (MakesOneOf edges paths) c.edges.found c.add_makers-in-edges.new.found)
    (inputs ∙ ap (λ n. inputs_of (edge_at edges n)) c.edge_found-edge.ensures.edge)
    c.in_ok-add_makers-2.ensures)

pub returns-clause-needed : goal.returns-clause-needed
returns-clause-needed c =
    let past : length c.edges.found.numbers ≤ c.edges.place =
    omega (arith, c.edges-test.false, ap length c.numbers.ensures.numbers) in
    let held = c.edges.invariant in
    needed-are c.args.self.now.edges (map (path_at c.args.self.now.files) c.args.files.now) held.distance
    c.edges.found.numbers c.edges.place past held.searched

pub returns-clause-nearest_first : goal.returns-clause-nearest_first
returns-clause-nearest_first c =
    let past : length c.edges.found.numbers ≤ c.edges.place =
    omega (arith, c.edges-test.false, ap length c.numbers.ensures.numbers) in
    let held = c.edges.invariant in
    needed-nearest c.args.self.now.edges (map (path_at c.args.self.now.files) c.args.files.now) held.distance
    c.edges.found.numbers c.edges.place past held.searched
