use Rattle.std.proofs.Common.{◌∙◌, ◌<◌, ◌≤◌, arith, ap, length, subst, sym}
use Rattle.nj_edges.specs.Distances.{MakesOneOf}
use Rattle.nj_edges.specs.Edges.{edge_at, inputs_of}
use Rattle.nj_edges.specs.Inside.ChangesHeld.{FindsMore}
use Rattle.nj_edges.proofs.ChangeLemmas.{files-paths}
use Rattle.nj_edges.proofs.NeedsLemmas.{finds-it, finds-not, searched-continues}
use Rattle.nj_edges.proofs.search_state.SearchState.finds.Goals as goal

pub returns-then-self-numbers : goal.returns-then-self-numbers
returns-then-self-numbers c =
    let past : length c.edges.self.found.numbers ≤ c.edges.self.place =
    omega (arith, c.if-self-numbers.true, ap length c.numbers.ensures.numbers) in
    finds-not c.args.graph.now.edges c.args.self.now _ c.args.edge.0
    (sym c.contains.ensures ∙ c.edges-test.true) past c.edges.invariant.edge c.edges.invariant.starts
    c.edges.invariant.searched c.requires.search

pub edges-preserved : goal.edges-preserved
edges-preserved c =
    let g = c.args.graph.now in
    let old = c.edges.self.found in
    let below : c.edges.self.place < length old.numbers =
    omega (arith, c.if-self-numbers.false, ap length c.numbers.ensures.numbers) in
    let inputs = files-paths g.files c.inputs.result.now
    (inputs_of (edge_at g.edges c.edge_found-user.result.0)) c.inputs.ensures.files in
    record {
      edge = c.edges.invariant.edge;
      starts = c.edges.invariant.starts;
      searched = searched-continues g.edges c.args.self.now.starts.items old c.add_makers.new.found
          c.edges.self.place below c.edges.invariant.searched
          (subst (λ paths. FindsMore (MakesOneOf g.edges paths) old c.add_makers.new.found)
          (inputs ∙ ap (λ n. inputs_of (edge_at g.edges n)) c.edge_found-user.ensures.edge)
          c.in_ok-add_makers.ensures);
    }

pub returns : goal.returns
returns c = finds-it c.args.graph.now.edges c.args.self.now _ c.args.edge.0
    (sym c.contains.ensures ∙ c.edges-test.false) c.edges.invariant.edge c.edges.invariant.starts
    c.edges.invariant.searched c.requires.search
