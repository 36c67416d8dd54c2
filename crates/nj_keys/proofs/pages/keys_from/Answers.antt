use Rattle.std.proofs.Common.{◌<◌, length, map, subst, true}
use Rattle.std.specs.Prelude.{All}
use Rattle.nj_graph.specs.Graph.{GraphModel, edges_of}
use Rattle.nj_needs.specs.PageWalks.{written}
use Rattle.nj_keys.specs.Keys.{HaveKeys, edges_stated}
use Rattle.nj_keys.specs.declared.pages.EdgeKey.{EdgeKey}
use Rattle.nj_keys.proofs.PageLemmas.{begins-after, leads-is, left-is}
use Rattle.nj_keys.proofs.pages.keys_from.Goals as goal

pub returns-clause-valid : goal.returns-clause-valid
returns-clause-valid c =
    leads-is c.args.targets.now c.graph-graph.result.now c.numbers.result.now c.graph-graph.ensures
    c.numbers.ensures.paths
    c.args.mark.now true (rw c.deref.ensures at c.in_ok-needs.ensures.0)

pub returns-clause-keys : goal.returns-clause-keys
returns-clause-keys c entries graph =
    let needs = c.in_ok-needs.needs in
    let counts = c.args.counts.now in
    let additions = map (λ text. text.now) c.args.additions.now in
    let left = left-is c.args.targets.now c.graph-graph.result.now c.numbers.result.now c.graph-graph.ensures
    c.numbers.ensures.paths c.args.mark.now needs (rw c.deref.ensures at c.in_ok-needs.ensures.1) in
    subst (λ numbers. HaveKeys additions c.args.bases.now
    (edges_stated counts (edges_of c.args.targets.now.graph)) entries
    (written c.args.take numbers) c.in_ok-page.page.keys.items) left
    (subst (λ (h : GraphModel). HaveKeys additions c.args.bases.now (edges_stated counts (edges_of h)) entries
    (written c.args.take needs.left) c.in_ok-page.page.keys.items) c.graph-graph.ensures
    (c.in_ok-page.ensures.keys entries (rw c.graph-graph.ensures graph)))

pub returns-clause-known : goal.returns-clause-known
returns-clause-known c =
    subst (λ (h : GraphModel). All (λ (n : EdgeKey). n.edge.0 < length (edges_of h))
    c.in_ok-page.page.keys.items)
    c.graph-graph.ensures c.in_ok-page.ensures.known

pub returns-clause-mark : goal.returns-clause-mark
returns-clause-mark c = (
  c.in_ok-needs.needs,
  begins-after c.args.targets.now c.graph-graph.result.now c.numbers.result.now c.graph-graph.ensures
      c.numbers.ensures.paths c.args.mark.now c.in_ok-needs.needs
      (rw c.deref.ensures at c.in_ok-needs.ensures.1),
  c.in_ok-page.ensures.mark,
)
