use Rattle.std.proofs.Common.{◌≡◌, ◌<◌, ◌≤◌, ℕ, [], ◌∷◌, length, Some, slice_get, ap, sym, subst, ◌∙◌, arith}
use Rattle.nj_names.specs.NumberSets.{NumberSetModel}
use Rattle.nj_edges.specs.declared.edges.EdgeNo.{EdgeNo}
use Rattle.nj_edges.specs.Chains.{inputs_with}
use Rattle.nj_edges.specs.Edges.{edge_at}
use Rattle.nj_names.specs.Files.{path_at}
use Rattle.nj_edges.specs.Inside.ChainsHeld.{ComeFromEarlier, HasInput, Traces}
use Rattle.nj_edges.proofs.ChainLemmas.{chain-begins, chain-continues, chain-found, chain-none}
use Rattle.nj_edges.proofs.ChainLemmas.{come-from-earlier, lead}
use Rattle.nj_edges.proofs.ChainOrder.{leftmost-found, order-begins, order-continues}
use Rattle.nj_edges.proofs.graph.EdgeGraph.chain_from.Goals as goal

pub edges-init : goal.edges-init
edges-init c =
    let first = c.args.first.0 in
    let found_is = c.in_ok-search.ensures.found ∙ ap (λ n. record { limit = n; numbers = first ∷ [] })
    c.edge_count.ensures.count in
    record {
      searches = chain-begins c.args.self.now c.args.kinds first
          (path_at c.args.self.now.files c.args.to) c.in_ok-search.search.found
          c.in_ok-search.search.arrivals.items found_is c.in_ok-search.ensures.arrivals;
      in_order = order-begins c.args.self.now c.args.kinds first c.in_ok-search.search.found.numbers
          c.in_ok-search.search.arrivals.items
          (ap (λ (found : NumberSetModel). found.numbers) found_is) c.in_ok-search.ensures.arrivals;
    }

pub step_to-requires-clause-edge : goal.step_to-requires-clause-edge
step_to-requires-clause-edge c = subst (λ n. c.edge_found-edge.result.0 < n) c.edges.invariant.searches.limit
    c.edge_found-edge.ensures.known

pub traced-requires-clause-place : goal.traced-requires-clause-place
traced-requires-clause-place c = omega (
  arith,
  c.edges-test.true,
  ap length c.numbers.ensures.numbers,
  c.edges.invariant.searches.count,
)

pub traced-requires-clause-earlier : goal.traced-requires-clause-earlier
traced-requires-clause-earlier c =
    subst ComeFromEarlier (sym c.deref.ensures.value)
    (come-from-earlier c.args.self.now c.args.kinds c.args.first.0
    (path_at c.args.self.now.files c.args.to) c.edges.search.found c.edges.search.arrivals.items
    c.edges.place c.edges.invariant.searches)

pub returns-in-Some : goal.returns-in-Some
returns-in-Some c =
    let g = c.args.self.now in
    let to = path_at c.args.self.now.files c.args.to in
    let held = c.edges.invariant in
    let arrivals = c.edges.search.arrivals.items in
    let below : c.edges.place < length c.edges.search.found.numbers =
    omega (arith, c.edges-test.true, ap length c.numbers.ensures.numbers) in
    let last = c.in-Some.ensures in
    let steps = c.in_ok-traced.field-0.items in
    let edge_is = ap (λ (e : EdgeNo). e.0) last.0 ∙ c.edge_found-edge.ensures.edge in
    let traced = subst (λ came. Traces came c.edges.place (c.in-Some.last ∷ []) steps)
    c.deref.ensures.value c.in_ok-traced.ensures in
    let count = (lead g c.args.kinds c.args.first.0 to c.edges.search.found arrivals c.edges.place
    held.searches below c.in-Some.last steps edge_is last.1 last.2 traced).1 in (
      chain-found g c.args.kinds c.args.first.0 to c.edges.search.found arrivals c.edges.place
          held.searches below c.in-Some.last steps edge_is last.1 last.2 traced,
      leftmost-found g c.args.kinds c.args.first.0 to c.edges.search.found arrivals c.edges.place
          held.searches held.in_order below c.in-Some.last steps
          (subst (λ e. (i : ℕ) → slice_get (inputs_with c.args.kinds (edge_at g.edges e)) i ≡ Some to
          → c.in-Some.last.index ≤ i) c.edge_found-edge.ensures.edge last.3) traced
          (omega (arith, count)),
    )

pub add_makers-requires-clause-limit : goal.add_makers-requires-clause-limit
add_makers-requires-clause-limit c = c.edges.invariant.searches.limit

pub add_makers-requires-clause-count : goal.add_makers-requires-clause-count
add_makers-requires-clause-count c = c.edges.invariant.searches.count

pub add_makers-requires-clause-known : goal.add_makers-requires-clause-known
add_makers-requires-clause-known c = subst (λ n. c.edge_found-edge.result.0 < n)
    c.edges.invariant.searches.limit
    c.edge_found-edge.ensures.known

pub edges-smaller : goal.edges-smaller
edges-smaller c = omega (
  arith,
  c.edges-test.true,
  ap length c.numbers.ensures.numbers,
  c.numbers.ensures.fits,
  c.edges.invariant.searches.limit,
)

pub edges-preserved : goal.edges-preserved
edges-preserved c =
    let g = c.args.self.now in
    let below : c.edges.place < length c.edges.search.found.numbers =
    omega (arith, c.edges-test.true, ap length c.numbers.ensures.numbers) in
    let to = path_at c.args.self.now.files c.args.to in
    let held = c.edges.invariant in
    record {
      searches = chain-continues g c.args.kinds c.args.first.0 to c.edges.search.found
          c.add_makers.new.self.found c.edges.search.arrivals.items c.add_makers.new.self.arrivals.items
          c.edges.place below held.searches (subst (λ e. HasInput c.args.self.now c.args.kinds to e → ⊥)
          c.edge_found-edge.ensures.edge c.in_default.ensures) c.in_ok-add_makers.ensures.adds;
      in_order = order-continues g c.args.kinds c.args.first.0 to c.edges.search.found
          c.add_makers.new.self.found c.edges.search.arrivals.items c.add_makers.new.self.arrivals.items
          c.edges.place below held.searches held.in_order c.in_ok-add_makers.ensures.adds
          c.in_ok-add_makers.ensures.in_order;
    }

pub returns : goal.returns
returns c =
    let past : length c.edges.search.found.numbers ≤ c.edges.place =
    omega (arith, c.edges-test.false, ap length c.numbers.ensures.numbers) in
    chain-none c.args.self.now c.args.kinds c.args.first.0
    (path_at c.args.self.now.files c.args.to) c.edges.search.found c.edges.search.arrivals.items
    c.edges.place c.edges.invariant.searches past
