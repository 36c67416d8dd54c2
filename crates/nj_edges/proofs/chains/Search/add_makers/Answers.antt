use Rattle.std.proofs.Common.{◌≤◌, option_map, length, ap, refl, sym, subst, ◌∙◌}
use Rattle.std.specs.Prelude.{slice_index}
use Rattle.nj_edges.specs.declared.chains.Search.{Search}
use Rattle.nj_edges.specs.Chains.{inputs_with}
use Rattle.nj_edges.specs.Edges.{edge_at}
use Rattle.nj_edges.proofs.ChainLemmas.{adds-all, adds-maker-as, adds-source-as}
use Rattle.nj_edges.proofs.ChainOrder.{order-all, order-maker, order-source}
use Rattle.nj_edges.proofs.chains.Search.add_makers.Goals as goal
use Rattle.nj_edges.proofs.chains.Search.add_makers.Goals.{in-Some-maker+in_ok-add, in_default-maker}

pub inputs-preserved : goal.inputs-preserved
inputs-preserved c =
    let g = c.args.graph.now in
    let first = c.args.self.now in
    let old = c.inputs.self in
    let user = slice_index c.args.self.now.found.numbers c.args.place in
    let held = c.inputs.invariant.adds in
    elim c.match-maker.branch [
      | in-Some-maker+in_ok-add w ↦
          let found_is = ap (λ (s : Search). s.found) w.self-is ∙ w.in_ok-add.ensures.found in
          let came_is = ap (λ (s : Search). s.arrivals.items) w.self-is ∙ w.in_ok-add.ensures.arrivals in
          record {
            adds = adds-maker-as g c.args.kinds c.args.edge c.inputs.index c.args.place c.in-Some.step
                c.in-Some.ensures first.found old.found first.arrivals.items old.arrivals.items
                c.requires.place
                c.requires.edge
                held w.in-Some-maker.maker.0
                (sym c.maker.ensures.maker ∙ ap (option_map (λ e. e.0)) w.in-Some-maker.is)
                c.match-maker.self.found c.match-maker.self.arrivals.items found_is came_is;
            in_order = order-maker g c.args.kinds user c.inputs.index first.found old.found
                old.arrivals.items c.inputs.invariant.in_order c.args.edge c.args.place
                w.in-Some-maker.maker.0
                c.in-Some.step c.in-Some.ensures held.count held.finds.all c.match-maker.self.found
                c.match-maker.self.arrivals.items found_is came_is;
          }
      | in_default-maker w ↦
          let found_is = ap (λ (s : Search). s.found) w.self-is in
          let came_is = ap (λ (s : Search). s.arrivals.items) w.self-is in
          record {
            adds = adds-source-as g c.args.kinds c.args.edge c.inputs.index c.args.place c.in-Some.step
                c.in-Some.ensures first.found old.found first.arrivals.items old.arrivals.items
                c.requires.place
                c.requires.edge
                held (sym c.maker.ensures.maker ∙ ap (option_map (λ e. e.0)) w.in_default-maker.is)
                c.match-maker.self.found c.match-maker.self.arrivals.items found_is came_is;
            in_order = order-source g c.args.kinds user c.inputs.index first.found old.found
                old.arrivals.items c.inputs.invariant.in_order c.match-maker.self.found
                c.match-maker.self.arrivals.items found_is came_is;
          }
    ]

pub returns : goal.returns
returns c =
    let g = c.args.graph.now in
    let user = slice_index c.args.self.now.found.numbers c.args.place in
    let past : length (inputs_with c.args.kinds
    (edge_at g.edges (slice_index c.args.self.now.found.numbers c.args.place))) ≤ c.inputs.index
    = subst (λ e. length (inputs_with c.args.kinds (edge_at g.edges e)) ≤ c.inputs.index)
    c.requires.edge c.in_default.ensures in
    let adds = adds-all g c.args.kinds user c.args.place c.inputs.index c.args.self.now.found
    c.inputs.self.found c.args.self.now.arrivals.items c.inputs.self.arrivals.items past
    c.inputs.invariant.adds in
    record {
      adds = adds;
      in_order = order-all g c.args.kinds user c.args.place c.inputs.index c.args.self.now.found
          c.inputs.self.found c.args.self.now.arrivals.items c.inputs.self.arrivals.items past refl
          c.requires.place adds c.inputs.invariant.in_order;
    }
