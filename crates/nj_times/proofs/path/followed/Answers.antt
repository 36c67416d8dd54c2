use Rattle.std.proofs.Common.{◌≡◌, ◌<◌, ◌-◌, ◌∙◌, [], ◌∷◌, ℕ, List, Option, Some, ap, arith, length, map}
use Rattle.std.proofs.Common.{option_map, refl, subst, sym}
use Rattle.std.specs.Prelude.{slice_index}
use Rattle.std.proofs.lemmas.List.{map-append}
use Rattle.std.proofs.lemmas.List.Elements.{All-nil, All-push, All-same}
use Rattle.nj_edges.specs.declared.edges.EdgeNo.{EdgeNo}
use Rattle.nj_times.specs.Inside.CostsHeld.{IsOpen, costliest}
use Rattle.nj_edges.specs.Needs.{makers_of_inputs}
use Rattle.nj_times.proofs.PathLemmas.{is_some_next, number_within, open_done, open_init, open_passed}
use Rattle.nj_times.proofs.PathLemmas.{open_taken}
use Rattle.nj_times.proofs.path.followed.Goals as goal

pub turns-init : goal.turns-init
turns-init c =
    let edges = c.args.graph.now.edges in
    let last = option_map (λ (edge : EdgeNo). edge.0) c.args.last in
    record {
      is_open = subst (λ (es : List EdgeNo). IsOpen edges c.args.costs.now c.args.order.now
          (length c.args.order.now)
          last last (map (λ (edge : EdgeNo). edge.0) es)) (sym c.new-path.ensures.items)
          (open_init edges c.args.costs.now c.args.order.now last c.requires.order
          (number_within (length edges) c.args.last c.requires.last));
      known = All-same (λ (edge : EdgeNo). edge.0 < length edges) c.new-path.result.items []
          c.new-path.ensures.items
          (All-nil (λ (edge : EdgeNo). edge.0 < length edges));
    }

pub turns-preserved-then-is_next : goal.turns-preserved-then-is_next
turns-preserved-then-is_next c =
    let edges = c.args.graph.now.edges in
    let costs = c.args.costs.now in
    let order = c.args.order.now in
    let last = option_map (λ (edge : EdgeNo). edge.0) c.args.last in
    let path = map (λ (edge : EdgeNo). edge.0) c.turns.path.items in
    let edge : ℕ = slice_index c.args.order.now (c.turns.turn - 1) in
    let next : EdgeNo = record { 0 = edge } in
    let is : option_map (λ (edge : EdgeNo). edge.0) c.turns.next ≡ Some edge =
    is_some_next (option_map (λ (edge : EdgeNo). edge.0) c.turns.next) edge
    (sym c.is_next.ensures ∙ c.if-is_next.true) in
    let longer = ap (map (λ (edge : EdgeNo). edge.0)) c.in_ok-push.ensures.items
    ∙ map-append (λ (edge : EdgeNo). edge.0) c.turns.path.items (next ∷ []) in
    let before : c.turns.turn - 1 < length order =
    (let le = c.turns.invariant.is_open.turns in omega (arith, le, c.turns-test.true)) in
    record {
      is_open = subst (λ (o : Option ℕ). IsOpen edges costs order (c.turns.turn - 1) last o
          (map (λ (edge : EdgeNo). edge.0) c.push.new.self.items)) (sym c.costliest_maker-next.ensures)
          (subst (λ (es : List ℕ). IsOpen edges costs order (c.turns.turn - 1) last
          (costliest costs (makers_of_inputs edges edge)) es) (sym longer)
          (open_taken edges costs order c.turns.turn last path edge c.requires.order c.turns-test.true refl
          (subst (λ (o : Option ℕ). IsOpen edges costs order c.turns.turn last o path) is
          c.turns.invariant.is_open)));
      known = All-same (λ (edge : EdgeNo). edge.0 < length edges) c.push.new.self.items _
          c.in_ok-push.ensures.items
          (All-push (λ (edge : EdgeNo). edge.0 < length edges) c.turns.path.items next c.turns.invariant.known
          (c.requires.order.within (c.turns.turn - 1) before));
    }

pub turns-preserved : goal.turns-preserved
turns-preserved c = record {
  is_open = open_passed c.args.graph.now.edges c.args.costs.now c.args.order.now c.turns.turn
      (option_map (λ (edge : EdgeNo). edge.0) c.args.last)
      (option_map (λ (edge : EdgeNo). edge.0) c.turns.next)
      (map (λ (edge : EdgeNo). edge.0) c.turns.path.items) c.turns-test.true
      (sym c.is_next.ensures ∙ c.if-is_next.false) c.turns.invariant.is_open;
  known = c.turns.invariant.known;
}

pub returns-clause-path : goal.returns-clause-path
returns-clause-path c =
    open_done c.args.graph.now.edges c.args.costs.now c.args.order.now c.turns.turn
    (option_map (λ (edge : EdgeNo). edge.0) c.args.last) (option_map (λ (edge : EdgeNo). edge.0) c.turns.next)
    (map (λ (edge : EdgeNo). edge.0) c.turns.path.items) (omega (arith, c.turns-test.false))
    c.turns.invariant.is_open
