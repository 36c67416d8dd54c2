use Rattle.std.proofs.Common.{◌≡◌, List, ◌∷◌, [], ◌++◌, None, option_map, sym, ap, subst, ◌∙◌}
use Rattle.std.proofs.Common.{append-nil, append_assoc, arith}
use Rattle.nj_edges.proofs.ChangeLemmas.{finds-none}
use Rattle.nj_edges.specs.Inside.ChangesHeld.{FindsMore}
use Rattle.nj_graph.specs.Edges.{inputs_of, maker_of}
use Rattle.nj_graph.specs.Graph.{GraphModel, edges_of}
use Rattle.nj_graph.specs.Handles.{GraphFile, edge_of, file_of, paths_of}
use Rattle.nj_audit.specs.Inside.Served.{AreFound, MakesOneOf}
use Rattle.nj_audit.proofs.HandleLemmas.{all-in, first-in, made-by, number-made, others-in, paths_in}
use Rattle.nj_audit.proofs.ListLemmas.{none-is}
use Rattle.nj_audit.proofs.ServingLemmas.{finds-maker, finds-source}
use Rattle.nj_audit.proofs.serving.add_makers.Goals as goal

pub inputs-init : goal.inputs-init
inputs-init c =
    let edge = edge_of c.args.edge in
    let all = all-in edge.graph c.into_iter-input-iterator.result (inputs_of (paths_of edge))
    (c.into_iter-input-iterator.ensures.into_iter_gives ∙ c.inputs-input-items.ensures) in
    record {
      of = all.1;
      done = [];
      whole = all.0;
      are = c.requires;
      finds = finds-none (MakesOneOf (edges_of edge.graph) []) c.args.found.now.set
          (λ e has. absurd (omega (arith, has.1)));
    }

pub add-requires : goal.add-requires
add-requires c =
    let input = file_of c.in-Some.input in
    let held = c.inputs.invariant in
    let of = first-in c.args.edge.graph.now input c.inputs.input-iterator c.next.new.self
    c.in-Some.ensures.steps held.of in
    let made = made-by input.graph (maker_of (edges_of input.graph) input.path)
    (edge_of c.in-Some-maker.maker)
    (ap (option_map edge_of) (sym c.in-Some-maker.is) ∙ c.maker.ensures) in
    subst (λ (h : GraphModel). AreFound h c.inputs.found) (sym (made.0 ∙ of)) held.are

pub inputs-preserved-in-Continue-1 : goal.inputs-preserved-in-Continue-1
inputs-preserved-in-Continue-1 c =
    let g = c.args.edge.graph.now in
    let held = c.inputs.invariant in
    let input = file_of c.in-Some.input in
    let maker = edge_of c.in-Some-maker.maker in
    let left = c.next.new.self in
    let new = c.add.new.found in
    let of = first-in g input c.inputs.input-iterator left c.in-Some.ensures.steps held.of in
    let made = made-by input.graph (maker_of (edges_of input.graph) input.path) maker
    (ap (option_map edge_of) (sym c.in-Some-maker.is) ∙ c.maker.ensures) in
    record {
      of = others-in g input c.inputs.input-iterator left c.in-Some.ensures.steps held.of;
      done = held.done ++ input.path ∷ [];
      whole = append_assoc held.done (input.path ∷ []) (paths_in left)
          ∙ ap (λ (fs : List GraphFile). held.done ++ paths_in fs) (sym c.in-Some.ensures.steps) ∙ held.whole;
      are = subst (λ (h : GraphModel). AreFound h new) (made.0 ∙ of) c.in_ok-add.ensures.are;
      finds = finds-maker (edges_of g) held.done input.path c.args.found.now.set c.inputs.found.set held.finds
          new.set maker.number
          (ap (λ (h : GraphModel). maker_of (edges_of h) input.path) (sym of) ∙ made.1)
          c.in_ok-add.ensures.more;
    }

pub inputs-preserved : goal.inputs-preserved
inputs-preserved c =
    let g = c.args.edge.graph.now in
    let held = c.inputs.invariant in
    let input = file_of c.in-Some.input in
    let left = c.next.new.self in
    let of = first-in g input c.inputs.input-iterator left c.in-Some.ensures.steps held.of in
    let none : maker_of (edges_of g) input.path ≡ None =
    ap (λ (h : GraphModel). maker_of (edges_of h) input.path) (sym of)
    ∙ sym (number-made input.graph c.maker.result (maker_of (edges_of input.graph) input.path)
    c.maker.ensures)
    ∙ ap (option_map (λ edge. (edge_of edge).number)) (none-is c.maker.result c.in_default.not-Some) in
    record {
      of = others-in g input c.inputs.input-iterator left c.in-Some.ensures.steps held.of;
      done = held.done ++ input.path ∷ [];
      whole = append_assoc held.done (input.path ∷ []) (paths_in left)
          ∙ ap (λ (fs : List GraphFile). held.done ++ paths_in fs) (sym c.in-Some.ensures.steps) ∙ held.whole;
      are = held.are;
      finds = finds-source (edges_of g) held.done input.path c.args.found.now.set c.inputs.found.set
          held.finds
          none;
    }

pub returns : goal.returns
returns c =
    let edge = edge_of c.args.edge in
    let held = c.inputs.invariant in
    let all = sym (append-nil held.done)
    ∙ ap (λ (fs : List GraphFile). held.done ++ paths_in fs) (sym c.in-None.ensures.steps.0) ∙ held.whole in
    record {
      are = held.are;
      more = subst (λ paths. FindsMore (MakesOneOf (edges_of edge.graph) paths) c.args.found.now.set
          c.inputs.found.set) all held.finds;
    }
