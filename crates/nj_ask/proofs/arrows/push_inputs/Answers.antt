use Rattle.std.proofs.Common.{[], take, drop, refl, ap, List, ℕ, ◌∙◌}
use Rattle.std.specs.Prelude.{codes, slice_get}
use Rattle.std.proofs.lemmas.Result.{on_ok_weaker}
use Rattle.nj_graph.specs.Handles.{edge_of, files_in, paths_of}
use Rattle.nj_ask.specs.DrawnNodes.{Node}
use Rattle.nj_ask.specs.Drawings.{End, arrows_from, drawn_ends, ends, stated_count}
use Rattle.nj_ask.proofs.DrawnLemmas.{four-steps, same-ends}
use Rattle.nj_ask.proofs.arrows.push_inputs.Goals as goal

pub returns : goal.returns
returns c =
    let nodes = c.args.drawing.nodes.now in
    let folds = c.args.drawing.folds in
    let edge = edge_of c.args.edge in
    let paths = paths_of edge in
    let implicit = files_in edge.graph paths.implicit_inputs in
    let count = stated_count (slice_get c.args.drawing.discoveries.now edge.number) edge in
    let f : List Node → List End → List ℕ = λ linked rest. arrows_from edge (drawn_ends nodes linked rest) in
    let t0 = c.args.text.now.items in
    let t1 = c.push_inputs_of.new.text.items in
    let t2 = c.push_inputs_of-2.new.text.items in
    let t3 = c.push_inputs_of-3.new.text.items in
    let t4 = c.push_inputs_of-4.new.text.items in
    let l0 = c.args.linked.now in
    let l1 = c.push_inputs_of.new.linked in
    let l2 = c.push_inputs_of-2.new.linked in
    let l3 = c.push_inputs_of-3.new.linked in
    let l4 = c.push_inputs_of-4.new.linked in
    let a = ends folds [] (files_in edge.graph paths.explicit_inputs) in
    let b = ends folds [] (take count implicit) in
    let d = ends folds (codes " [style=dashed]") (drop count implicit) in
    let e = ends folds (codes " [style=dotted]") (files_in edge.graph paths.order_only_inputs) in
    on_ok_weaker c.push_inputs_of-4.result
    (λ four. four-steps f t0 t1 t2 t3 t4 l0 l1 l2 l3 l4 a b d e
    (λ rest. c.in_ok-push_inputs_of.ensures rest
    ∙ same-ends f t0 l0 folds [] _ _ c.explicit_inputs.ensures rest)
    (λ rest. c.in_ok-push_inputs_of-2.ensures rest ∙ same-ends f t1 l1 folds [] _ _
    (c.split_at-stated.ensures.first ∙ ap (take c.stated_count-stated_count.result) c.implicit_inputs.ensures
    ∙ ap (λ n. take n implicit) c.stated_count-stated_count.ensures) rest)
    (λ rest. c.in_ok-push_inputs_of-3.ensures rest ∙ same-ends f t2 l2 folds (codes " [style=dashed]") _ _
    (c.split_at-stated.ensures.others ∙ ap (drop c.stated_count-stated_count.result) c.implicit_inputs.ensures
    ∙ ap (λ n. drop n implicit) c.stated_count-stated_count.ensures) rest)
    (λ rest. four rest
    ∙ same-ends f t3 l3 folds (codes " [style=dotted]") _ _ c.order_only_inputs-order_only.ensures rest)
    refl)
    c.push_inputs_of-4.ensures
