use Rattle.std.proofs.Common.{◌≡◌, ◌++◌, ◌∙◌, [], None, ap, flat_map, length, not, option_map, refl, Some}
use Rattle.std.proofs.Common.{rules, subst, sym}
use Rattle.std.specs.Prelude.{find, take_while}
use Rattle.std.specs.List.{range_with_len}
use Rattle.std.specs.Global.{Vec}
use Rattle.json.specs.Print.{print}
use Rattle.nj_scope.proofs.MemoryLemmas.{find-map}
use Rattle.nj_graph.specs.Graph.{IsGraphOf, edges_of}
use Rattle.nj_graph.specs.Handles.{edge_in, edge_of}
use Rattle.nj_tools.specs.EdgeObjects.{edge_object, object_at}
use Rattle.nj_tools.specs.Inside.ObjectTexts.{held_text}
use Rattle.nj_tools.specs.JsonObjects.{json_line, strings_are_utf8}
use Rattle.nj_tools.specs.Lines.{line}
use Rattle.nj_tools.proofs.EdgeLists.{edge-count, edges-in}
use Rattle.nj_tools.proofs.EdgeObjectLemmas.{is-unwritable, lines-all, lines-end, lines-next, lines-none}
use Rattle.nj_tools.proofs.EdgeObjectLemmas.{lines_left}
use Rattle.nj_tools.proofs.EdgeObjectLemmas.{object-at, passes-next, writable}
use Rattle.nj_tools.proofs.OutputLemmas.{adds_block, leaves_all, leaves_next, leaves_none, stops-with}
use Rattle.nj_tools.proofs.OutputLemmas.{stops_block}
use Rattle.nj_tools.proofs.OutputLemmas.{stops_memory, stops_next}
use Rattle.nj_tools.proofs.edge_objects.write_lines.Goals as goal

pub edges-init : goal.edges-init
edges-init g c =
    let d = c.args.discoveries.now in
    let h = c.args.graph.now in
    let is = c.into_iter-edge-iterator.ensures.into_iter_gives ∙ c.edges-edge-items.ensures in
    record {
      same = search rules;
      all = rw is (edges-in h _);
      left = λ entries graph.
          leaves_all _ _ _ (ap (lines_left entries d) is
          ∙ lines-all entries d h (range_with_len 0 (length (edges_of h)))
          ∙ ap (λ n. flat_map (λ edge. json_line (object_at entries d edge))
          (take_while (λ edge. strings_are_utf8 (object_at entries d edge)) (range_with_len 0 n)))
          (edge-count h entries graph));
      unwritable = λ entries graph.
          ap (find (λ edge. not (writable entries d edge))) is
          ∙ find-map (edge_in h) (λ edge. not (writable entries d edge))
          (range_with_len 0 (length (edges_of h)))
          ∙ ap (λ n. option_map (edge_in h) (find (λ edge. not (strings_are_utf8 (object_at entries d edge)))
          (range_with_len 0 n))) (edge-count h entries graph);
    }

pub returns-in_err-object-clause-text : goal.returns-in_err-object-clause-text
returns-in_err-object-clause-text g c entries graph =
    stops-with c.from_residual.result c.from_residual.ensures.1
    (stops_memory (c.edges.invariant.left entries graph) c.edges.out refl)

pub returns-in_default-clause-text : goal.returns-in_default-clause-text
returns-in_default-clause-text g c entries graph =
    let d = c.args.discoveries.now in
    let of_graph = subst (λ h. IsGraphOf h entries)
    (sym (rw c.in-Some.ensures.steps at c.edges.invariant.all).0) graph in
    let given = c.in_ok-object.ensures entries of_graph in
    let none : None ≡ option_map print (held_text (edge_object entries c.discovery_of-discovery.result
    (edge_of c.in-Some.edge).number)) =
    search rules in
    let none-at = object-at entries d (edge_of c.in-Some.edge) _ None c.discovery_of-discovery.ensures none in
    leaves_none (c.edges.invariant.left entries graph)
    (ap (lines_left entries d) c.in-Some.ensures.steps ∙ lines-end entries d _ _ none-at)

pub returns-in_default-clause-unwritable : goal.returns-in_default-clause-unwritable
returns-in_default-clause-unwritable g c entries graph =
    let d = c.args.discoveries.now in
    let of_graph = subst (λ h. IsGraphOf h entries)
    (sym (rw c.in-Some.ensures.steps at c.edges.invariant.all).0) graph in
    let given = c.in_ok-object.ensures entries of_graph in
    let none : None ≡ option_map print (held_text (edge_object entries c.discovery_of-discovery.result
    (edge_of c.in-Some.edge).number)) =
    search rules in
    let none-at = object-at entries d (edge_of c.in-Some.edge) _ None c.discovery_of-discovery.ensures none in
    sym (ap (find (λ edge. not (writable entries d edge))) c.in-Some.ensures.steps
    ∙ is-unwritable entries d _ _ none-at)
    ∙ c.edges.invariant.unwritable entries graph

pub returns-in_err-append_line-clause-text : goal.returns-in_err-append_line-clause-text
returns-in_err-append_line-clause-text g c entries graph =
    stops-with c.from_residual-in_err-append_line.result c.from_residual-in_err-append_line.ensures.1
    (stops_memory (c.edges.invariant.left entries graph) _ refl)

pub edges-preserved : goal.edges-preserved
edges-preserved g c =
    let d = c.args.discoveries.now in record {
      same = search rules;
      all = (rw c.in-Some.ensures.steps at c.edges.invariant.all).1;
      left = λ entries graph.
          let of_graph = subst (λ h. IsGraphOf h entries)
          (sym (rw c.in-Some.ensures.steps at c.edges.invariant.all).0) graph in
          let some = object-at entries d (edge_of c.in-Some.edge) _ (Some c.in-Some-2.object.items)
          c.discovery_of-discovery.ensures (ap (option_map (λ (v : Vec _). v.items)) (sym c.in-Some-2.is)
          ∙ c.in_ok-object.ensures entries of_graph) in
          leaves_next _ _ (c.edges.invariant.left entries graph)
          (ap (lines_left entries d) c.in-Some.ensures.steps
          ∙ lines-next entries d _ _ c.in-Some-2.object.items some)
          (adds_block _ refl (c.in_ok-append_line.ensures
          ∙ ap (λ t. c.edges.out.pending.now.items ++ line (t ++ [])) c.deref.ensures.value)
          c.in_ok-write_block.ensures.text);
      unwritable = λ entries graph.
          let of_graph = subst (λ h. IsGraphOf h entries)
          (sym (rw c.in-Some.ensures.steps at c.edges.invariant.all).0) graph in
          let some = object-at entries d (edge_of c.in-Some.edge) _ (Some c.in-Some-2.object.items)
          c.discovery_of-discovery.ensures (ap (option_map (λ (v : Vec _). v.items)) (sym c.in-Some-2.is)
          ∙ c.in_ok-object.ensures entries of_graph) in
          sym (ap (find (λ edge. not (writable entries d edge))) c.in-Some.ensures.steps
          ∙ passes-next entries d _ _ c.in-Some-2.object.items some)
          ∙ c.edges.invariant.unwritable entries graph;
    }

pub returns-in_err-write_block-clause-text : goal.returns-in_err-write_block-clause-text
returns-in_err-write_block-clause-text g c entries graph =
    let d = c.args.discoveries.now in
    let of_graph = subst (λ h. IsGraphOf h entries)
    (sym (rw c.in-Some.ensures.steps at c.edges.invariant.all).0) graph in
    let some = object-at entries d (edge_of c.in-Some.edge) _ (Some c.in-Some-2.object.items)
    c.discovery_of-discovery.ensures (ap (option_map (λ (v : Vec _). v.items)) (sym c.in-Some-2.is)
    ∙ c.in_ok-object.ensures entries of_graph) in
    stops-with c.from_residual-in_err-write_block.result c.from_residual-in_err-write_block.ensures.1
    (stops_next _ _ (c.edges.invariant.left entries graph)
    (ap (lines_left entries d) c.in-Some.ensures.steps
    ∙ lines-next entries d _ _ c.in-Some-2.object.items some)
    (stops_block _ refl (c.in_ok-append_line.ensures
    ∙ ap (λ t. c.edges.out.pending.now.items ++ line (t ++ [])) c.deref.ensures.value)
    c.in_err-write_block.ensures.text))

pub returns-clause-text : goal.returns-clause-text
returns-clause-text g c entries graph =
    let d = c.args.discoveries.now in
    leaves_none (c.edges.invariant.left entries graph)
    (ap (lines_left entries d) c.in-None.ensures.steps.0 ∙ lines-none entries d)

pub returns-clause-unwritable : goal.returns-clause-unwritable
returns-clause-unwritable g c entries graph =
    let d = c.args.discoveries.now in
    sym (ap (find (λ edge. not (writable entries d edge))) c.in-None.ensures.steps.0)
    ∙ c.edges.invariant.unwritable entries graph
