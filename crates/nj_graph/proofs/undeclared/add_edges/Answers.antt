use Rattle.std.proofs.Common.{◌<◌, length, None, [], ◌∙◌, ap, map, option_map, subst, sym}
use Rattle.std.specs.Prelude.{slice_index_or}
use Rattle.std.specs.List.{flat_map, range_with_len}
use Rattle.std.proofs.lemmas.List.{get_or-map}
use Rattle.nj_deps.proofs.NumberLemmas.{number-below}
use Rattle.nj_graph.specs.Inside.LogSteps.{numbers_if_any}
use Rattle.nj_graph.specs.Undeclared.{AreThose, IsUndeclared, input_of_edge, inputs_of_edge, paths_of_output}
use Rattle.nj_graph.specs.Undeclared.AreThose.{none}
use Rattle.nj_graph.proofs.UndeclaredLemmas.{one-edge-more}
use Rattle.nj_graph.proofs.undeclared.add_edges.Goals as goal

pub edges-init : goal.edges-init
edges-init c = record {
  found = c.requires.found;
  undeclared = subst (λ is. AreThose (IsUndeclared c.args.graph.now.edges) []
      (map (input_of_edge c.args.graph.now.files) is)) (sym c.requires.none) none;
}

pub add_edge-requires-clause-numbers : goal.add_edge-requires-clause-numbers
add_edge-requires-clause-numbers c = λ k d within.
    let numbers = c.paths_named.result.now in
    subst (λ count. (slice_index_or numbers k d).0 < count) (sym c.requires.count)
    (number-below (length c.args.log.now.paths) numbers k d c.paths_named.ensures.known within)

pub edges-preserved : goal.edges-preserved
edges-preserved c =
    let g = c.args.graph.now in
    let log = c.args.log.now in
    let numbers = numbers_if_any c.args.numbers.now in
    let before = flat_map (λ e. inputs_of_edge e (paths_of_output log (slice_index_or numbers e None)))
    (range_with_len 0 c.edges.edge) in
    record {
      found = c.in_ok-add_edge.ensures.found;
      undeclared =
          subst (λ items. AreThose (IsUndeclared g.edges) items
          (map (input_of_edge g.files) c.add_edge.new.self.inputs.items))
          (sym (one-edge-more log numbers c.edges.edge _ (c.paths_named.ensures.named
          ∙ ap (paths_of_output log) (sym (get_or-map (option_map (λ n. n.0)) c.args.numbers.now c.edges.edge
          None
          None c.edges-test.true)))))
          (c.in_ok-add_edge.ensures.added log.paths before c.requires.made c.edges.invariant.undeclared);
    }
