use Rattle.std.proofs.Common.{◌++◌, map, ap, subst, sym, ◌∙◌}
use Rattle.std.specs.List.{flat_map}
use Rattle.nj_names.specs.NameTables.{is_among}
use Rattle.nj_changes.specs.Tables.{HasMore}
use Rattle.nj_graph.specs.declared.EdgeNo.{EdgeNo}
use Rattle.nj_graph.specs.Graph.{GraphModel, IsGraphOf, edges_of}
use Rattle.nj_graph.specs.Handles.{edge_of}
use Rattle.nj_reached.specs.GraphChanges.{full_paths, noticed_outputs}
use Rattle.nj_reached.specs.Inside.Handles.{full_noticed}
use Rattle.nj_reached.proofs.HandleLemmas.{are-of, first-of, noticed-numbered, others-of}
use Rattle.nj_reached.proofs.TableLemmas.{all-added, step}
use Rattle.nj_reached.proofs.noticed.add_noticed_outputs.Goals as goal

pub edges-init : goal.edges-init
edges-init c =
    let g = c.args.graph.now in
    let folder = c.args.folder.now in
    let numbers = map (λ (edge : EdgeNo). edge.0) c.args.touched.now in
    let all = c.into_iter-edge-iterator.ensures.into_iter_gives ∙ c.edges_at-edge-items.ensures in
    record {
      of = are-of g c.into_iter-edge-iterator.result numbers all;
      names = λ entries is name. ap (λ more. is_among (c.args.names.now ++ more) name)
          (ap (full_noticed g entries folder) all ∙ noticed-numbered folder g entries numbers);
    }

pub edges-preserved : goal.edges-preserved
edges-preserved c =
    let g = c.args.graph.now in
    let folder = c.args.folder.now in
    let edge = edge_of c.in-Some.edge in
    let left = c.edges.edge-iterator in
    let others = c.next.new.self in
    let next = c.in-Some.ensures.steps in
    let of = c.edges.invariant.of in
    let same = first-of g edge left others next of in
    record {
      of = others-of g edge left others next of;
      names = λ entries is. step c.edges.names c.add_noticed_of.new.names
          (full_paths folder (noticed_outputs entries (edges_of g) edge.number))
          (full_noticed g entries folder left) (full_noticed g entries folder others)
          (c.args.names.now ++ full_paths folder (flat_map (noticed_outputs entries (edges_of g))
          (map (λ (e : EdgeNo). e.0) c.args.touched.now)))
          (ap (full_noticed g entries folder) next)
          (subst (λ (h : GraphModel). HasMore c.edges.names
          (full_paths folder (noticed_outputs entries (edges_of h) edge.number)) c.add_noticed_of.new.names)
          same
          (c.in_ok-add_noticed_of.ensures entries (subst (λ h. IsGraphOf h entries) (sym same) is)))
          (c.edges.invariant.names entries is);
    }

pub returns : goal.returns
returns c entries is =
    let g = c.args.graph.now in
    let folder = c.args.folder.now in
    all-added c.args.names.now c.edges.names
    (full_paths folder (flat_map (noticed_outputs entries (edges_of g))
    (map (λ (e : EdgeNo). e.0) c.args.touched.now)))
    (full_noticed g entries folder c.edges.edge-iterator)
    (ap (full_noticed g entries folder) c.in-None.ensures.steps.0) (c.edges.invariant.names entries is)
