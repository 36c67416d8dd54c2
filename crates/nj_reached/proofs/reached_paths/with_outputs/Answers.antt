use Rattle.std.proofs.Common.{◌≡◌, ◌<◌, ◌++◌, All, List, map, length, ap, subst, sym, ◌∙◌, append_assoc}
use Rattle.std.proofs.lemmas.List.{append-nil, map-append}
use Rattle.std.proofs.lemmas.List.Elements.{All-append}
use Rattle.nj_graph.specs.declared.EdgeNo.{EdgeNo}
use Rattle.nj_graph.specs.declared.FileNo.{FileNo}
use Rattle.nj_graph.specs.Edges.{edge_at, outputs_of}
use Rattle.nj_graph.specs.Files.{path_at}
use Rattle.nj_graph.specs.Graph.{GraphModel, edges_of, files_of}
use Rattle.nj_graph.specs.Handles.{edge_of}
use Rattle.nj_reached.specs.GraphChanges.{outputs_at}
use Rattle.nj_reached.specs.Inside.Handles.{numbers_of}
use Rattle.nj_reached.proofs.HandleLemmas.{are-of, first-of, numbers-there, others-of}
use Rattle.nj_reached.proofs.reached_paths.with_outputs.Goals as goal

pub edges-init : goal.edges-init
edges-init c =
    let g = c.args.graph.now in
    let numbers = map (λ (edge : EdgeNo). edge.0) c.args.touched.now in
    let all = c.into_iter-edge-iterator.ensures.into_iter_gives ∙ c.edges_at-edge-items.ensures in
    let files = c.in_ok-all.ensures.items in
    record {
      of = are-of g c.into_iter-edge-iterator.result numbers all;
      paths = ap (λ (fs : List FileNo). map (path_at (files_of g)) fs
          ++ outputs_at (edges_of g) (numbers_of c.into_iter-edge-iterator.result)) files
          ∙ ap (λ ns. map (path_at (files_of g)) c.args.files.now ++ outputs_at (edges_of g) ns)
          (ap numbers_of all ∙ numbers-there g numbers);
      known = subst (All (λ (f : FileNo). f.0 < length (files_of g))) (sym files) c.requires.files;
    }

pub edges-preserved : goal.edges-preserved
edges-preserved c =
    let g = c.args.graph.now in
    let edge = edge_of c.in-Some.edge in
    let left = c.edges.edge-iterator in
    let others = c.next.new.self in
    let next = c.in-Some.ensures.steps in
    let held = c.edges.invariant in
    let same = first-of g edge left others next held.of in
    let outputs = outputs_of (edge_at (edges_of g) edge.number) in
    let paths : map (path_at (files_of g)) c.numbers.result.now ≡ outputs =
    subst (λ (h : GraphModel). map (path_at (files_of h)) c.numbers.result.now
    ≡ outputs_of (edge_at (edges_of h) edge.number)) same
    (c.numbers.ensures.paths edge.graph (outputs_of (edge_at (edges_of edge.graph) edge.number))
    c.outputs.ensures) in
    let known = subst (λ (h : GraphModel). All (λ (f : FileNo). f.0 < length (files_of h))
    c.numbers.result.now)
    same
    (c.numbers.ensures.known edge.graph (outputs_of (edge_at (edges_of edge.graph) edge.number))
    c.outputs.ensures) in
    let more = c.in_ok-extend_from_slice.ensures.items in
    let rest = outputs_at (edges_of g) (numbers_of others) in
    let at = map (path_at (files_of g)) in
    record {
      of = others-of g edge left others next held.of;
      paths = ap (λ (fs : List FileNo). at fs ++ rest) more
          ∙ ap (λ ps. ps ++ rest) (map-append (path_at (files_of g)) c.edges.all.items c.numbers.result.now
          ∙ ap (λ ps. at c.edges.all.items ++ ps) paths)
          ∙ append_assoc (at c.edges.all.items) outputs rest
          ∙ ap (λ es. at c.edges.all.items ++ outputs_at (edges_of g) (numbers_of es)) (sym next)
          ∙ held.paths;
      known = subst (All (λ (f : FileNo). f.0 < length (files_of g))) (sym more)
          (All-append (λ (f : FileNo). f.0 < length (files_of g)) c.edges.all.items c.numbers.result.now
          held.known known);
    }

pub returns : goal.returns
returns c =
    let g = c.args.graph.now in
    record {
      paths = sym (append-nil (map (path_at (files_of g)) c.edges.all.items))
          ∙ ap (λ es. map (path_at (files_of g)) c.edges.all.items ++ outputs_at (edges_of g) (numbers_of es))
          (sym c.in-None.ensures.steps.0)
          ∙ c.edges.invariant.paths;
      known = c.edges.invariant.known;
    }
