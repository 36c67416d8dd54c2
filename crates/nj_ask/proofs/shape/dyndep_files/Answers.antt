use Rattle.std.proofs.Common.{◌≡◌, ◌<◌, ◌+◌, All, length, map, option_map, sym, ap, subst, ◌∙◌, arith}
use Rattle.std.specs.Prelude.{IfSome}
use Rattle.std.specs.List.{filter_map, range_with_len}
use Rattle.std.proofs.lemmas.List.Elements.{All-nil, All-push}
use Rattle.nj_graph.specs.declared.FileNo.{FileNo}
use Rattle.nj_graph.specs.Graph.{edges_of, files_of}
use Rattle.nj_graph.specs.Handles.{GraphEdge, OfEdge, edge_of}
use Rattle.nj_audit.proofs.HandleLemmas.{all-from, next-from}
use Rattle.nj_ask.specs.Shape.{dyndep_of}
use Rattle.nj_ask.proofs.LineLemmas.{number-found, number-none}
use Rattle.nj_ask.proofs.shape.dyndep_files.Goals as goal

pub edges-init : goal.edges-init
edges-init c =
    let g = c.args.graph.now in
    let Below = λ (f : FileNo). f.0 < length (files_of g) in
    let all = all-from g c.into_iter-edge-iterator.result
    (c.into_iter-edge-iterator.ensures.into_iter_gives ∙ c.edges-edge-items.ensures) in
    record {
      place = 0;
      of = all.1;
      count = omega (arith, all.0);
      files = λ entries is. ap (map (λ (f : FileNo). f.0)) c.new-files.ensures.items;
      known = subst (All Below) (sym c.new-files.ensures.items) (All-nil Below);
    }

-- where an edge is bound to a file
pub edges-preserved-in-Continue-1 : goal.edges-preserved-in-Continue-1
edges-preserved-in-Continue-1 c =
    let g = c.args.graph.now in
    let Below = λ (f : FileNo). f.0 < length (files_of g) in
    let held = c.edges.invariant in
    let next = next-from g (edge_of c.in-Some.edge) c.edges.edge-iterator c.next.new.self
    c.in-Some.ensures.steps held.place held.of in
    let result = c.dyndep_file.result in
    let file = c.in-Some-dyndep_file.file in
    let dyndep = subst (λ (edge : GraphEdge). OfEdge edge (λ entries number.
    option_map (λ f. f.0) result ≡ dyndep_of edge.graph entries number)) next.0 c.dyndep_file.ensures.file in
    let known = subst (λ (edge : GraphEdge). IfSome result (λ f. f.0 < length (files_of edge.graph))) next.0
    c.dyndep_file.ensures.known in
    let more = c.in_ok-push-in-Some-dyndep_file.ensures.items in
    record {
      place = held.place + 1;
      of = next.1;
      count = omega (arith, held.count, ap length c.in-Some.ensures.steps);
      files = λ entries graph. number-found (dyndep_of g entries) held.place c.edges.files.items
          (held.files entries graph) c.push.new.self.items file
          (sym (dyndep entries graph) ∙ ap (option_map (λ f. f.0)) c.in-Some-dyndep_file.is) more;
      known = subst (All Below) (sym more) (All-push Below c.edges.files.items file held.known
          (subst (λ o. IfSome o Below) c.in-Some-dyndep_file.is known));
    }

-- and where it is bound to none
pub edges-preserved : goal.edges-preserved
edges-preserved c =
    let g = c.args.graph.now in
    let held = c.edges.invariant in
    let next = next-from g (edge_of c.in-Some.edge) c.edges.edge-iterator c.next.new.self
    c.in-Some.ensures.steps held.place held.of in
    let dyndep = subst (λ (edge : GraphEdge). OfEdge edge (λ entries number.
    option_map (λ f. f.0) c.dyndep_file.result ≡ dyndep_of edge.graph entries number)) next.0
    c.dyndep_file.ensures.file in
    record {
      place = held.place + 1;
      of = next.1;
      count = omega (arith, held.count, ap length c.in-Some.ensures.steps);
      files = λ entries graph. number-none (dyndep_of g entries) held.place c.edges.files.items
          (held.files entries graph)
          (sym (dyndep entries graph) ∙ ap (option_map (λ f. f.0)) c.in-None-dyndep_file.is);
      known = held.known;
    }

pub returns : goal.returns
returns c =
    let held = c.edges.invariant in
    let all : held.place ≡ length (edges_of c.args.graph.now) =
    omega (arith, held.count, ap length c.in-None.ensures.steps.0) in
    record {
      files = λ entries graph. held.files entries graph
          ∙ ap (λ n. filter_map (dyndep_of c.args.graph.now entries) (range_with_len 0 n)) all;
      known = held.known;
    }
