use Rattle.std.proofs.Common.{◌≡◌, ◌<◌, ◌≤◌, All, length, map, slice_get, option_map, sym, ap, subst}
use Rattle.std.proofs.Common.{◌∙◌}
use Rattle.std.specs.Prelude.{IfSome}
use Rattle.std.specs.List.{filter_map}
use Rattle.std.proofs.lemmas.List.{take_all}
use Rattle.std.proofs.lemmas.List.Elements.{All-push}
use Rattle.nj_graph.specs.declared.FileNo.{FileNo}
use Rattle.nj_graph.specs.Graph.{files_of}
use Rattle.nj_graph.specs.Handles.{GraphEdge, OfEdge}
use Rattle.nj_ask.specs.Shape.{dyndep_of}
use Rattle.nj_ask.proofs.LineLemmas.{edge-at, thing-found, thing-none}
use Rattle.nj_ask.proofs.shape.unjoined_files.Goals as goal
use Rattle.nj_ask.proofs.shape.unjoined_files.Goals.{in-Some+in_ok-push-in-Some, in-None}

pub pending-preserved : goal.pending-preserved
pending-preserved c =
    let g = c.args.graph.now in
    let i = c.pending.index in
    let found = c.pending.files.items in
    let Below = λ (f : FileNo). f.0 < length (files_of g) in
    let result = c.dyndep_file-found.result in
    let file = subst (λ (edge : GraphEdge). OfEdge edge (λ entries number.
    option_map (λ f. f.0) result ≡ dyndep_of edge.graph entries number)) c.edge_at.ensures
    c.dyndep_file-found.ensures.file in
    let known = subst (λ (edge : GraphEdge). IfSome result (λ f. f.0 < length (files_of edge.graph)))
    c.edge_at.ensures c.dyndep_file-found.ensures.known in
    let at = edge-at (slice_get g.built.pending i) c.pending_edge.result.0 c.pending_edge.ensures.edge in
    elim c.match-found.branch [
      | in-Some+in_ok-push-in-Some w ↦ record {
        files = λ entries graph.
            let is = ap (dyndep_of g entries) at.2 ∙ sym (file entries graph)
            ∙ ap (option_map (λ f. f.0)) w.in-Some.is in
            thing-found (λ p. dyndep_of g entries p.edge) g.built.pending i at.0 at.1 found
            (c.pending.invariant.files entries graph)
            c.match-found.files.items w.in-Some.file is
            (ap (λ v. v.items) w.files-is ∙ w.in_ok-push-in-Some.ensures.items);
        known = subst (All Below) (sym (ap (λ v. v.items) w.files-is ∙ w.in_ok-push-in-Some.ensures.items))
            (All-push Below found w.in-Some.file c.pending.invariant.known
            (subst (λ o. IfSome o Below) w.in-Some.is known));
      }
      | in-None w ↦ record {
        files = λ entries graph.
            let is = ap (dyndep_of g entries) at.2 ∙ sym (file entries graph)
            ∙ ap (option_map (λ f. f.0)) w.in-None.is in
            ap (λ v. map (λ (f : FileNo). f.0) v.items) w.files-is
            ∙ thing-none (λ p. dyndep_of g entries p.edge) g.built.pending i at.0 at.1 found
            (c.pending.invariant.files entries graph) is;
        known = subst (λ v. All Below v.items) (sym w.files-is) c.pending.invariant.known;
      }
    ]

pub returns-clause-files : goal.returns-clause-files
returns-clause-files c = λ entries graph.
    let pending = c.args.graph.now.built.pending in
    let past = subst (λ n. n ≤ c.pending.index) c.pending_count-index-end.ensures c.pending-test.false in
    c.pending.invariant.files entries graph
    ∙ ap (filter_map (λ p. dyndep_of c.args.graph.now entries p.edge))
    (take_all c.pending.index pending past ∙ graph.built.pending)
