use Rattle.std.proofs.Common.{◌≡◌, ◌<◌, ◌++◌, true, false, cond, All, ℕ, List, [], ◌∷◌, map, length, take}
use Rattle.std.proofs.Common.{get_or, ap}
use Rattle.std.proofs.Common.{sym, subst, ◌∙◌, append-nil}
use Rattle.std.specs.List.{filter}
use Rattle.std.proofs.lemmas.List.{map_push, take_all}
use Rattle.std.proofs.lemmas.List.Elements.{All-push, filter-append}
use Rattle.nj_graph.specs.declared.EdgeNo.{EdgeNo}
use Rattle.nj_graph.specs.Graph.{edges_of}
use Rattle.nj_graph.specs.Handles.{GraphEdge, OfEdge}
use Rattle.nj_ask.specs.Inside.Flags.{AreFlags}
use Rattle.nj_ask.specs.Manifest.{makers_of_opened, makes_manifest}
use Rattle.nj_ask.proofs.LineLemmas.{mapped-more}
use Rattle.nj_ask.proofs.manifest.makers_among.Goals as goal
use Rattle.nj_ask.proofs.manifest.makers_among.Goals.{then-branch+in_ok-push, else-branch}

pub edges-preserved : goal.edges-preserved
edges-preserved c =
    let g = c.args.graph.now in
    let edges = c.args.edges.now in
    let i = c.edges.edge-index in
    let none : EdgeNo = record { 0 = 0 } in
    let edge = get_or edges i none in
    let before = map (λ (e : EdgeNo). e.0) (take i edges) in
    let makes = subst (λ (e : GraphEdge). (opened : List ℕ)
    → AreFlags (length (edges_of e.graph)) (makers_of_opened e.graph opened) c.args.flags.now
    → OfEdge e (λ entries number. c.in_ok-makes_manifest.field-0 ≡ makes_manifest e.graph opened entries
    number)) c.edge_at.ensures c.in_ok-makes_manifest.ensures in
    let all = mapped-more (λ (e : EdgeNo). e.0) edges i none c.edges-test.true in
    elim c.if-branch.branch [
      | then-branch+in_ok-push w ↦
          let new = ap (λ v. v.items) w.makers-is ∙ w.in_ok-push.ensures.items in
          record {
            makers = λ opened flags entries graph.
                let p = makes_manifest g opened entries in
                let passes : p edge.0 ≡ true = sym (makes opened flags entries graph)
                ∙ w.if-branch.true in
                ap (map (λ (e : EdgeNo). e.0)) new ∙ map_push (λ (e : EdgeNo). e.0) c.edges.makers.items edge
                ∙ ap (λ ns. ns ++ edge.0 ∷ []) (c.edges.invariant.makers opened flags entries graph)
                ∙ sym (ap (filter p) (sym all) ∙ filter-append p before (edge.0 ∷ [])
                ∙ ap (λ b. filter p before ++ cond b (edge.0 ∷ []) []) passes);
            known = subst (All (λ (e : EdgeNo). e.0 < length (edges_of g))) (sym new)
                (All-push (λ (e : EdgeNo). e.0 < length (edges_of g)) c.edges.makers.items edge
                c.edges.invariant.known (c.requires i none c.edges-test.true));
          }
      | else-branch w ↦ record {
        makers = λ opened flags entries graph.
            let p = makes_manifest g opened entries in
            let fails : p edge.0 ≡ false = sym (makes opened flags entries graph)
            ∙ w.if-branch.false in
            ap (λ v. map (λ (e : EdgeNo). e.0) v.items) w.makers-is
            ∙ c.edges.invariant.makers opened flags entries graph
            ∙ sym (ap (filter p) (sym all) ∙ filter-append p before (edge.0 ∷ [])
            ∙ ap (λ b. filter p before ++ cond b (edge.0 ∷ []) []) fails ∙ append-nil (filter p before));
        known = subst (λ v. All (λ (e : EdgeNo). e.0 < length (edges_of g)) v.items) (sym w.makers-is)
            c.edges.invariant.known;
      }
    ]

pub returns : goal.returns
returns c =
    let edges = c.args.edges.now in
    record {
      makers = λ opened flags entries graph.
          c.edges.invariant.makers opened flags entries graph
          ∙ ap (λ es. filter (makes_manifest c.args.graph.now opened entries) (map (λ (e : EdgeNo). e.0) es))
          (take_all c.edges.edge-index edges c.edges-test.false);
      known = c.edges.invariant.known;
    }
