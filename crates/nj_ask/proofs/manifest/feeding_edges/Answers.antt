use Rattle.std.proofs.Common.{◌<◌, ◌++◌, ℕ, All, List, length, map, ap, sym, subst, ◌∙◌}
use Rattle.std.specs.Prelude.{◌↔◌, Contains}
use Rattle.std.proofs.lemmas.List.{map-append}
use Rattle.std.proofs.lemmas.List.Elements.{All-append}
use Rattle.std.proofs.lemmas.List.Folds.{flat_map-map}
use Rattle.std.proofs.lemmas.Result.{IfOk-weaker}
use Rattle.nj_graph.specs.declared.EdgeNo.{EdgeNo}
use Rattle.nj_graph.specs.Distances.{IsNeeded}
use Rattle.nj_graph.specs.Edges.{edge_at, inputs_of}
use Rattle.nj_graph.specs.Files.{path_at}
use Rattle.nj_graph.specs.Graph.{edges_of, files_of}
use Rattle.nj_ask.specs.Inside.Flags.{AreFlags}
use Rattle.nj_ask.proofs.ManifestLemmas.{feeds-flags}
use Rattle.nj_ask.proofs.manifest.feeding_edges.Goals as goal

pub edge_flags-requires : goal.edge_flags-requires
edge_flags-requires c =
    let count = rw c.deref-3.ensures at c.edge_count.ensures.count in
    let needed = c.in_ok-edges.edges.items in
    let makers = c.args.makers.now in
    let below = All-append (λ (e : EdgeNo). e.0 < length (edges_of c.args.graph.now)) needed makers
    (rw c.deref.ensures at c.in_ok-edges.ensures.known) c.requires in
    subst (All (λ (e : EdgeNo). e.0 < c.edge_count.result))
    (sym (c.deref-4.ensures.value ∙ c.in_ok-extend_from_slice.ensures.items))
    (subst (λ n. All (λ (e : EdgeNo). e.0 < n) (needed ++ makers)) (sym count) below)

pub returns : goal.returns
returns c =
    let g = c.args.graph.now in
    let needed = c.in_ok-edges.edges.items in
    let makers = c.args.makers.now in
    let numbers = λ (edges : List EdgeNo). map (λ (e : EdgeNo). e.0) edges in
    let count = rw c.deref-3.ensures at c.edge_count.ensures.count in
    let inputs = λ (e : ℕ). inputs_of (edge_at (edges_of g) e) in
    let paths =
    ap (map (path_at (files_of g))) c.deref-2.ensures.value ∙ c.in_ok-inputs.ensures.paths
    ∙ sym (flat_map-map inputs (λ (e : EdgeNo). e.0) makers)
    in
    let all = ap numbers (c.deref-4.ensures.value ∙ c.in_ok-extend_from_slice.ensures.items)
    ∙ map-append (λ (e : EdgeNo). e.0) needed makers in
    IfOk-weaker c.edge_flags.result _ _ (λ flags held.
    feeds-flags (edges_of g) (numbers makers) (numbers needed) flags.items
    (λ e. subst (λ ps. Contains (numbers needed) e ↔ IsNeeded (edges_of g) ps e) paths
    (rw c.deref.ensures at (c.in_ok-edges.ensures.needed e)))
    (subst (λ n. AreFlags n (numbers needed ++ numbers makers) flags.items) count
    (subst (λ ns. AreFlags c.edge_count.result ns flags.items) all held)))
    c.edge_flags.ensures
