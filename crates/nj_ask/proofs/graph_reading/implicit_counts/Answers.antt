use Rattle.std.proofs.Common.{ℕ, ◌++◌, ◌∷◌, [], length, sym, ap₂, ◌∙◌, arith}
use Rattle.std.proofs.lemmas.List.FromFn.{map-range_with_len_more}
use Rattle.nj_edges.specs.Edges.{edge_at}
use Rattle.nj_ask.proofs.StatedLemmas.{count-is}
use Rattle.nj_ask.proofs.graph_reading.implicit_counts.Goals as goal

pub edges-preserved : goal.edges-preserved
edges-preserved c =
    let g = c.args.graph.now in
    let n = c.edges.number in
    let count : ℕ → ℕ = λ edge. length (edge_at g.edges edge).implicit_inputs in
    c.in_ok-push.ensures.items
    ∙ ap₂ (λ counts more. counts ++ more ∷ []) c.edges.invariant
    (count-is g.files c.implicit_input_files.result.now (edge_at g.edges n).implicit_inputs
    c.implicit_input_files.ensures.files)
    ∙ sym (map-range_with_len_more count 0 n n (omega arith))
