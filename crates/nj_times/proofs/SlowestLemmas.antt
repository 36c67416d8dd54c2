-- Sorted edges, and their numbers.
use Rattle.std.proofs.Common.{◌≡◌, ◌+◌, ◌∙◌, ℕ, zero, suc, Bool, List, [], ◌∷◌, map, take}
use Rattle.std.proofs.Common.{ap, ap₂, arith, refl, reverse, sym, ◌++◌}
use Rattle.std.specs.List.Sorted.{IsSortedBy}
use Rattle.std.proofs.lemmas.List.{get_or-map, length-map, map-append, reverse-append}
use Rattle.nj_edges.specs.declared.edges.EdgeNo.{EdgeNo}

-- the numbers of sorted edges are sorted
pub sorted_numbers : (comes_before : ℕ → ℕ → Bool) (edges : List EdgeNo)
    → IsSortedBy (λ (e f : EdgeNo). comes_before e.0 f.0) edges
    → IsSortedBy comes_before (map (λ (e : EdgeNo). e.0) edges)
sorted_numbers comes_before edges sorted = λ k default low high.
    let none : EdgeNo = record { 0 = default } in
    let count = length-map edges (λ (e : EdgeNo). e.0) in
    ap₂ comes_before (get_or-map (λ (e : EdgeNo). e.0) edges (k + 1) none default
    (omega (arith, count, high)))
    (get_or-map (λ (e : EdgeNo). e.0) edges k none default (omega (arith, count, high)))
    ∙ sorted k none low (omega (arith, count, high))

-- the numbers of the first edges
pub first_numbers : (count : ℕ) (edges : List EdgeNo)
    → map (λ (e : EdgeNo). e.0) (take count edges) ≡ take count (map (λ (e : EdgeNo). e.0) edges)
first_numbers zero edges = refl
first_numbers (suc count) [] = refl
first_numbers (suc count) (edge ∷ edges) = ap (λ (es : List ℕ). edge.0 ∷ es) (first_numbers count edges)

-- the numbers of edges in the other direction
pub reversed_numbers : (edges : List EdgeNo)
    → map (λ (e : EdgeNo). e.0) (reverse edges) ≡ reverse (map (λ (e : EdgeNo). e.0) edges)
reversed_numbers [] = refl
reversed_numbers (edge ∷ edges) =
    ap (map (λ (e : EdgeNo). e.0)) (reverse-append (edge ∷ []) edges)
    ∙ map-append (λ (e : EdgeNo). e.0) (reverse edges) (edge ∷ [])
    ∙ ap (λ (es : List ℕ). es ++ edge.0 ∷ []) (reversed_numbers edges)
    ∙ sym (reverse-append (edge.0 ∷ []) (map (λ (e : EdgeNo). e.0) edges))
