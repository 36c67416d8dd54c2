-- The edges that are to be built again, worked out on a small graph.
use Rattle.std.proofs.Common.{[], ◌∷◌, refl, true≢false, sym, arith, ◌∙◌}
use Rattle.nj_edges.specs.Dirty.{IsDirty}
use Rattle.nj_edges.specs.Dirty.IsDirty.{by_edge, by_input, by_itself, by_output}
use Rattle.nj_edges.specs.Edges.{edge_at, outputs_of}
use Rattle.nj_edges.proofs.ChangeRows.{a, four, none-of, s}

-- `build a: cc s`; `build p: phony a`; `build b: cc || p`; `build v: cc |@ a`
by-source : IsDirty four (s ∷ []) [] 0
by-source = by_input refl

by-its-edge : IsDirty four (s ∷ []) [] 1
by-its-edge = by_edge {f = 0} refl by-source

-- a file that its maker wrote before is written again
by-own-output : IsDirty four (a ∷ []) [] 0
by-own-output = by_output refl

by-a-dirty-edge : IsDirty four [] (0 ∷ []) 1
by-a-dirty-edge = by_edge {f = 0} refl (by_itself (0, omega arith, refl))

not-by-order-only : IsDirty four (s ∷ []) [] 2 → ⊥
not-by-order-only (by_itself is) = absurd (omega (arith, is.1))
not-by-order-only (by_output has) = true≢false (sym has)
not-by-order-only (by_input has) = true≢false (sym has)
not-by-order-only (by_edge {f = f} has dirty) = true≢false (sym has ∙ none-of (outputs_of (edge_at four f)))

not-by-validation : IsDirty four (s ∷ []) [] 3 → ⊥
not-by-validation (by_itself is) = absurd (omega (arith, is.1))
not-by-validation (by_output has) = true≢false (sym has)
not-by-validation (by_input has) = true≢false (sym has)
not-by-validation (by_edge {f = f} has dirty) = true≢false (sym has ∙ none-of (outputs_of (edge_at four f)))
