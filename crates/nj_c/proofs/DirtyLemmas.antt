-- Edges with flags, and the edges that are to be built again.
use Rattle.std.proofs.Common.{◌≡◌, ℕ, ◌+◌, Bool, true, false, cond, List, [], ◌∷◌, ◌++◌, sym, ap}
use Rattle.std.proofs.Common.{◌∙◌, append-nil}
use Rattle.std.specs.Prelude.{filter, slice_index_or}
use Rattle.std.specs.List.{range_with_len}
use Rattle.std.proofs.lemmas.List.{map_push}
use Rattle.std.proofs.lemmas.List.Elements.{filter-append}
use Rattle.nj_edges.specs.declared.edges.EdgeNo.{EdgeNo}
use Rattle.nj_c.specs.DirtyEdges.{flagged}
use Rattle.nj_c.specs.Inside.PagesHeld.{numbers_of}
use Rattle.nj_c.proofs.DepfileLemmas.{range-more}

-- ---- flags

flagged-more : (flags : List Bool) (n : ℕ)
    → flagged flags (n + 1) ≡ flagged flags n ++ cond (slice_index_or flags n false) (n ∷ []) []
flagged-more flags n =
    let test : ℕ → Bool = λ edge. slice_index_or flags edge false in
    ap (filter test) (range-more n) ∙ filter-append test (range_with_len 0 n) (n ∷ [])

module _ (flags : List Bool) (n : ℕ) (old : List EdgeNo) (held : numbers_of old ≡ flagged flags n) where
  pub set-more : (new : List EdgeNo) (e : EdgeNo) → e.0 ≡ n → slice_index_or flags n false ≡ true
      → new ≡ old ++ e ∷ [] → numbers_of new ≡ flagged flags (n + 1)
  set-more new e same is more =
      ap numbers_of more ∙ map_push (λ (x : EdgeNo). x.0) old e ∙ ap (λ xs. xs ++ e.0 ∷ []) held
      ∙ ap (λ m. flagged flags n ++ m ∷ []) same
      ∙ ap (λ b. flagged flags n ++ cond b (n ∷ []) []) (sym is) ∙ sym (flagged-more flags n)

  pub set-same : slice_index_or flags n false ≡ false → numbers_of old ≡ flagged flags (n + 1)
  set-same is =
      held ∙ sym (append-nil (flagged flags n)) ∙ ap (λ b. flagged flags n ++ cond b (n ∷ []) []) (sym is)
      ∙ sym (flagged-more flags n)
