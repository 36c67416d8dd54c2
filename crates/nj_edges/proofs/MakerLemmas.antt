-- Lemmas on how the makers of files are held.
use Rattle.std.proofs.Common.{◌≡◌, ℕ, zero, suc, List, [], ◌∷◌, ◌++◌, length, replicate, slice_get, Option}
use Rattle.std.proofs.Common.{None, Some, refl, sym, ap, ◌∙◌}
use Rattle.std.proofs.lemmas.List.{length-map, map-append}
use Rattle.nj_names.specs.NameTables.{with_name}
use Rattle.nj_edges.specs.Inside.EdgesHeld.{with_maker}
use Rattle.nj_edges.specs.Inside.MakersHeld.{maker_held, makers_held}
use Rattle.nj_edges.proofs.AddLemmas.{maker-then, maker-else}

-- zeros are sources
pub sources : (count : ℕ) → makers_held (replicate count 0) ≡ replicate count None
sources zero = refl
sources (suc count) = ap (λ makers. None ∷ makers) (sources count)

module _ (numbers : List ℕ) (makers : List (Option ℕ)) (held : makers_held numbers ≡ makers)
    (files : List (List ℕ)) (path : List ℕ) (n : ℕ) (count : length makers ≡ length files)
    (here : slice_get (with_name files path) n ≡ Some path) where
  as-many : length numbers ≡ length makers
  as-many = sym (length-map numbers maker_held) ∙ ap length held

  pub named-then : n ≡ length numbers → makers_held (numbers ++ 0 ∷ []) ≡ with_maker files path makers
  named-then next =
      map-append maker_held numbers (0 ∷ []) ∙ ap (λ ms. ms ++ None ∷ []) held
      ∙ maker-then files path makers n count here (next ∙ as-many)

  pub named-else : (n ≡ length numbers → ⊥) → makers_held numbers ≡ with_maker files path makers
  named-else apart = held ∙ maker-else files path makers n count here (λ next. apart (next ∙ sym as-many))
