-- Full paths.
use Rattle.std.proofs.Common.{◌≡◌, ℕ, ◌==◌, false, List, [], ◌∷◌, length, map, sym, ap, ◌∙◌, true≢false}
use Rattle.nj_changes.specs.FullPaths.{full_path, path_below, sought}
use Rattle.nj_changes.proofs.PieceLemmas.{map-map}

module _ (folder : List ℕ) where
  module _ {X : Type 0} (bytes : X → List ℕ) (path : List ℕ) where
    pub sought-below : (dirs : List X) → (length dirs == 0) ≡ false
        → map (λ dir. full_path folder (path_below (bytes dir) path)) dirs
        ≡ sought folder (map bytes dirs) path
    sought-below [] some = absurd (true≢false some)
    sought-below (dir ∷ dirs) some =
        sym (ap (map (full_path folder)) (map-map (λ d. path_below d path) bytes (dir ∷ dirs))
        ∙ map-map (full_path folder) (λ d. path_below (bytes d) path) (dir ∷ dirs))
