-- The paths of files that options name, one after another.
use Rattle.std.proofs.Common.{◌≡◌, ◌<◌, ◌+◌, ◌∙◌, ℕ, List, [], ◌∷◌, ◌++◌, length, map, take, drop}
use Rattle.std.proofs.Common.{slice_index_or, sym, ap}
use Rattle.std.proofs.Common.{String, Global}
use Rattle.std.specs.Prelude.{string_bytes}
use Rattle.std.proofs.lemmas.List.{at_drop_more, map-append, map_more, take-append-drop}

module _ (paths : List (String Global)) (i : ℕ) (path : String Global) (below : i < length paths)
    (is : path ≡ slice_index_or paths i path) where
  -- the paths before one, and this one
  pub paths-more : map string_bytes (take (i + 1) paths)
      ≡ map string_bytes (take i paths) ++ string_bytes path ∷ []
  paths-more = map_more string_bytes paths i path below
      ∙ ap (λ p. map string_bytes (take i paths) ++ string_bytes p ∷ []) (sym is)

  -- and those after it
  pub paths-cut : map string_bytes paths
      ≡ map string_bytes (take i paths) ++ string_bytes path ∷ map string_bytes (drop (i + 1) paths)
  paths-cut = ap (map string_bytes) (sym (take-append-drop i paths))
      ∙ map-append string_bytes (take i paths) (drop i paths)
      ∙ ap (λ rest. map string_bytes (take i paths) ++ rest)
      (at_drop_more (map string_bytes) paths i path below
      ∙ ap (λ p. string_bytes p ∷ map string_bytes (drop (i + 1) paths)) (sym is))
