-- How inputs are printed.
use Rattle.std.proofs.Common.{◌≡◌, ℕ, true, false, if◌then◌else◌, List, [], ◌∷◌, ◌++◌, map, bytes_eq, refl}
use Rattle.std.proofs.Common.{sym, ap, ◌∙◌}
use Rattle.std.specs.List.{flat_map}
use Rattle.std.proofs.lemmas.List.Concat.{flat_map-append}
use Rattle.std.proofs.lemmas.List.Folds.{flat_map-map}
use Rattle.nj_text.specs.Quotes.{quoted}
use Rattle.nj_edges.specs.Edges.{EdgePaths}
use Rattle.nj_edges.specs.Repeats.{each_once}
use Rattle.nj_requests.specs.declared.style.InputsStyle.{InputsStyle}
use Rattle.nj_tools.specs.Inside.Collections.{new_paths, with_paths}
use Rattle.nj_tools.specs.Inside.Pieces.{printed_text}
use Rattle.nj_tools.specs.Listings.{inputs_text, needed_inputs, printed, printed_strings, sorted, terminated}
use Rattle.nj_tools.proofs.CollectedLemmas.{new-append}

-- paths that are not quoted are printed verbatim
pub printed-as_they_are : (style : InputsStyle) → style.shell_escape ≡ false → (paths : List (List ℕ))
    → map (printed style) paths ≡ paths
printed-as_they_are style unquoted [] = refl
printed-as_they_are style unquoted (path ∷ paths) =
    ap (λ b. (if b then quoted path else path) ∷ map (printed style) paths) unquoted
    ∙ ap (λ ps. path ∷ ps) (printed-as_they_are style unquoted paths)

-- and others in quotes
pub printed-quoted : (style : InputsStyle) → style.shell_escape ≡ true → (paths : List (List ℕ))
    → map (printed style) paths ≡ map quoted paths
printed-quoted style escaped paths = ap (λ b. map (λ path. if b then quoted path else path) paths) escaped

pub inputs-as_needed : (style : InputsStyle) (paths : List (List ℕ)) → style.dependency_order ≡ true
    → printed_text style (each_once bytes_eq paths)
    ≡ flat_map (terminated style) (printed_strings style paths)
inputs-as_needed style paths in_order =
    let strings = map (printed style) (each_once bytes_eq paths) in
    sym (flat_map-map (terminated style) (printed style) (each_once bytes_eq paths))
    ∙ ap (λ b. flat_map (terminated style) (if b then strings else sorted strings)) (sym in_order)

pub inputs-sorted : (style : InputsStyle) (paths : List (List ℕ)) → style.dependency_order ≡ false
    → flat_map (terminated style) (sorted (map (printed style) (each_once bytes_eq paths)))
    ≡ flat_map (terminated style) (printed_strings style paths)
inputs-sorted style paths in_order =
    let strings = map (printed style) (each_once bytes_eq paths) in
    ap (λ b. flat_map (terminated style) (if b then strings else sorted strings)) (sym in_order)

pub inputs-are : (style : InputsStyle) (edges : List EdgePaths) (targets : List (List ℕ))
    → flat_map (terminated style) (printed_strings style (needed_inputs edges targets))
    ≡ inputs_text style edges targets
unfolding inputs_text
inputs-are style edges targets = refl

-- the new paths of two lists, one after the other
pub printed-split : (style : InputsStyle) (earlier first more : List (List ℕ))
    → printed_text style (new_paths earlier (first ++ more))
    ≡ printed_text style (new_paths earlier first)
    ++ printed_text style (new_paths (with_paths earlier first) more)
printed-split style earlier first more =
    ap (printed_text style) (new-append earlier first more)
    ∙ flat_map-append (λ path. terminated style (printed style path)) (new_paths earlier first)
    (new_paths (with_paths earlier first) more)
