-- Lemmas on names that are added to a list of names.
use Rattle.std.proofs.lemmas.Grind.{common_steps}
use Rattle.std.proofs.Common.{◌≡◌, ◌≢◌, ℕ, Bool, true, false, cond, List, [], ◌∷◌, ◌++◌, length, bytes_eq}
use Rattle.std.proofs.Common.{refl, arith}
use Rattle.std.specs.List.{list_any}
use Rattle.nj_names.specs.NameTables.{with_name}

-- a name that was known leaves the names unchanged
known-name : (names : List (List ℕ)) (name : List ℕ) (b : Bool) → list_any (bytes_eq name) names ≡ b
    → length (cond b names (names ++ name ∷ [])) ≡ length names → list_any (bytes_eq name) names ≡ true
known-name names name b is same = grind (arith, common_steps)

new-name : (names : List (List ℕ)) (name : List ℕ) (b : Bool) → list_any (bytes_eq name) names ≡ b
    → length (cond b names (names ++ name ∷ [])) ≢ length names → list_any (bytes_eq name) names ≡ false
new-name names name b is other = grind arith

pub known_name : (names : List (List ℕ)) (name : List ℕ) → length (with_name names name) ≡ length names
    → list_any (bytes_eq name) names ≡ true
known_name names name same = known-name names name (list_any (bytes_eq name) names) refl same

pub new_name : (names : List (List ℕ)) (name : List ℕ) → length (with_name names name) ≢ length names
    → list_any (bytes_eq name) names ≡ false
new_name names name other = new-name names name (list_any (bytes_eq name) names) refl other
