-- When a statement has no fault of its own.
use Rattle.std.proofs.Common.{◌≡◌, ℕ, suc, Bool, true, false, not, ◌==◌, Some, None, List, [], ◌∷◌, length}
use Rattle.std.proofs.Common.{String, string_bytes, refl, sym, ap, subst, ◌∙◌, IsUtf8, arith}
use Rattle.std.specs.Bool.{then_some}
use Rattle.std.proofs.lemmas.Grind.{common_steps}
use Rattle.std.proofs.lemmas.Str.{IsUtf8-string_bytes, IsUtf8-from_is_utf8, is_utf8-from_IsUtf8}
use Rattle.std.specs.Str.{is_utf8}
use Rattle.nj_text.specs.declared.spot.Spot.{Spot}
use Rattle.nj_text.specs.Calls.{is_empty}
use Rattle.nj_faults.specs.declared.fault.Cause.TheVariants.{PathNotText}
use Rattle.nj_faults.specs.Faults.{fault_at}
use Rattle.nj_graph.specs.Reading.{path_fault}

pub empty-by_length : (bytes : List ℕ) (b : Bool) → b ≡ (length bytes == 0) → is_empty bytes ≡ b
empty-by_length [] b h = sym h
empty-by_length (x ∷ xs) b h = sym (h ∙ never (length xs))
  where
    never : (n : ℕ) → (suc n == 0) ≡ false
    never n = grind (arith, common_steps)

pub path-utf8 : (file : List ℕ) (spot : Spot) (path : List ℕ) → is_empty path ≡ false
    → path_fault file spot path ≡ then_some (not (is_utf8 path)) (fault_at file spot PathNotText)
path-utf8 file spot path h = grind (arith, common_steps)

pub path-whole : {Z : Type 0} (file : List ℕ) (spot : Spot) (path : List ℕ) (s : String Z)
    → is_empty path ≡ false → string_bytes s ≡ path → path_fault file spot path ≡ None
path-whole file spot path s h e =
    path-utf8 file spot path h ∙ ap (λ b. then_some (not b) (fault_at file spot PathNotText))
    (is_utf8-from_IsUtf8 path (subst IsUtf8 e (IsUtf8-string_bytes s)))

pub path-bad : (file : List ℕ) (spot : Spot) (path : List ℕ) → is_empty path ≡ false → (IsUtf8 path → ⊥)
    → path_fault file spot path ≡ Some (fault_at file spot PathNotText)
path-bad file spot path h bad = path-utf8 file spot path h
    ∙ ap (λ b. then_some (not b) (fault_at file spot PathNotText)) (by (is_utf8 path) refl)
  where
    by : (b : Bool) → is_utf8 path ≡ b → b ≡ false
    by true e = absurd (bad (IsUtf8-from_is_utf8 path e))
    by false e = refl
