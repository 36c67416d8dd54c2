-- Lists of declarations.
use Rattle.std.proofs.lemmas.Grind.{common_steps}
use Rattle.std.proofs.Common.{◌≡◌, ℕ, ◌+◌, ◌<◌, if◌then◌else◌, List, [], ◌∷◌, ◌++◌, map, length, slice_get}
use Rattle.std.proofs.Common.{Option, Some, None, is_some, refl, sym, ap, ◌∙◌, add-zero, arith}
use Rattle.std.specs.Option.{option_map_or}
use Rattle.std.specs.List.{push}
use Rattle.std.proofs.lemmas.List.{length_push, length-append}
use Rattle.std.proofs.lemmas.Option.{slice_get_within, slice_get-get_or, get_or_from_slice_get}
use Rattle.std.proofs.Math.ListN.{get_or-append}
use Rattle.std.proofs.Math.Seq.{get_or-append_seam}
use Rattle.nj_manifest.specs.Statements.{StatementModel}
use Rattle.nj_manifest.specs.Statements.{IncludeModel, SubninjaModel}
use Rattle.nj_scope.specs.ReadingList.{ReadStatement, gathered}
use Rattle.nj_scope.specs.ReadingList.{files_opened}
use Rattle.nj_scope.specs.Laws.{givers, IsInReadingOrder}

-- a list with the declaration of one more statement
abbrev pub with_given : {A : Type 0} → List A → Option A → List A
with_given others given = option_map_or (push others) given others

pub get-old : {X : Type 0} (xs : List X) (y : X) (n : ℕ) (x : X) → slice_get xs n ≡ Some x
    → slice_get (xs ++ y ∷ []) n ≡ Some x
get-old xs y n x h =
    let within : n < length xs = slice_get_within xs n x h in
    slice_get-get_or (xs ++ y ∷ []) n x (simp length-append (omega arith))
    ∙ ap Some (get_or-append xs (y ∷ []) x n within ∙ get_or_from_slice_get xs n x x h)

pub get-last : {X : Type 0} (xs : List X) (y : X) → slice_get (xs ++ y ∷ []) (length xs) ≡ Some y
get-last xs y = slice_get-get_or (xs ++ y ∷ []) (length xs) y (simp length-append (omega arith))
    ∙ ap Some (get_or-append_seam xs y [] y)

module _ {A : Type 0} (given : ReadStatement → List ReadStatement → StatementModel → Option A) where
  -- a function with the same results for other statements
  pub gathered-map : (f : ReadStatement → ReadStatement)
      → ((e : ReadStatement) (before : List ReadStatement)
      → given (f e) (map f before) (f e).item ≡ given e before e.item)
      → (entries : List ReadStatement) → gathered given (map f entries) ≡ gathered given entries
  gathered-map f same [] = refl
  gathered-map f same (e ∷ before) =
      ap (with_given (gathered given (map f before))) (same e before)
      ∙ ap (λ others. with_given others (given e before e.item)) (gathered-map f same before)

  count-more : (others : List A) (o : Option A)
      → length (with_given others o) ≡ length others + (if is_some o then 1 else 0)
  count-more others None = sym (add-zero (length others))
  count-more others (Some x) = length_push others x

  count : (entries : List ReadStatement) → length (gathered given entries) ≡ givers given entries
  count [] = refl
  count (e ∷ before) =
      count-more (gathered given before) (given e before e.item)
      ∙ ap (λ n. n + (if is_some (given e before e.item) then 1 else 0)) (count before)

  get-more : (others : List A) (o : Option A) (k : ℕ) (x : A) → slice_get others k ≡ Some x
      → slice_get (with_given others o) k ≡ Some x
  get-more others None k x h = h
  get-more others (Some y) k x h = get-old others y k x h

  each : (after before : List ReadStatement) (e : ReadStatement) (x : A) → given e before e.item ≡ Some x
      → slice_get (gathered given (after ++ e ∷ before)) (givers given before) ≡ Some x
  each [] before e x is =
      ap (λ o. slice_get (with_given (gathered given before) o) (givers given before)) is
      ∙ ap (slice_get (gathered given before ++ x ∷ [])) (sym (count before))
      ∙ get-last (gathered given before) x
  each (a ∷ after) before e x is =
      get-more (gathered given (after ++ e ∷ before)) (given a (after ++ e ∷ before) a.item)
      (givers given before) x (each after before e x is)

  pub in_reading_order : IsInReadingOrder given (gathered given)
  in_reading_order = record { count = count; each = each }

-- ---- how many files and scopes are opened

abbrev pub opens_file : StatementModel → ℕ
opens_file (IncludeModel word) = 1
opens_file (SubninjaModel word) = 1
opens_file item = 0

pub files-more : (e : ReadStatement) (before : List ReadStatement)
    → files_opened (e ∷ before) ≡ files_opened before + opens_file e.item
files-more e before = grind (arith, common_steps)
