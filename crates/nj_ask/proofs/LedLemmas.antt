-- Files that a walk through phony edges finds.
use Rattle.std.proofs.Common.{◌≡◌, ◌<◌, ◌≤◌, ◌+◌, ◌++◌, ◌∙◌, ℕ, zero, suc, Bool, true, false, cond}
use Rattle.std.proofs.Common.{List, [], ◌∷◌, get_or, length, map, take, refl, sym, ap, ap₂, arith}
use Rattle.std.specs.Prelude.{◌||◌, All, bytes_eq, fold, option_and_then, option_map, unwrap_or}
use Rattle.std.specs.List.{AllByRecursion, IsDistinct}
use Rattle.std.proofs.lemmas.List.{map-append, take_more}
use Rattle.std.proofs.lemmas.List.Elements.{All-push, recursion_from_All}
use Rattle.std.proofs.lemmas.List.Sums.{fold-append}
use Rattle.std.proofs.lemmas.Option.{slice_get-get_or, slice_get-map, slice_get_past}
use Rattle.nj_names.specs.NameTables.{is_among, name_at, with_name}
use Rattle.nj_names.specs.NumberSets.{has, with_number}
use Rattle.nj_graph.specs.Edges.{EdgePaths}
use Rattle.nj_ask.specs.LookedThrough.{behind, walked}
use Rattle.nj_ask.proofs.StatedLemmas.{same-path}

-- ---- one more file

module _ (files : List (List ℕ)) (apart : IsDistinct bytes_eq files) where
  -- a number is among those of files if its path is among theirs
  has-path : (numbers : List ℕ) → AllByRecursion (λ m. m < length files) numbers → (n : ℕ) → n < length files
      → has numbers n ≡ is_among (map (name_at files) numbers) (name_at files n)
  has-path [] all n below = refl
  has-path (m ∷ ms) all n below =
      ap₂ (λ a b. a || b) (same-path files apart n m below all.0) (has-path ms all.1 n below)

  -- a number that is added adds its path
  pub number-added : (numbers : List ℕ) → All (λ m. m < length files) numbers → (n : ℕ) → n < length files
      → map (name_at files) (with_number numbers n)
      ≡ with_name (map (name_at files) numbers) (name_at files n)
  number-added numbers all n below =
      by (has numbers n)
      ∙ ap (λ b. cond b (map (name_at files) numbers) (map (name_at files) numbers ++ name_at files n ∷ []))
      (has-path numbers (recursion_from_All (λ m. m < length files) numbers all) n below)
    where
      by : (b : Bool) → map (name_at files) (cond b numbers (numbers ++ n ∷ []))
          ≡ cond b (map (name_at files) numbers) (map (name_at files) numbers ++ name_at files n ∷ [])
      by true = refl
      by false = map-append (name_at files) numbers (n ∷ [])

-- and the numbers stay below a limit
pub added-below : (limit : ℕ) (numbers : List ℕ) → All (λ m. m < limit) numbers → (n : ℕ) → n < limit
    → All (λ m. m < limit) (with_number numbers n)
added-below limit numbers all n below = by (has numbers n)
  where
    by : (b : Bool) → All (λ m. m < limit) (cond b numbers (numbers ++ n ∷ []))
    by true = all
    by false = All-push (λ m. m < limit) numbers n all below

-- one more of the files that are added
pub next-added : {X : Type 0} (path : X → List ℕ) (start now next : List (List ℕ)) (xs : List X) (i : ℕ)
    (d : X)
    → i < length xs → now ≡ fold with_name start (map path (take i xs))
    → next ≡ with_name now (path (get_or xs i d))
    → next ≡ fold with_name start (map path (take (i + 1) xs))
next-added path start now next xs i d below is then =
    let x = get_or xs i d in
    then ∙ ap (λ ps. with_name ps (path x)) is
    ∙ sym (fold-append with_name start (map path (take i xs)) (path x ∷ []))
    ∙ ap (fold with_name start) (sym (map-append path (take i xs) (x ∷ [])))
    ∙ ap (λ ys. fold with_name start (map path ys)) (sym (take_more xs i d below))

-- ---- the walk

-- past the last place nothing is added
pub walked-ended : (edges : List EdgePaths) (turns place : ℕ) (found : List (List ℕ)) → length found ≤ place
    → walked edges turns place found ≡ found
walked-ended edges zero place found past = refl
walked-ended edges (suc turns) place found past =
    ap (λ o. walked edges turns (place + 1)
    (fold with_name found (unwrap_or (option_and_then (behind edges) o) [])))
    (slice_get_past found place past)
    ∙ walked-ended edges turns (place + 1) found (omega (arith, past))

-- a turn is left while a place is left
pub turn-left : (turns place limit start count : ℕ) → turns + place ≡ limit + start → place < count
    → count ≤ limit
    → (left : ℕ) × (turns ≡ suc left)
turn-left zero place limit start count is below fits = absurd (omega (arith, is, below, fits))
turn-left (suc left) place limit start count is below fits = (left, refl)

-- one turn
pub walked-on : (edges : List EdgePaths) (files : List (List ℕ)) (numbers : List ℕ) (turns left place : ℕ)
    → turns ≡ suc left → place < length numbers → (next : List (List ℕ))
    → next ≡ fold with_name (map (name_at files) numbers)
    (unwrap_or (behind edges (name_at files (get_or numbers place 0))) [])
    → walked edges turns place (map (name_at files) numbers) ≡ walked edges left (place + 1) next
walked-on edges files numbers turns left place is below next then =
    let found = map (name_at files) numbers in
    ap (λ k. walked edges k place found) is
    ∙ ap (λ o. walked edges left (place + 1) (fold with_name found
    (unwrap_or (option_and_then (behind edges) o) [])))
    (slice_get-map (name_at files) numbers place
    ∙ ap (option_map (name_at files)) (slice_get-get_or numbers place 0 below))
    ∙ ap (walked edges left (place + 1)) (sym then)
