-- Lemmas on the readings of a source, for code that reads several files.
use Rattle.std.proofs.lemmas.Grind.{common_steps}
use Rattle.std.proofs.Common.{rules, arith, ◌≡◌, ℕ, List, [], ◌∷◌, ◌++◌, Option, option_map, true}
use Rattle.std.proofs.Common.{Ok}
use Rattle.std.proofs.Common.{inl, inr}
use Rattle.std.specs.Global.{Global}
use Rattle.std.specs.declared.rc.RcSlice.{RcSlice}
use Rattle.std.specs.List.{AllByRecursion}
use Rattle.nj_scope.specs.Readings.{Reading, is_read, bytes_in}
use Rattle.nj_scope.specs.Sources.{SourceState, IsAsGiven, HasRead}
use Rattle.nj_scope.specs.Opening.{OpensFile, shared_bytes}
use Rattle.nj_scope.proofs.ReadingLemmas.{bytes_in-push_new, is_read-push_new}

nothing_added : (reported : Option (List Reading)) → reported ≡ option_map (λ rs. rs ++ []) reported
nothing_added reported = search rules

-- nothing was read from an unchanged source
pub HasRead-nothing : (source : SourceState) → HasRead source source []
HasRead-nothing source = search rules

both_added : (xs ys : List Reading) (reported : Option (List Reading))
    → option_map (λ rs. rs ++ ys) (option_map (λ rs. rs ++ xs) reported)
    ≡ option_map (λ rs. rs ++ (xs ++ ys)) reported
both_added xs ys reported = grind (arith, common_steps)

as_given-both : (before middle : SourceState) → ((path : List ℕ) → middle.files path ≡ before.files path)
    → (xs ys : List Reading) → AllByRecursion (IsAsGiven before) xs → AllByRecursion (IsAsGiven middle) ys
    → AllByRecursion (IsAsGiven before) (xs ++ ys)
as_given-both before middle files (x ∷ xs) ys first second =
    (first.0, as_given-both before middle files xs ys first.1 second)
as_given-both before middle files [] [] first second = tt
as_given-both before middle files [] (y ∷ ys) first second = grind (
  arith,
  as_given-both before middle files [] ys tt second.1,
)

-- the first readings, and the later ones
pub HasRead-then : (before middle after : SourceState) (xs ys : List Reading) → HasRead before middle xs
    → HasRead middle after ys → HasRead before after (xs ++ ys)
HasRead-then before middle after xs ys first second = grind (arith, option_map, both_added, as_given-both)

-- a file that was opened is in the table, with the bytes that were answered
pub opened-is_read : (before after : SourceState) (old new : List Reading) (path : List ℕ)
    (found : Option (RcSlice ℕ Global)) → OpensFile before after old new path (Ok found)
    → is_read new path ≡ true
opened-is_read before after old new path found (inl known) = grind arith
opened-is_read before after old new path found (inr now) = grind (
  arith,
  is_read-push_new old (record { path = path; bytes = shared_bytes found }) now.was_not_read,
)

pub opened-found : (before after : SourceState) (old new : List Reading) (path : List ℕ)
    (found : Option (RcSlice ℕ Global)) → OpensFile before after old new path (Ok found)
    → shared_bytes found ≡ bytes_in new path
opened-found before after old new path found (inl known) = grind arith
opened-found before after old new path found (inr now) = grind (
  arith,
  bytes_in-push_new old (record { path = path; bytes = shared_bytes found }) now.was_not_read,
)
