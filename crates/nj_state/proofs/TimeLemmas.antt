-- The times of one more file.
use Rattle.std.proofs.Common.{◌≡◌, ℕ, suc, List, [], ◌∷◌, ◌++◌, length, refl, ap}
use Rattle.nj_discovered.specs.Times.{DeclaredTimes}
use Rattle.nj_state.specs.FileTimesFound.{HasTime, HaveTimes}

pub one_more_time : (declared : DeclaredTimes) (paths : List (List ℕ)) (times : List ℕ) (path : List ℕ)
    (time : ℕ)
    → HaveTimes declared paths times → HasTime declared path time
    → HaveTimes declared (paths ++ path ∷ []) (times ++ time ∷ [])
one_more_time declared [] [] path time so_far has = (has, tt)
one_more_time declared (p ∷ paths) (t ∷ times) path time so_far has =
    (so_far.0, one_more_time declared paths times path time so_far.1 has)
one_more_time declared [] (t ∷ times) path time so_far has = absurd so_far
one_more_time declared (p ∷ paths) [] path time so_far has = absurd so_far

-- each path has a time
pub times_count : (declared : DeclaredTimes) (paths : List (List ℕ)) (times : List ℕ)
    → HaveTimes declared paths times
    → length times ≡ length paths
times_count declared [] [] have = refl
times_count declared (path ∷ paths) (time ∷ times) have = ap suc (times_count declared paths times have.1)
times_count declared [] (time ∷ times) have = absurd have
times_count declared (path ∷ paths) [] have = absurd have
