-- Lemmas on lists of readings.
use Rattle.std.proofs.Common.{arith, ◌≡◌, ℕ, Bool, true, false, cond, ◌||◌, List, [], ◌∷◌, ◌++◌, Some}
use Rattle.std.proofs.Common.{is_some}
use Rattle.std.proofs.Common.{option_and_then, bytes_eq, refl, sym, ap, true≢false}
use Rattle.std.proofs.lemmas.Slice.Eq.{bytes_eq-Decides}
use Rattle.nj_scope.specs.Readings.{Reading, reading_of, is_read, bytes_in}

-- a path that was read remains read as more is read
pub reading_of-push_old : (done : List Reading) (r : Reading) (path : List ℕ) → is_read done path ≡ true
    → reading_of (done ++ r ∷ []) path ≡ reading_of done path
reading_of-push_old [] r path h = absurd (true≢false (sym h))
reading_of-push_old (d ∷ done) r path h = by (bytes_eq path d.path) (reading_of-push_old done r path) h
  where
    by : (b : Bool) → (is_read done path ≡ true → reading_of (done ++ r ∷ []) path ≡ reading_of done path)
        → is_some (cond b (Some d) (reading_of done path)) ≡ true
        → cond b (Some d) (reading_of (done ++ r ∷ []) path) ≡ cond b (Some d) (reading_of done path)
    by true rest h = refl
    by false rest h = rest h

-- for a path that was not read, the new reading is used
pub reading_of-push_new : (done : List Reading) (r : Reading) (path : List ℕ) → is_read done path ≡ false
    → reading_of (done ++ r ∷ []) path ≡ reading_of (r ∷ []) path
reading_of-push_new [] r path h = refl
reading_of-push_new (d ∷ done) r path h = by (bytes_eq path d.path) (reading_of-push_new done r path) h
  where
    by : (b : Bool) → (is_read done path ≡ false
        → reading_of (done ++ r ∷ []) path ≡ reading_of (r ∷ []) path)
        → is_some (cond b (Some d) (reading_of done path)) ≡ false
        → cond b (Some d) (reading_of (done ++ r ∷ []) path) ≡ reading_of (r ∷ []) path
    by true rest h = absurd (true≢false h)
    by false rest h = rest h

-- the bytes of a path that was read stay the same
pub bytes_in-push_old : (done : List Reading) (r : Reading) (path : List ℕ) → is_read done path ≡ true
    → bytes_in (done ++ r ∷ []) path ≡ bytes_in done path
bytes_in-push_old done r path h = ap (option_and_then (λ x. x.bytes)) (reading_of-push_old done r path h)

-- a path that was not read has the bytes of its reading
pub bytes_in-push_new : (done : List Reading) (r : Reading) → is_read done r.path ≡ false
    → bytes_in (done ++ r ∷ []) r.path ≡ r.bytes
bytes_in-push_new done r h = grind (arith, option_and_then, reading_of-push_new, bytes_eq-Decides)

-- and was read then
pub is_read-push_new : (done : List Reading) (r : Reading) → is_read done r.path ≡ false
    → is_read (done ++ r ∷ []) r.path ≡ true
is_read-push_new done r h = grind (arith, is_some, reading_of-push_new, bytes_eq-Decides)

-- the paths that were read
pub is_read-push : (done : List Reading) (r : Reading) (path : List ℕ)
    → is_read (done ++ r ∷ []) path ≡ (is_read done path || bytes_eq path r.path)
is_read-push [] r path = grind arith
is_read-push (d ∷ done) r path = by (bytes_eq path d.path) (is_read-push done r path)
  where
    by : (b : Bool) → is_read (done ++ r ∷ []) path ≡ (is_read done path || bytes_eq path r.path)
        → is_some (cond b (Some d) (reading_of (done ++ r ∷ []) path))
        ≡ (is_some (cond b (Some d) (reading_of done path)) || bytes_eq path r.path)
    by true rest = refl
    by false rest = rest
