-- The paths that a joining reads, and the table of readings.
use Rattle.std.proofs.Common.{◌≡◌, ℕ, zero, suc, ◌<◌, ◌≤◌, Bool, true, false, cond, Some, unwrap_or, Result}
use Rattle.std.proofs.Common.{Ok, Err, OnOk, List, [], ◌∷◌, ◌++◌, length, drop, slice_get, String}
use Rattle.std.proofs.Common.{string_bytes, IsUtf8, refl, sym, ap, subst, arith}
use Rattle.nj_graph.specs.Inside.PathsReached.{with_news, with_new}
use Rattle.std.specs.Str.{is_utf8}
use Rattle.std.proofs.lemmas.Str.{IsUtf8-string_bytes, IsUtf8-from_is_utf8, is_utf8-from_IsUtf8}
use Rattle.nj_scope.specs.Readings.{IsPrefix}
use Rattle.nj_names.specs.declared.files.FileNo.{FileNo}
use Rattle.nj_names.specs.Files.{path_at}
use Rattle.nj_statements.specs.EdgeList.{Pending}
use Rattle.nj_statements.proofs.Lists.{get-longer}
use Rattle.nj_graph.specs.Joining.{path_asked}

pub for-ok : {X E P : Type 0} (r : Result X E) → P → OnOk r P
for-ok (Ok x) h = h
for-ok (Err e) h = tt

-- ---- a path

pub name-utf8 : {Z : Type 0} (path : List ℕ) (name : String Z) → string_bytes name ≡ path
    → is_utf8 path ≡ true
name-utf8 path name e = is_utf8-from_IsUtf8 path (subst IsUtf8 e (IsUtf8-string_bytes name))

pub name-bad : (path : List ℕ) → (IsUtf8 path → ⊥) → is_utf8 path ≡ false
name-bad path bad = by (is_utf8 path) refl
  where
    by : (b : Bool) → is_utf8 path ≡ b → b ≡ false
    by true e = absurd (bad (IsUtf8-from_is_utf8 path e))
    by false e = refl

pub get-prefix : (before after : List (List ℕ)) (i : ℕ) (path : List ℕ) → IsPrefix before after
    → slice_get before i ≡ Some path → slice_get after i ≡ Some path
get-prefix before after i path more at =
    subst (λ files. slice_get files i ≡ Some path) (sym more.1) (get-longer before more.0 i path at)

pub path-is : (files : List (List ℕ)) (file : FileNo) (path : List ℕ) → slice_get files file.0 ≡ Some path
    → path_at files file ≡ path
path-is files file path h = ap (λ o. unwrap_or o []) h

pub some-is : {X : Type 0} (x y : X) → Some x ≡ Some y → x ≡ y
some-is x y h = cc

-- ---- the paths that are read

pub all_new-append : (before paths more : List (List ℕ))
    → with_news before (paths ++ more) ≡ with_news (with_news before paths) more
all_new-append before [] more = refl
all_new-append before (path ∷ paths) more = all_new-append (with_new before path) paths more

pub asked-named : (p : Pending) → is_utf8 p.file ≡ true → path_asked p ≡ p.file ∷ []
asked-named p h = ap (λ b. cond b (p.file ∷ []) []) h

pub asked-none : (p : Pending) → is_utf8 p.file ≡ false → path_asked p ≡ []
asked-none p h = ap (λ b. cond b (p.file ∷ []) []) h

-- ---- the next element of a list

pub drop-next : {X : Type 0} (xs : List X) (i : ℕ) → i < length xs
    → (x : X) × (slice_get xs i ≡ Some x) × (drop i xs ≡ x ∷ drop (suc i) xs)
drop-next [] i h = absurd (omega (arith, h))
drop-next (x ∷ xs) zero h = (x, refl, refl)
drop-next (x ∷ xs) (suc i) h = drop-next xs i (omega (arith, h))

pub drop-past : {X : Type 0} (xs : List X) (i : ℕ) → length xs ≤ i → drop i xs ≡ []
drop-past [] zero h = refl
drop-past [] (suc i) h = refl
drop-past (x ∷ xs) zero h = absurd (omega (arith, h))
drop-past (x ∷ xs) (suc i) h = drop-past xs i (omega (arith, h))
