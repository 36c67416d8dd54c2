-- The file supplied for a path.
use Rattle.std.proofs.Common.{◌≡◌, ◌<◌, ◌||◌, ℕ, zero, suc, Bool, true, false, cond, Option, Some, None}
use Rattle.std.proofs.Common.{Result, Ok, Err, OnOk, is_some, option_map, option_and_then, List, [], ◌∷◌}
use Rattle.std.proofs.Common.{◌++◌, length, set, slice_get, unwrap_or, position, bytes_eq, refl, sym, ap, ◌∙◌}
use Rattle.std.proofs.Common.{arith, true≢false}
use Rattle.std.specs.List.{list_any}
use Rattle.std.proofs.lemmas.Grind.{common_steps}
use Rattle.std.proofs.lemmas.Slice.Eq.{bytes_eq-Decides}
use Rattle.nj_c.specs.SuppliedFiles.{Supplied, supplied_for, SetsFile}

abbrev File : Type 0
File = Option (List ℕ)

-- ---- positions, entry by entry

pub position-yes : (path p : List ℕ) (ps : List (List ℕ)) → bytes_eq path p ≡ true
    → position (bytes_eq path) (p ∷ ps) ≡ Some 0
position-yes path p ps is = grind (arith, common_steps)

pub position-no : (path p : List ℕ) (ps : List (List ℕ)) → bytes_eq path p ≡ false
    → position (bytes_eq path) (p ∷ ps) ≡ option_map suc (position (bytes_eq path) ps)
position-no path p ps is = grind (arith, common_steps)

-- the file of the first entry whose path this is
abbrev found : List (List ℕ) → List File → List ℕ → Option File
found [] fs q = None
found (p ∷ ps) [] q = None
found (p ∷ ps) (f ∷ fs) q = cond (bytes_eq q p) (Some f) (found ps fs q)

found-is : (paths : List (List ℕ)) (files : List File) (q : List ℕ)
    → option_and_then (slice_get files) (position (bytes_eq q) paths) ≡ found paths files q
found-is [] files q = refl
found-is (p ∷ ps) files q = by_test (bytes_eq q p) refl files (λ fs. found-is ps fs q)
  where
    shifted : (f : File) (fs : List File) (o : Option ℕ)
        → option_and_then (slice_get (f ∷ fs)) (option_map suc o) ≡ option_and_then (slice_get fs) o
    shifted f fs None = refl
    shifted f fs (Some n) = refl

    nothing : (o : Option ℕ) → option_and_then (slice_get {X = File} []) o ≡ None
    nothing None = refl
    nothing (Some n) = refl

    by_test : (t : Bool) → bytes_eq q p ≡ t → (fs : List File)
        → ((more : List File) → option_and_then (slice_get more) (position (bytes_eq q) ps) ≡ found ps more q)
        → option_and_then (slice_get fs) (position (bytes_eq q) (p ∷ ps)) ≡ found (p ∷ ps) fs q
    by_test t is [] more = nothing (position (bytes_eq q) (p ∷ ps))
    by_test true is (f ∷ fs) more = ap (option_and_then (slice_get (f ∷ fs))) (position-yes q p ps is)
        ∙ ap (λ b. cond b (Some f) (found ps fs q)) (sym is)
    by_test false is (f ∷ fs) more = ap (option_and_then (slice_get (f ∷ fs))) (position-no q p ps is)
        ∙ shifted f fs (position (bytes_eq q) ps) ∙ more fs
        ∙ ap (λ b. cond b (Some f) (found ps fs q)) (sym is)

-- ---- a file that is set

same-path : (path p q : List ℕ) (v f : File) (rest : Option File) → bytes_eq path p ≡ true
    → cond (bytes_eq q p) (Some v) rest ≡ cond (bytes_eq q path) (Some v) (cond (bytes_eq q p) (Some f) rest)
same-path path p q v f rest is = rw ((bytes_eq-Decides path p).0 is) (by_test (bytes_eq q p))
  where
    by_test : (t : Bool) → cond t (Some v) rest ≡ cond t (Some v) (cond t (Some f) rest)
    by_test true = refl
    by_test false = refl

other-path : (path p q : List ℕ) (v f : File) (rest : Option File) → bytes_eq path p ≡ false
    → cond (bytes_eq q p) (Some f) (cond (bytes_eq q path) (Some v) rest)
    ≡ cond (bytes_eq q path) (Some v) (cond (bytes_eq q p) (Some f) rest)
other-path path p q v f rest not = by_tests (bytes_eq q p) (bytes_eq q path) refl refl
  where
    both : bytes_eq q p ≡ true → bytes_eq q path ≡ true → bytes_eq path p ≡ true
    both a b = (bytes_eq-Decides path p).1 (sym ((bytes_eq-Decides q path).0 b) ∙ (bytes_eq-Decides q p).0 a)

    by_tests : (s t : Bool) → bytes_eq q p ≡ s → bytes_eq q path ≡ t
        → cond s (Some f) (cond t (Some v) rest) ≡ cond t (Some v) (cond s (Some f) rest)
    by_tests true true a b = absurd (true≢false (sym (both a b) ∙ not))
    by_tests true false a b = refl
    by_tests false true a b = refl
    by_tests false false a b = refl

some-zero : (n : ℕ) → Some 0 ≡ Some n → 0 ≡ n
some-zero n is = ap (λ o. unwrap_or o 0) is

no-zero : (o : Option ℕ) → option_map suc o ≡ Some 0 → ⊥
no-zero None is = absurd (true≢false (ap is_some (sym is)))
no-zero (Some m) is = let zero : suc m ≡ 0 = ap (λ o. unwrap_or o 0) is in absurd (omega arith)

one-less : (o : Option ℕ) (n : ℕ) → option_map suc o ≡ Some (suc n) → o ≡ Some n
one-less None n is = absurd (true≢false (ap is_some (sym is)))
one-less (Some m) n is = let same : suc m ≡ suc n = ap (λ o. unwrap_or o 0) is in ap Some (omega arith)

found-set : (paths : List (List ℕ)) (files : List File) (path q : List ℕ) (n : ℕ) (v : File)
    → position (bytes_eq path) paths ≡ Some n → n < length files
    → found paths (set files n v) q ≡ cond (bytes_eq q path) (Some v) (found paths files q)
found-set [] files path q n v at below = absurd (true≢false (ap is_some (sym at)))
found-set (p ∷ ps) [] path q n v at below = absurd (omega arith)
found-set (p ∷ ps) (f ∷ fs) path q n v at below =
    by_test (bytes_eq path p) refl n at below (λ m. found-set ps fs path q m v)
  where
    by_test : (t : Bool) → bytes_eq path p ≡ t → (n : ℕ) → position (bytes_eq path) (p ∷ ps) ≡ Some n
        → n < length (f ∷ fs)
        → ((m : ℕ) → position (bytes_eq path) ps ≡ Some m → m < length fs
        → found ps (set fs m v) q ≡ cond (bytes_eq q path) (Some v) (found ps fs q))
        → found (p ∷ ps) (set (f ∷ fs) n v) q ≡ cond (bytes_eq q path) (Some v) (found (p ∷ ps) (f ∷ fs) q)
    by_test true is zero at below more = same-path path p q v f (found ps fs q) is
    by_test true is (suc n) at below more = let zero : 0 ≡ suc n =
        some-zero (suc n) (sym (position-yes path p ps is) ∙ at) in absurd (omega arith)
    by_test false is zero at below more = absurd
        (no-zero (position (bytes_eq path) ps) (sym (position-no path p ps is) ∙ at))
    by_test false is (suc n) at below more =
        ap (cond (bytes_eq q p) (Some f)) (more n
        (one-less (position (bytes_eq path) ps) n (sym (position-no path p ps is) ∙ at)) (omega arith))
        ∙ other-path path p q v f (found ps fs q) is

-- ---- a file that is added

first-other : (path p : List ℕ) (b : Bool) → (bytes_eq path p || b) ≡ false → bytes_eq path p ≡ false
first-other path p b none = by_test (bytes_eq path p) none
  where
    by_test : (t : Bool) → (t || b) ≡ false → t ≡ false
    by_test true is = is
    by_test false is = refl

others : (t b : Bool) → (t || b) ≡ false → b ≡ false
others true b is = absurd (true≢false is)
others false b is = is

found-push : (paths : List (List ℕ)) (files : List File) (path q : List ℕ) (v : File)
    → list_any (bytes_eq path) paths ≡ false → length files ≡ length paths
    → found (paths ++ path ∷ []) (files ++ v ∷ []) q ≡ cond (bytes_eq q path) (Some v) (found paths files q)
found-push [] [] path q v none same = refl
found-push [] (f ∷ fs) path q v none same = let zero : suc (length fs) ≡ 0 = same in absurd (omega arith)
found-push (p ∷ ps) [] path q v none same = let zero : 0 ≡ suc (length ps) = same in absurd (omega arith)
found-push (p ∷ ps) (f ∷ fs) path q v none same =
    ap (cond (bytes_eq q p) (Some f)) (found-push ps fs path q v
    (others (bytes_eq path p) (list_any (bytes_eq path) ps) none) (omega (arith, same)))
    ∙ other-path path p q v f (found ps fs q) (first-other path p (list_any (bytes_eq path) ps) none)

-- ---- whether a file is there

found-some : (paths : List (List ℕ)) (files : List File) (q : List ℕ) → length files ≡ length paths
    → is_some (found paths files q) ≡ is_some (position (bytes_eq q) paths)
found-some [] [] q same = refl
found-some [] (f ∷ fs) q same = refl
found-some (p ∷ ps) [] q same = let zero : 0 ≡ suc (length ps) = same in absurd (omega arith)
found-some (p ∷ ps) (f ∷ fs) q same = by_test (bytes_eq q p) refl (found-some ps fs q (omega (arith, same)))
  where
    shifted : (o : Option ℕ) → is_some o ≡ is_some (option_map suc o)
    shifted None = refl
    shifted (Some n) = refl

    by_test : (t : Bool) → bytes_eq q p ≡ t → is_some (found ps fs q) ≡ is_some (position (bytes_eq q) ps)
        → is_some (found (p ∷ ps) (f ∷ fs) q) ≡ is_some (position (bytes_eq q) (p ∷ ps))
    by_test true is more = ap (λ b. is_some (cond b (Some f) (found ps fs q))) is
        ∙ ap is_some (sym (position-yes q p ps is))
    by_test false is more = ap (λ b. is_some (cond b (Some f) (found ps fs q))) is ∙ more
        ∙ shifted (position (bytes_eq q) ps) ∙ ap is_some (sym (position-no q p ps is))

-- ---- by look-ups

abbrev look-up : List (List ℕ) → List File → List ℕ → Option File
look-up paths files q = option_and_then (slice_get files) (position (bytes_eq q) paths)

set-file : (paths : List (List ℕ)) (files : List File) (path q : List ℕ) (n : ℕ) (v : File)
    → position (bytes_eq path) paths ≡ Some n → n < length files
    → look-up paths (set files n v) q ≡ cond (bytes_eq q path) (Some v) (look-up paths files q)
set-file paths files path q n v at below =
    found-is paths (set files n v) q ∙ found-set paths files path q n v at below
    ∙ ap (cond (bytes_eq q path) (Some v)) (sym (found-is paths files q))

added-file : (paths : List (List ℕ)) (files : List File) (path q : List ℕ) (v : File)
    → list_any (bytes_eq path) paths ≡ false → length files ≡ length paths
    → look-up (paths ++ path ∷ []) (files ++ v ∷ []) q
    ≡ cond (bytes_eq q path) (Some v) (look-up paths files q)
added-file paths files path q v none same =
    found-is (paths ++ path ∷ []) (files ++ v ∷ []) q ∙ found-push paths files path q v none same
    ∙ ap (cond (bytes_eq q path) (Some v)) (sym (found-is paths files q))

pub is-known : (paths : List (List ℕ)) (files : List File) (q : List ℕ) → length files ≡ length paths
    → is_some (look-up paths files q) ≡ is_some (position (bytes_eq q) paths)
is-known paths files q same = ap is_some (found-is paths files q) ∙ found-some paths files q same

pub sets-known : (before after : Supplied) (path : List ℕ) (n : ℕ) (file : File)
    → position (bytes_eq path) before.paths ≡ Some n → n < length before.files
    → after ≡ record { paths = before.paths; files = set before.files n file; read = [] }
    → SetsFile before after path file
sets-known before after path n file at below is = record {
  files = λ q. ap (λ h. supplied_for h q) is ∙ set-file before.paths before.files path q n file at below;
  read = ap (λ h. h.read) is;
}

pub sets-new : (before after : Supplied) (path : List ℕ) (file : File)
    → list_any (bytes_eq path) before.paths ≡ false → length before.files ≡ length before.paths
    → after ≡ record { paths = before.paths ++ path ∷ []; files = before.files ++ file ∷ []; read = [] }
    → SetsFile before after path file
sets-new before after path file none same is = record {
  files = λ q. ap (λ h. supplied_for h q) is ∙ added-file before.paths before.files path q file none same;
  read = ap (λ h. h.read) is;
}

pub if-ok : {A B : Type 0} {P Q : Type 0} (result : Result A B) → (P → Q) → OnOk result P → OnOk result Q
if-ok (Ok done) then is = then is
if-ok (Err fault) then is = is

pub some-map : {X Y : Type 0} (f : X → Y) (o : Option X) → is_some (option_map f o) ≡ is_some o
some-map f None = refl
some-map f (Some x) = refl
