-- Globs and the paths that they leave, one after another.
use Rattle.std.proofs.Common.{◌≡◌, ◌<◌, ◌+◌, ℕ, List, [], ◌∷◌, ◌++◌, Some, map, take, length}
use Rattle.std.proofs.Common.{get_or, slice_get, subst, sym, ap, ◌∙◌}
use Rattle.std.specs.Borrow.{Bor}
use Rattle.std.specs.List.{All, AllZip}
use Rattle.std.proofs.lemmas.List.{get_or-map, length-map, map_more, map_push, take-map, take_more}
use Rattle.std.proofs.lemmas.List.Elements.{All-cons, All-nil}
use Rattle.std.proofs.lemmas.Option.{slice_get-get_or}
use Rattle.nj_globs.specs.Globs.{GlobPart}
use Rattle.nj_globs.specs.Patterns.{ArePartsOf, IsGlobFault}
use Rattle.nj_globs.specs.declared.glob_fault.GlobFault.{GlobFault}
use Rattle.nj_globs.specs.declared.glob_fault.GlobFault.TheVariants.{OutOfMemory}
use Rattle.nj_changes.specs.Ignored.{AreLeft, AreGlobsOf, IsFirstWrong, IsGlob, MatchesOne}
use Rattle.nj_changes.specs.Ignored.AreLeft.{none, ignored, kept}

-- ---- pairs

module _ {A C : Type 0} (R : A → C → Type 0) where
  zip-push : (xs : List A) (ys : List C) (x : A) (y : C) → AllZip R xs ys → R x y
      → AllZip R (xs ++ x ∷ []) (ys ++ y ∷ [])
  zip-push [] [] x y all one = (one, tt)
  zip-push [] (z ∷ ys) x y all one = absurd all
  zip-push (z ∷ xs) [] x y all one = absurd all
  zip-push (z ∷ xs) (w ∷ ys) x y all one = (all.0, zip-push xs ys x y all.1 one)

  -- one more pair
  pub zip-more : (xs : List A) (ys new : List C) (i : ℕ) (x : A) (y : C) → i < length xs → x ≡ get_or xs i x
      → AllZip R (take i xs) ys → R x y → new ≡ ys ++ y ∷ [] → AllZip R (take (i + 1) xs) new
  zip-more xs ys new i x y below is all one more =
      subst (AllZip R (take (i + 1) xs)) (sym more)
      (subst (λ zs. AllZip R zs (ys ++ y ∷ [])) (sym (take_more xs i x below))
      (zip-push (take i xs) ys (get_or xs i x) y all (subst (λ z. R z y) is one)))

-- pairs of things are pairs of what they stand for
pub zip-mapped : {A B C : Type 0} (R : B → C → Type 0) (f : A → B) (xs : List A) (ys : List C)
    → AllZip (λ x y. R (f x) y) xs ys → AllZip R (map f xs) ys
zip-mapped R f [] [] all = tt
zip-mapped R f [] (y ∷ ys) all = absurd all
zip-mapped R f (x ∷ xs) [] all = absurd all
zip-mapped R f (x ∷ xs) (y ∷ ys) all = (all.0, zip-mapped R f xs ys all.1)

-- ---- the globs of patterns

are-globs : (patterns : List (List ℕ)) (globs : List (List GlobPart)) → AreGlobsOf patterns globs
    → All IsGlob patterns
are-globs [] [] all = All-nil IsGlob
are-globs [] (glob ∷ globs) all = absurd all
are-globs (pattern ∷ patterns) [] all = absurd all
are-globs (pattern ∷ patterns) (glob ∷ globs) all =
    All-cons IsGlob pattern patterns (glob, all.0) (are-globs patterns globs all.1)

-- the first pattern that is not a glob, unless memory ran out
module _ {A : Type 0} (bytes : A → List ℕ) (patterns : List A) (globs : List (List GlobPart)) (i : ℕ) (x : A)
    (below : i < length patterns) (is : x ≡ get_or patterns i x)
    (all : AllZip (λ pattern glob. ArePartsOf (bytes pattern) glob) (take i patterns) globs) where
  here : slice_get (map bytes patterns) i ≡ Some (bytes x)
  here = slice_get-get_or (map bytes patterns) i (bytes x)
      (subst (λ n. i < n) (sym (length-map patterns bytes)) below)
      ∙ ap Some (get_or-map bytes patterns i x (bytes x) below ∙ ap bytes (sym is))

  pub first-wrong : (fault : GlobFault) → IsGlobFault (bytes x) fault → ¬ (fault ≡ OutOfMemory)
      → IsFirstWrong (map bytes patterns) (bytes x) fault
  first-wrong fault wrong other = record {
    index = i;
    at = here;
    is_fault = wrong;
    no_glob = other;
    others = subst (All IsGlob) (sym (take-map bytes i patterns))
        (are-globs (map bytes (take i patterns)) globs
        (zip-mapped ArePartsOf bytes (take i patterns) globs all));
  }

-- ---- the paths that are left

module _ (globs : List (List GlobPart)) where
  left-ignored : (paths left : List (List ℕ)) (path : List ℕ) → AreLeft globs paths left
      → MatchesOne globs path → AreLeft globs (paths ++ path ∷ []) left
  left-ignored _ _ path none one = ignored one none
  left-ignored _ _ path (ignored {paths = paths} {left = left} is are) one =
      ignored is (left-ignored paths left path are one)
  left-ignored _ _ path (kept {paths = paths} {left = left} is are) one =
      kept is (left-ignored paths left path are one)

  left-kept : (paths left : List (List ℕ)) (path : List ℕ) → AreLeft globs paths left
      → ¬ MatchesOne globs path → AreLeft globs (paths ++ path ∷ []) (left ++ path ∷ [])
  left-kept _ _ path none not = kept not none
  left-kept _ _ path (ignored {paths = paths} {left = left} is are) not =
      ignored is (left-kept paths left path are not)
  left-kept _ _ path (kept {paths = paths} {left = left} is are) not =
      kept is (left-kept paths left path are not)

  abbrev bytes : Bor (List ℕ) → List ℕ
  bytes path = path.now

  -- one more path
  module _ (new : List (List GlobPart)) (same : new ≡ globs) (paths left after : List (Bor (List ℕ))) (i : ℕ)
      (d : Bor (List ℕ)) (below : i < length paths)
      (are : AreLeft globs (map bytes (take i paths)) (map bytes left)) where
    pub more-ignored : MatchesOne globs (get_or paths i d).now → after ≡ left
        → AreLeft new (map bytes (take (i + 1) paths)) (map bytes after)
    more-ignored one is = rw (same, is, map_more bytes paths i d below)
        (left-ignored (map bytes (take i paths)) (map bytes left) (get_or paths i d).now are one)

    pub more-kept : ¬ MatchesOne globs (get_or paths i d).now → after ≡ left ++ get_or paths i d ∷ []
        → AreLeft new (map bytes (take (i + 1) paths)) (map bytes after)
    more-kept not is = rw (same, is, map_more bytes paths i d below, map_push bytes left (get_or paths i d))
        (left-kept (map bytes (take i paths)) (map bytes left) (get_or paths i d).now are not)
