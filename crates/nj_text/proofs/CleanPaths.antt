-- The clean paths: the results of cleaning, and the paths that it leaves unchanged.
use Rattle.std.proofs.lemmas.Grind.{common_steps}
use Rattle.std.proofs.Common.{rules, ◌≡◌, ◌≢◌, ℕ, zero, suc, ◌+◌, ◌<◌, Bool, true, false, eqb, List, [], ◌∷◌}
use Rattle.std.proofs.Common.{◌++◌}
use Rattle.std.proofs.Common.{length, drop, replicate, refl, sym, ap, ◌∙◌, subst, arith, append_assoc}
use Rattle.std.proofs.Common.{length-append}
use Rattle.std.specs.Prelude.{◌||◌, ◌↔◌, IsTrue}
use Rattle.std.specs.List.{slice_split, AllByRecursion}
use Rattle.std.proofs.lemmas.Bool.Decides.{nat_tests}
use Rattle.std.proofs.lemmas.List.Elements.{All-from_recursion, recursion_from_All}
use Rattle.std.proofs.lemmas.List.Splits.{length-slice_split, join_with_byte-slice_split}
use Rattle.nj_text.specs.Paths.{is_slash, leads_nowhere, is_absolute, IsName, without_leftmost_pair}
use Rattle.nj_text.specs.Paths.{relative_text, absolute_text, clean_path_of}
use Rattle.nj_text.specs.PathLaws.{IsCleanPath, IsHere, IsRoot, IsRelative, IsAbsolute, CleanedPathsAreClean}
use Rattle.nj_text.specs.PathLaws.{CleanPathsStay, CleaningIsIdempotent}
use Rattle.nj_text.specs.Inside.Cleaning.{components_kept, nothing_kept, text_kept, all_stay, is_here}
use Rattle.nj_text.specs.Inside.Cleaning.{stays_clean}
use Rattle.nj_text.proofs.KeptComponents.{down_from_names, components_after, kept-ups, drop-kept}
use Rattle.nj_text.proofs.WrittenComponents.{text_of, AllGo, go-kept}
use Rattle.nj_text.proofs.CleanStrings.{AllWhole, kept_of, names-kept, relative-kept, absolute-kept}
use Rattle.nj_text.proofs.CleanStrings.{components-text, text-relative, stay-names, stay-ups, stay-kept}
use Rattle.nj_text.proofs.CleanStrings.{stay-down}

-- ---- the written path

here_is : (path : List ℕ) → is_here path ≡ true → path ≡ 46 ∷ []
here_is path h = search rules

absolute_is : (path : List ℕ) → is_absolute path ≡ true → path ≡ 47 ∷ drop 1 path
absolute_is path e = grind arith

relative_full : (ps : List (List ℕ)) → 0 < length ps → relative_text ps ≡ text_of ps
relative_full ps h = grind arith

clean_here : clean_path_of (46 ∷ []) ≡ 46 ∷ []
unfolding clean_path_of without_leftmost_pair
clean_here = refl

clean_root : clean_path_of (47 ∷ []) ≡ 47 ∷ []
unfolding clean_path_of without_leftmost_pair
clean_root = refl

pub pushed-absolute : (old new path : List ℕ) → is_absolute path ≡ true
    → new ≡ (old ++ 47 ∷ []) ++ text_kept true (kept_of path) → new ≡ old ++ clean_path_of path
pushed-absolute old new path e n = grind (arith, append_assoc, kept_of, absolute-kept)

relative_none : (ps : List (List ℕ)) → AllGo ps → length (text_of ps) ≡ 0
    → text_of ps ++ 46 ∷ [] ≡ relative_text ps
relative_none ps h l = grind (arith, common_steps)

relative_some : (ps : List (List ℕ)) → 0 < length (text_of ps) → text_of ps ≡ relative_text ps
relative_some ps l = grind arith

pub pushed-none : (old new path : List ℕ) → is_absolute path ≡ false
    → new ≡ old ++ text_kept false (kept_of path) → length new ≡ length old
    → new ++ 46 ∷ [] ≡ old ++ clean_path_of path
pushed-none old new path e n l = grind (
  arith,
  kept_of,
  length,
  text_of,
  length-append,
  append_assoc,
  relative_none,
  go-kept,
  names-kept,
  relative-kept,
)

pub pushed-some : (old new path : List ℕ) → is_absolute path ≡ false
    → new ≡ old ++ text_kept false (kept_of path) → length new ≢ length old → new ≡ old ++ clean_path_of path
pushed-some old new path e n l = grind (
  arith,
  kept_of,
  length,
  text_of,
  length-append,
  relative_some,
  relative-kept,
)

-- ---- a path whose components all stay is clean

relative_stays : (path : List ℕ) → is_absolute path ≡ false
    → all_stay false (slice_split is_slash path) ≡ true → clean_path_of path ≡ path
relative_stays path e h = grind (
  arith,
  kept_of path,
  stay-kept (slice_split is_slash path) false 0 [] (λ c. refl) h,
  relative-kept path e,
  relative_full (slice_split is_slash path) (omega (arith, length-slice_split is_slash path)),
  length-slice_split is_slash path,
  join_with_byte-slice_split 47 path,
)

absolute_stays : (bs : List ℕ) → all_stay true (slice_split is_slash bs) ≡ true
    → clean_path_of (47 ∷ bs) ≡ 47 ∷ bs
absolute_stays bs h = grind (
  arith,
  components_after nothing_kept (slice_split is_slash bs),
  stay-kept (slice_split is_slash bs) true 0 [] (λ c. refl) h,
  kept_of bs,
  drop-kept (kept_of bs).ups (kept_of bs).names (down_from_names (kept_of bs).names (names-kept bs)),
  down_from_names (kept_of bs).names (names-kept bs),
  names-kept bs,
  stay-down (slice_split is_slash bs) h,
  absolute-kept (47 ∷ bs) refl,
  join_with_byte-slice_split 47 bs,
)

pub clean-stays : (path : List ℕ) → stays_clean path ≡ true → clean_path_of path ≡ path
clean-stays path h = by_front (is_absolute path) refl
  where
    rooted : (bs : List ℕ) → eqb (length bs) 0 || all_stay true (slice_split is_slash bs) ≡ true
        → clean_path_of (47 ∷ bs) ≡ 47 ∷ bs
    rooted [] h = clean_root
    rooted (b ∷ bs) h = let some : eqb (suc (length bs)) 0 ≡ false = grind (arith, nat_tests) in
        absolute_stays (b ∷ bs) (sym (ap (λ t. t || all_stay true (slice_split is_slash (b ∷ bs))) some) ∙ h)

    relative : (t : Bool) → is_here path ≡ t → t || all_stay false (slice_split is_slash path) ≡ true
        → is_absolute path ≡ false → clean_path_of path ≡ path
    relative true t h e = ap clean_path_of (here_is path t) ∙ clean_here ∙ sym (here_is path t)
    relative false t h e = relative_stays path e h

    by_front : (t : Bool) → is_absolute path ≡ t → clean_path_of path ≡ path
    by_front true e = ap clean_path_of (absolute_is path e) ∙ rooted (drop 1 path) (rw e at h)
        ∙ sym (absolute_is path e)
    by_front false e = relative (is_here path) refl (rw e at h) e

-- ---- a cleaned path

names_push : (ns : List (List ℕ)) (n : List ℕ) → AllByRecursion IsName ns → IsName n
    → AllByRecursion IsName (ns ++ n ∷ [])
names_push ns n h i = grind (arith, common_steps)

names_in_order : (names : List (List ℕ)) → AllByRecursion IsName names
    → AllByRecursion IsName (components_kept 0 names)
names_in_order [] h = tt
names_in_order (n ∷ names) h = names_push (components_kept 0 names) n (names_in_order names h.1) h.0

is_relative : (ups : ℕ) (ns : List (List ℕ)) → AllByRecursion IsName ns
    → IsCleanPath (relative_text (replicate ups (46 ∷ 46 ∷ []) ++ ns))
is_relative zero [] h = IsHere refl
is_relative zero (n ∷ ns) h = IsRelative 0 (n ∷ ns) (omega arith) (All-from_recursion IsName (n ∷ ns) h) refl
is_relative (suc ups) ns h = IsRelative (suc ups) ns (omega arith) (All-from_recursion IsName ns h) refl

is_rooted : (ns : List (List ℕ)) → AllByRecursion IsName ns → IsCleanPath (absolute_text ns)
is_rooted [] h = IsRoot refl
is_rooted (n ∷ ns) h = IsAbsolute (n ∷ ns) (omega arith) (All-from_recursion IsName (n ∷ ns) h) refl

pub cleaning-clean : CleanedPathsAreClean
cleaning-clean path = by_front (is_absolute path) refl
  where
    by_front : (t : Bool) → is_absolute path ≡ t → IsCleanPath (clean_path_of path)
    by_front true e = subst IsCleanPath (sym (absolute-kept path e))
        (is_rooted (components_kept 0 (kept_of path).names)
        (names_in_order (kept_of path).names (names-kept path)))
    by_front false e =
        subst IsCleanPath (sym (relative-kept path e
        ∙ ap relative_text (kept-ups (kept_of path).ups (kept_of path).names)))
        (is_relative (kept_of path).ups (components_kept 0 (kept_of path).names)
        (names_in_order (kept_of path).names (names-kept path)))

-- ---- the components of a clean path stay

whole_names : (ns : List (List ℕ)) → AllByRecursion IsName ns → AllWhole ns
whole_names [] h = tt
whole_names (n ∷ ns) h = (h.0.has_no_slash, whole_names ns h.1)

whole_ups : (n : ℕ) (ps : List (List ℕ)) → AllWhole ps → AllWhole (replicate n (46 ∷ 46 ∷ []) ++ ps)
whole_ups zero ps h = h
whole_ups (suc n) ps h = (refl, whole_ups n ps h)

or_true : (s t : Bool) → t ≡ true → s || t ≡ true
or_true s t e = grind arith

stays_relative : (p : List ℕ) (ps : List (List ℕ)) → leads_nowhere p ≡ false → AllWhole (p ∷ ps)
    → all_stay false (p ∷ ps) ≡ true → stays_clean (text_of (p ∷ ps)) ≡ true
stays_relative p ps e w h = grind (arith, text_of, text-relative, components-text, or_true)

relative_components : (ups : ℕ) (ns : List (List ℕ)) → AllByRecursion IsName ns → 0 < ups + length ns
    → stays_clean (text_of (replicate ups (46 ∷ 46 ∷ []) ++ ns)) ≡ true
relative_components zero [] h l = absurd (omega arith)
relative_components zero (n ∷ ns) h l =
    stays_relative n ns h.0.leads_somewhere (whole_names (n ∷ ns) h) (stay-names false (n ∷ ns) h)
relative_components (suc ups) ns h l =
    stays_relative (46 ∷ 46 ∷ []) (replicate ups (46 ∷ 46 ∷ []) ++ ns) refl
    (whole_ups (suc ups) ns (whole_names ns h)) (stay-ups (suc ups) ns (stay-names false ns h))

absolute_components : (ns : List (List ℕ)) → AllByRecursion IsName ns → 0 < length ns
    → stays_clean (47 ∷ text_of ns) ≡ true
absolute_components [] h l = absurd (omega arith)
absolute_components (n ∷ ns) h l =
    or_true (eqb (length (text_of (n ∷ ns))) 0) (all_stay true (slice_split is_slash (text_of (n ∷ ns))))
    (ap (all_stay true) (components-text n ns (whole_names (n ∷ ns) h)) ∙ stay-names true (n ∷ ns) h)

stays_if_clean : (path : List ℕ) → IsCleanPath path → stays_clean path ≡ true
stays_if_clean path h = grind (arith, relative_components, recursion_from_All, absolute_components)

pub stays-clean : (path : List ℕ) → clean_path_of path ≡ path → stays_clean path ≡ true
stays-clean path e = stays_if_clean path (subst IsCleanPath e (cleaning-clean path))

-- ---- the laws

pub clean-path : CleanPathsStay
clean-path path clean = clean-stays path (stays_if_clean path clean)

pub clean-twice : CleaningIsIdempotent
clean-twice path = clean-path (clean_path_of path) (cleaning-clean path)

pub clean-iff : (path : List ℕ) (b : Bool) → b ≡ stays_clean path → IsTrue b ↔ (clean_path_of path ≡ path)
clean-iff path b e = ((λ h. clean-stays path (sym e ∙ h)), (λ h. e ∙ stays-clean path h))
