-- The directories above paths.
use Rattle.std.proofs.Common.{◌≡◌, ◌<◌, ◌+◌, ◌||◌, ◌&&◌, ◌==◌, ℕ, Bool, true, false, cond, List, [], ◌∷◌}
use Rattle.std.proofs.Common.{◌++◌}
use Rattle.std.proofs.Common.{map, length, take, drop, get_or, refl, sym, ap, ◌∙◌, nat_eq, append_assoc}
use Rattle.std.proofs.Common.{append-nil, not, subst, Some}
use Rattle.std.specs.Prelude.{bytes_eq, slice_get}
use Rattle.std.specs.Cmp.Lexicographic.{pointwise}
use Rattle.std.specs.List.{flat_map, list_any}
use Rattle.std.proofs.lemmas.List.Elements.{filter-append}
use Rattle.std.proofs.lemmas.Cmp.{nat_eq_equiv}
use Rattle.std.proofs.lemmas.List.{map-append, take_more}
use Rattle.std.proofs.lemmas.List.Folds.{list_any-append}
use Rattle.std.proofs.lemmas.Option.{get_or_from_slice_get}
use Rattle.nj_text.specs.Paths.{is_absolute}
use Rattle.nj_names.specs.NameTables.{is_among}
use Rattle.nj_changes.specs.Tables.{HasMore}
use Rattle.nj_chosen.specs.Directories.{is_below}
use Rattle.nj_chosen.specs.Reasons.{without}
use Rattle.nj_chosen.specs.Inside.Folders.{folders_of, AreFoldersOf}
use Rattle.nj_chosen.proofs.NameLemmas.{more-none, without-one}

flip-eq : (m n : ℕ) → nat_eq m n ≡ nat_eq n m
flip-eq m n = nat_eq_equiv.symm m n

-- a directory is among those of one more byte
among-under : (byte : ℕ) (folders : List (List ℕ)) (b : ℕ) (folder : List ℕ)
    → is_among (map (λ f. byte ∷ f) folders) (b ∷ folder) ≡ (nat_eq b byte && is_among folders folder)
among-under byte [] b folder = by (nat_eq b byte)
  where
    by : (t : Bool) → false ≡ (t && false)
    by true = refl
    by false = refl
among-under byte (f ∷ folders) b folder =
    ap (λ t. (nat_eq b byte && bytes_eq folder f) || t) (among-under byte folders b folder)
    ∙ by (nat_eq b byte) (bytes_eq folder f) (is_among folders folder)
  where
    by : (t u v : Bool) → ((t && u) || (t && v)) ≡ (t && (u || v))
    by true u v = refl
    by false u v = refl

none-under : (byte : ℕ) (folders : List (List ℕ)) → is_among (map (λ f. byte ∷ f) folders) [] ≡ false
none-under byte [] = refl
none-under byte (f ∷ folders) = none-under byte folders

-- ---- paths below a directory

-- a path that begins with a directory is below it if a slash follows
pub below-rest : (folder path : List ℕ) → pointwise nat_eq (take (length folder) path) folder ≡ true
    → is_below folder path ≡ is_absolute (drop (length folder) path)
below-rest [] [] is = refl
below-rest [] (byte ∷ path) is = by (nat_eq 47 byte) (nat_eq byte 47) (flip-eq 47 byte)
  where
    by : (t u : Bool) → t ≡ u → (t && true) ≡ u
    by true u same = same
    by false u same = same
below-rest (b ∷ folder) [] is = absurd (cc)
below-rest (b ∷ folder) (byte ∷ path) is = by (nat_eq byte b) refl is (below-rest folder path)
  where
    by : (t : Bool) → nat_eq byte b ≡ t
        → (t && pointwise nat_eq (take (length folder) path) folder) ≡ true
        → (pointwise nat_eq (take (length folder) path) folder ≡ true
        → is_below folder path ≡ is_absolute (drop (length folder) path))
        → (nat_eq b byte && is_below folder path) ≡ is_absolute (drop (length folder) path)
    by true same rest go = ap (λ u. u && is_below folder path) (flip-eq b byte ∙ same) ∙ go rest
    by false same rest go = absurd (cc)

-- and a path that does not is not below it
pub below-apart : (folder path : List ℕ) → pointwise nat_eq (take (length folder) path) folder ≡ false
    → is_below folder path ≡ false
below-apart [] path differs = absurd (cc)
below-apart (b ∷ folder) [] differs = refl
below-apart (b ∷ folder) (byte ∷ path) differs = by (nat_eq byte b) refl differs (below-apart folder path)
  where
    by : (t : Bool) → nat_eq byte b ≡ t
        → (t && pointwise nat_eq (take (length folder) path) folder) ≡ false
        → (pointwise nat_eq (take (length folder) path) folder ≡ false → is_below folder path ≡ false)
        → (nat_eq b byte && is_below folder path) ≡ false
    by true same rest go = ap (λ u. u && is_below folder path) (flip-eq b byte ∙ same) ∙ go rest
    by false same rest go = ap (λ u. u && is_below folder path) (flip-eq b byte ∙ same)

-- ---- what comes before slashes

-- what comes before a slash is a directory with the path below it
pub folders-are : (folder path : List ℕ) → is_among (folders_of path) folder ≡ is_below folder path
folders-are [] [] = refl
folders-are (b ∷ folder) [] = refl
folders-are [] (byte ∷ path) =
    list_any-append (bytes_eq []) (cond (byte == 47) ([] ∷ []) []) (map (λ f. byte ∷ f) (folders_of path))
    ∙ ap (λ t. is_among (cond (byte == 47) ([] ∷ []) []) [] || t) (none-under byte (folders_of path))
    ∙ by (byte == 47) (nat_eq 47 byte) (flip-eq byte 47)
  where
    by : (t u : Bool) → t ≡ u → (is_among (cond t ([] ∷ []) []) [] || false) ≡ (u && true)
    by true true same = refl
    by true false same = absurd (cc)
    by false true same = absurd (cc)
    by false false same = refl
folders-are (b ∷ folder) (byte ∷ path) =
    list_any-append (bytes_eq (b ∷ folder)) (cond (byte == 47) ([] ∷ []) [])
    (map (λ f. byte ∷ f) (folders_of path))
    ∙ ap (λ t. t || is_among (map (λ f. byte ∷ f) (folders_of path)) (b ∷ folder)) (none (byte == 47))
    ∙ among-under byte (folders_of path) b folder
    ∙ ap (λ t. nat_eq b byte && t) (folders-are folder path)
  where
    none : (t : Bool) → is_among (cond t ([] ∷ []) []) (b ∷ folder) ≡ false
    none true = refl
    none false = refl

-- one more byte
pub folders-more : (path : List ℕ) (byte : ℕ)
    → folders_of (path ++ byte ∷ []) ≡ folders_of path ++ cond (byte == 47) (path ∷ []) []
folders-more [] byte = append-nil (cond (byte == 47) ([] ∷ []) [])
folders-more (b ∷ path) byte =
    ap (λ fs. cond (b == 47) ([] ∷ []) [] ++ map (λ f. b ∷ f) fs) (folders-more path byte)
    ∙ ap (λ fs. cond (b == 47) ([] ∷ []) [] ++ fs)
    (map-append (λ f. b ∷ f) (folders_of path) (cond (byte == 47) (path ∷ []) [])
    ∙ ap (λ fs. map (λ f. b ∷ f) (folders_of path) ++ fs) (by (byte == 47)))
    ∙ sym (append_assoc (cond (b == 47) ([] ∷ []) []) (map (λ f. b ∷ f) (folders_of path))
    (cond (byte == 47) ((b ∷ path) ∷ []) []))
  where
    by : (t : Bool) → map (λ f. b ∷ f) (cond t (path ∷ []) []) ≡ cond t ((b ∷ path) ∷ []) []
    by true = refl
    by false = refl

pub folders-step : (path : List ℕ) (i : ℕ) → i < length path
    → folders_of (take (i + 1) path) ≡ folders_of (take i path)
    ++ cond (get_or path i 0 == 47) (take i path ∷ []) []
folders-step path i below =
    ap folders_of (take_more path i 0 below) ∙ folders-more (take i path) (get_or path i 0)

-- the directories above some paths
above-are : (paths : List (List ℕ)) (folder : List ℕ)
    → is_among (flat_map folders_of paths) folder ≡ list_any (is_below folder) paths
above-are [] folder = refl
above-are (path ∷ paths) folder =
    list_any-append (bytes_eq folder) (folders_of path) (flat_map folders_of paths)
    ∙ ap (λ t. t || is_among (flat_map folders_of paths) folder) (folders-are folder path)
    ∙ ap (λ t. is_below folder path || t) (above-are paths folder)

-- a path that is among others has no directory that counts
pub above-none : (others : List (List ℕ)) (path : List ℕ) (folders : List (List ℕ))
    → is_among others path ≡ true → HasMore folders (flat_map folders_of (without others (path ∷ []))) folders
above-none others path folders is =
    subst (λ paths. HasMore folders (flat_map folders_of paths) folders)
    (sym (without-one others path true is)) (more-none folders)

-- and any other path has its own
pub above-one : (others : List (List ℕ)) (path : List ℕ) → is_among others path ≡ false
    → flat_map folders_of (without others (path ∷ [])) ≡ folders_of path
above-one others path is =
    ap (flat_map folders_of) (without-one others path false is) ∙ append-nil (folders_of path)

-- the directories above one more path, unless it is among others
pub folders-next : (others paths : List (List ℕ)) (i : ℕ) (path : List ℕ) (old new : List (List ℕ))
    → i < length paths → slice_get paths i ≡ Some path → AreFoldersOf (without others (take i paths)) old
    → HasMore old (flat_map folders_of (without others (path ∷ []))) new
    → AreFoldersOf (without others (take (i + 1) paths)) new
folders-next others paths i path old new below at are more folder =
    let first = without others (take i paths) in
    let next = without others (path ∷ []) in
    more folder ∙ list_any-append (bytes_eq folder) old (flat_map folders_of next)
    ∙ ap (λ t. t || is_among (flat_map folders_of next) folder) (are folder)
    ∙ ap (λ t. list_any (is_below folder) first || t) (above-are next folder)
    ∙ sym (list_any-append (is_below folder) first next)
    ∙ ap (list_any (is_below folder)) (sym (filter-append (λ p. not (is_among others p)) (take i paths)
    (path ∷ []))
    ∙ ap (λ p. without others (take i paths ++ p ∷ [])) (sym (get_or_from_slice_get paths i path [] at))
    ∙ ap (without others) (sym (take_more paths i [] below)))
