-- Paths that are resolved against a directory.
use Rattle.std.proofs.Common.{◌≡◌, ℕ, zero, suc, Bool, true, false, Option, Some, None, List, [], ◌∷◌, ◌++◌}
use Rattle.std.proofs.Common.{replicate, refl, sym, ap, ◌∙◌, append_assoc}
use Rattle.std.specs.List.{slice_split, onto_first, list_any, AllByRecursion}
use Rattle.std.proofs.lemmas.List.Splits.{slice_split-cons_yes, slice_split-cons_no}
use Rattle.nj_text.specs.declared.components.Component.{Component}
use Rattle.nj_text.specs.declared.components.Component.TheVariants.{Nowhere, Up, Name}
use Rattle.nj_text.specs.Paths.{is_slash, is_absolute, IsName, relative_text, absolute_text, clean_path_of}
use Rattle.nj_text.specs.Inside.Cleaning.{component_of, Kept, nothing_kept, with_component, kept_after}
use Rattle.nj_text.specs.Inside.Cleaning.{components_kept}
use Rattle.nj_text.proofs.KeptComponents.{component-name}
use Rattle.nj_text.proofs.SlashComponents.{components-none}
use Rattle.nj_text.proofs.WrittenComponents.{AllGo, go-kept}
use Rattle.nj_text.proofs.CleanStrings.{AllWhole, kept_of, names-kept, relative-kept, absolute-kept}
use Rattle.nj_text.proofs.CleanStrings.{components-text, text-relative}
use Rattle.nj_text.proofs.CleanPaths.{clean-twice}
use Rattle.nj_tests.specs.Words.{path_in, folder_of, path_of}
use Rattle.nj_tests.specs.WordLaws.{SpellingsNameTheSame, AbsolutePathsNameTheSame, WayRoundNamesTheSame}

-- ---- components

onto-append : (x : ℕ) (p : ℕ → Bool) (xs : List ℕ) (parts : List (List ℕ))
    → onto_first x (slice_split p xs) ++ parts ≡ onto_first x (slice_split p xs ++ parts)
onto-append x p [] parts = refl
onto-append x p (y ∷ xs) parts = by (p y) refl (slice_split p xs) refl
  where
    by : (t : Bool) → p y ≡ t → (ps : List (List ℕ)) → slice_split p xs ≡ ps
        → onto_first x (slice_split p (y ∷ xs)) ++ parts ≡ onto_first x (slice_split p (y ∷ xs) ++ parts)
    by true is ps same = rw (slice_split-cons_yes p y xs is) refl
    by false is [] same = rw (slice_split-cons_no p y xs is, same) refl
    by false is (part ∷ ps) same = rw (slice_split-cons_no p y xs is, same) refl

-- a text is split at a byte of the kind
pub split-append : (p : ℕ → Bool) (xs : List ℕ) (b : ℕ) (ys : List ℕ) → p b ≡ true
    → slice_split p (xs ++ b ∷ ys) ≡ slice_split p xs ++ slice_split p ys
split-append p [] b ys is = slice_split-cons_yes p b ys is
split-append p (x ∷ xs) b ys is = by (p x) refl (split-append p xs b ys is)
  where
    by : (t : Bool) → p x ≡ t → slice_split p (xs ++ b ∷ ys) ≡ slice_split p xs ++ slice_split p ys
        → slice_split p (x ∷ xs ++ b ∷ ys) ≡ slice_split p (x ∷ xs) ++ slice_split p ys
    by true cut rest = slice_split-cons_yes p x (xs ++ b ∷ ys) cut ∙ ap (λ ps. [] ∷ ps) rest
        ∙ sym (ap (λ ps. ps ++ slice_split p ys) (slice_split-cons_yes p x xs cut))
    by false cut rest =
        slice_split-cons_no p x (xs ++ b ∷ ys) cut ∙ ap (onto_first x) rest
        ∙ sym (onto-append x p xs (slice_split p ys))
        ∙ sym (ap (λ ps. ps ++ slice_split p ys) (slice_split-cons_no p x xs cut))

kept-append : (kept : Kept) (xs ys : List (List ℕ))
    → kept_after kept (xs ++ ys) ≡ kept_after (kept_after kept xs) ys
kept-append kept [] ys = refl
kept-append kept (x ∷ xs) ys = kept-append (with_component (component_of x) x kept) xs ys

-- each component is a name
abbrev AllNamed : List (List ℕ) → Type 0
AllNamed [] = Unit {0}
AllNamed (n ∷ ns) = (component_of n ≡ Name) × AllNamed ns

abbrev up : List ℕ
up = 46 ∷ 46 ∷ []

replicate-last : (n : ℕ) → replicate (suc n) up ≡ replicate n up ++ up ∷ []
replicate-last zero = refl
replicate-last (suc n) = ap (λ ps. up ∷ ps) (replicate-last n)

-- the kept components, taken again after others
abbrev again : (kept done : Kept) → Kept
again kept done = kept_after kept (components_kept done.ups done.names)

again-name : (kept : Kept) (ups : ℕ) (n : List ℕ) (ns : List (List ℕ)) → component_of n ≡ Name
    → again kept (record { ups = ups; names = n ∷ ns })
    ≡ with_component Name n (again kept (record { ups = ups; names = ns }))
again-name kept ups n ns is = kept-append kept (components_kept ups ns) (n ∷ [])
    ∙ ap (λ (x : Component). with_component x n (again kept (record { ups = ups; names = ns }))) is

again-up : (kept : Kept) (ups : ℕ)
    → again kept (record { ups = suc ups; names = [] })
    ≡ with_component Up up (again kept (record { ups = ups; names = [] }))
again-up kept ups = ap (kept_after kept) (replicate-last ups)
    ∙ kept-append kept (components_kept ups []) (up ∷ [])

-- components have the same effect as the kept components
taken-again : (ps : List (List ℕ)) (kept : Kept) (ups : ℕ) (names : List (List ℕ)) → AllNamed names
    → kept_after (again kept (record { ups = ups; names = names })) ps
    ≡ again kept (kept_after (record { ups = ups; names = names }) ps)
taken-again [] kept ups names h = refl
taken-again (p ∷ ps) kept ups names h = by (component_of p) refl names h
    (λ (u : ℕ) (ns : List (List ℕ)) (k : AllNamed ns). taken-again ps kept u ns k)
  where
    by : (x : Component) → component_of p ≡ x → (ns : List (List ℕ)) → AllNamed ns
        → ((u : ℕ) (ns : List (List ℕ)) → AllNamed ns
        → kept_after (again kept (record { ups = u; names = ns })) ps
        ≡ again kept (kept_after (record { ups = u; names = ns }) ps))
        → kept_after (with_component x p (again kept (record { ups = ups; names = ns }))) ps
        ≡ again kept (kept_after (with_component x p (record { ups = ups; names = ns })) ps)
    by Nowhere is ns h rest = rest ups ns h
    by Name is ns h rest = ap (λ k. kept_after k ps) (sym (again-name kept ups p ns is))
        ∙ rest ups (p ∷ ns) (is, h)
    by Up is [] h rest = ap (λ k. kept_after k ps) (sym (again-up kept ups)) ∙ rest (suc ups) [] tt
    by Up is (n ∷ ns) h rest = ap (λ k. kept_after (with_component Up p k) ps) (again-name kept ups n ns h.0)
        ∙ rest ups ns h.1

-- ---- the components of a clean path

whole-append : (ps : List (List ℕ)) (p : List ℕ) → AllWhole ps → list_any is_slash p ≡ false
    → AllWhole (ps ++ p ∷ [])
whole-append [] p h w = (w, tt)
whole-append (q ∷ ps) p h w = (h.0, whole-append ps p h.1 w)

whole-ups : (n : ℕ) → AllWhole (replicate n up)
whole-ups zero = tt
whole-ups (suc n) = (refl, whole-ups n)

whole-kept : (ups : ℕ) (names : List (List ℕ)) → AllByRecursion IsName names
    → AllWhole (components_kept ups names)
whole-kept ups [] h = whole-ups ups
whole-kept ups (n ∷ names) h = whole-append (components_kept ups names) n (whole-kept ups names h.1)
    h.0.has_no_slash

-- the text of components has their effect
text-again : (ps : List (List ℕ)) → AllWhole ps → (kept : Kept)
    → kept_after kept (slice_split is_slash (relative_text ps)) ≡ kept_after kept ps
text-again [] w kept = refl
text-again (p ∷ ps) w kept = ap (kept_after kept) (components-text p ps w)

-- a relative path has the effect of its clean path
clean-again : (path : List ℕ) → is_absolute path ≡ false → (kept : Kept)
    → kept_after kept (slice_split is_slash (clean_path_of path))
    ≡ kept_after kept (slice_split is_slash path)
clean-again path low kept =
    let done = kept_of path in
    ap (λ text. kept_after kept (slice_split is_slash text)) (relative-kept path low)
    ∙ text-again (components_kept done.ups done.names) (whole-kept done.ups done.names (names-kept path)) kept
    ∙ sym (taken-again (slice_split is_slash path) kept 0 [] tt)

front-of-text : (ps : List (List ℕ)) → AllGo ps → AllWhole ps → is_absolute (relative_text ps) ≡ false
front-of-text [] g w = refl
front-of-text (p ∷ ps) g w = text-relative p ps g.0 w.0

-- cleaning keeps a path relative or absolute
pub clean-front : (path : List ℕ) → is_absolute (clean_path_of path) ≡ is_absolute path
clean-front path = by (is_absolute path) refl
  where
    done : Kept
    done = kept_of path

    by : (t : Bool) → is_absolute path ≡ t → is_absolute (clean_path_of path) ≡ is_absolute path
    by true is = ap is_absolute (absolute-kept path is) ∙ sym is
    by false is =
        ap is_absolute (relative-kept path is)
        ∙ front-of-text (components_kept done.ups done.names) (go-kept done.ups done.names (names-kept path))
        (whole-kept done.ups done.names (names-kept path))
        ∙ sym is

-- ---- a path in a directory

kept-in : (folder path : List ℕ)
    → kept_of (folder ++ 47 ∷ path) ≡ kept_after (kept_of folder) (slice_split is_slash path)
kept-in folder path = ap (kept_after nothing_kept) (split-append is_slash folder 47 path refl)
    ∙ kept-append nothing_kept (slice_split is_slash folder) (slice_split is_slash path)

front-in : (folder one other : List ℕ) → is_absolute (folder ++ 47 ∷ one) ≡ is_absolute (folder ++ 47 ∷ other)
front-in [] one other = refl
front-in (b ∷ folder) one other = refl

same-clean : (one other : List ℕ) → is_absolute one ≡ is_absolute other → kept_of one ≡ kept_of other
    → clean_path_of one ≡ clean_path_of other
same-clean one other front kept = by (is_absolute one) refl
  where
    by : (t : Bool) → is_absolute one ≡ t → clean_path_of one ≡ clean_path_of other
    by true is = absolute-kept one is ∙ ap (λ (k : Kept). absolute_text (components_kept 0 k.names)) kept
        ∙ sym (absolute-kept other (sym front ∙ is))
    by false is = relative-kept one is ∙ ap (λ (k : Kept). relative_text (components_kept k.ups k.names)) kept
        ∙ sym (relative-kept other (sym front ∙ is))

-- a relative path in a directory is cleaned as its clean path there
in-folder : (folder path : List ℕ) → is_absolute path ≡ false
    → clean_path_of (folder ++ 47 ∷ clean_path_of path) ≡ clean_path_of (folder ++ 47 ∷ path)
in-folder folder path low = same-clean (folder ++ 47 ∷ clean_path_of path) (folder ++ 47 ∷ path)
    (front-in folder (clean_path_of path) path)
    (kept-in folder (clean_path_of path) ∙ clean-again path low (kept_of folder) ∙ sym (kept-in folder path))

in-high : (folder path : List ℕ) → is_absolute path ≡ true → path_in folder path ≡ path
in-high folder path is = rw is refl

in-low : (folder path : List ℕ) → is_absolute path ≡ false → path_in folder path ≡ folder ++ 47 ∷ path
in-low folder path is = rw is refl

-- ---- the laws

pub spellings : SpellingsNameTheSame
spellings build folder one other same = by (is_absolute one) refl
  where
    fronts : is_absolute one ≡ is_absolute other
    fronts = sym (clean-front one) ∙ ap is_absolute same ∙ clean-front other

    at : List ℕ
    at = folder_of build folder

    by : (t : Bool) → is_absolute one ≡ t → path_of build folder one ≡ path_of build folder other
    by true is = ap clean_path_of (in-high at one is) ∙ same
        ∙ sym (ap clean_path_of (in-high at other (sym fronts ∙ is)))
    by false is =
        ap clean_path_of (in-low at one is) ∙ sym (in-folder at one is)
        ∙ ap (λ path. clean_path_of (at ++ 47 ∷ path)) same
        ∙ in-folder at other (sym fronts ∙ is)
        ∙ sym (ap clean_path_of (in-low at other (sym fronts ∙ is)))

high-append : (folder rest : List ℕ) → is_absolute folder ≡ true → is_absolute (folder ++ rest) ≡ true
high-append [] rest is = absurd (cc)
high-append (b ∷ folder) rest is = is

high-in : (folder path : List ℕ) → is_absolute folder ≡ true → is_absolute (path_in folder path) ≡ true
high-in folder path high = by (is_absolute path) refl
  where
    by : (t : Bool) → is_absolute path ≡ t → is_absolute (path_in folder path) ≡ true
    by true is = ap is_absolute (in-high folder path is) ∙ is
    by false is = ap is_absolute (in-low folder path is) ∙ high-append folder (47 ∷ path) high

high-folder : (build : List ℕ) (folder : Option (List ℕ)) → is_absolute build ≡ true
    → is_absolute (folder_of build folder) ≡ true
high-folder build None high = high
high-folder build (Some folder) high = high-in build folder high

pub absolutes : AbsolutePathsNameTheSame
absolutes build folder path high =
    let whole = path_in (folder_of build folder) path in
    let high-whole = high-in (folder_of build folder) path (high-folder build folder high) in
    ap clean_path_of (in-high (folder_of build folder) (clean_path_of whole) (clean-front whole ∙ high-whole))
    ∙ clean-twice whole

-- `..` and a name, in a directory of that name, lead back to the directory
round : (above name path : List ℕ) → IsName name
    → kept_of ((above ++ 47 ∷ name) ++ 47 ∷ (46 ∷ 46 ∷ 47 ∷ name ++ 47 ∷ path))
    ≡ kept_of ((above ++ 47 ∷ name) ++ 47 ∷ path)
round above name path is =
    kept-in (above ++ 47 ∷ name) (46 ∷ 46 ∷ 47 ∷ name ++ 47 ∷ path)
    ∙ ap (kept_after (kept_of (above ++ 47 ∷ name))) parts
    ∙ ap (λ k. kept_after k (up ∷ name ∷ slice_split is_slash path)) inside
    ∙ ap (λ (x : Component). kept_after (with_component x name (kept_of above)) (slice_split is_slash path))
    named
    ∙ ap (λ k. kept_after k (slice_split is_slash path)) (sym inside)
    ∙ sym (kept-in (above ++ 47 ∷ name) path)
  where
    named : component_of name ≡ Name
    named = component-name name is.leads_somewhere is.leads_down

    alone : slice_split is_slash name ≡ name ∷ []
    alone = components-none name is.has_no_slash

    inside : kept_of (above ++ 47 ∷ name) ≡ with_component Name name (kept_of above)
    inside = kept-in above name ∙ ap (kept_after (kept_of above)) alone
        ∙ ap (λ (x : Component). with_component x name (kept_of above)) named

    parts : slice_split is_slash (46 ∷ 46 ∷ 47 ∷ name ++ 47 ∷ path)
        ≡ up ∷ name ∷ slice_split is_slash path
    parts = split-append is_slash up 47 (name ++ 47 ∷ path) refl
        ∙ ap (λ ps. up ∷ ps) (split-append is_slash name 47 path refl)
        ∙ ap (λ ps. up ∷ ps ++ slice_split is_slash path) alone

clean-round : (above name path : List ℕ) → IsName name
    → clean_path_of ((above ++ 47 ∷ name) ++ 47 ∷ (46 ∷ 46 ∷ 47 ∷ name ++ 47 ∷ path))
    ≡ clean_path_of ((above ++ 47 ∷ name) ++ 47 ∷ path)
clean-round above name path is =
    same-clean ((above ++ 47 ∷ name) ++ 47 ∷ (46 ∷ 46 ∷ 47 ∷ name ++ 47 ∷ path))
    ((above ++ 47 ∷ name) ++ 47 ∷ path)
    (front-in (above ++ 47 ∷ name) (46 ∷ 46 ∷ 47 ∷ name ++ 47 ∷ path) path)
    (round above name path is)

pub way-round : WayRoundNamesTheSame
way-round build above name path is low = by (is_absolute (above ++ 47 ∷ name)) refl
  where
    folder : List ℕ
    folder = above ++ 47 ∷ name

    way : List ℕ
    way = 46 ∷ 46 ∷ 47 ∷ name ++ 47 ∷ path

    by : (t : Bool) → is_absolute folder ≡ t
        → path_of build (Some folder) way ≡ path_of build (Some folder) path
    by true high =
        ap (λ at. clean_path_of (at ++ 47 ∷ way)) (in-high build folder high)
        ∙ clean-round above name path is
        ∙ sym (ap (λ at. clean_path_of (at ++ 47 ∷ path)) (in-high build folder high))
        ∙ sym (ap clean_path_of (in-low (path_in build folder) path low))
    by false is-low =
        ap (λ at. clean_path_of (at ++ 47 ∷ way)) (inner is-low)
        ∙ clean-round (build ++ 47 ∷ above) name path is
        ∙ sym (ap (λ at. clean_path_of (at ++ 47 ∷ path)) (inner is-low))
        ∙ sym (ap clean_path_of (in-low (path_in build folder) path low))
      where
        inner : is_absolute folder ≡ false → path_in build folder ≡ (build ++ 47 ∷ above) ++ 47 ∷ name
        inner is-low = in-low build folder is-low ∙ sym (append_assoc build (47 ∷ above) (47 ∷ name))
