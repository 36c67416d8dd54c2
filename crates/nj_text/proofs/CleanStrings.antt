-- The path that its components make, and the paths that are clean already.
use Rattle.std.proofs.Common.{arith, ◌≡◌, ℕ, zero, suc, Bool, true, false, List, [], ◌∷◌, ◌++◌, replicate}
use Rattle.std.proofs.Common.{refl, sym}
use Rattle.std.proofs.Common.{ap, ◌∙◌, subst, append_assoc}
use Rattle.std.specs.Prelude.{◌&&◌}
use Rattle.std.specs.List.{slice_split, onto_first, list_any, AllByRecursion}
use Rattle.std.proofs.lemmas.List.{append-nil}
use Rattle.std.proofs.lemmas.List.Splits.{slice_split-cons_yes, slice_split-cons_no}
use Rattle.nj_text.specs.declared.components.Component.{Component}
use Rattle.nj_text.specs.declared.components.Component.TheVariants.{Nowhere, Up, Name}
use Rattle.nj_text.specs.Bytes.{drop_while}
use Rattle.nj_text.specs.Paths.{is_slash, is_up, leads_nowhere, is_absolute, IsName, relative_text}
use Rattle.nj_text.specs.Paths.{absolute_text, clean_path_of}
use Rattle.nj_text.specs.Inside.Cleaning.{component_of, Kept, nothing_kept, with_component, kept_after}
use Rattle.nj_text.specs.Inside.Cleaning.{components_kept, stays, named_after, all_stay}
use Rattle.nj_text.proofs.KeptComponents.{down_from_names, component-nowhere, component-up, component-name}
use Rattle.nj_text.proofs.KeptComponents.{up_is, replicate-push, components_after, pairs-kept, drop-kept}
use Rattle.nj_text.proofs.SlashComponents.{or_false, components-at, components-none}
use Rattle.nj_text.proofs.WrittenComponents.{text_of}

-- ---- components have no slash

abbrev pub AllWhole : List (List ℕ) → Type 0
AllWhole [] = Unit {0}
AllWhole (p ∷ ps) = (list_any is_slash p ≡ false) × AllWhole ps

whole-onto : (b : ℕ) (ps : List (List ℕ)) → is_slash b ≡ false → AllWhole ps → AllWhole (onto_first b ps)
whole-onto b ps e h = grind arith

pub whole-components : (xs : List ℕ) → AllWhole (slice_split is_slash xs)
whole-components [] = (refl, tt)
whole-components (b ∷ xs) = by_test (is_slash b) refl (whole-components xs)
  where
    by_test : (t : Bool) → is_slash b ≡ t → AllWhole (slice_split is_slash xs)
        → AllWhole (slice_split is_slash (b ∷ xs))
    by_test true e rest = rw (slice_split-cons_yes is_slash b xs e) (refl, rest)
    by_test false e rest = rw (slice_split-cons_no is_slash b xs e)
        (whole-onto b (slice_split is_slash xs) e rest)

-- the names that are kept are names
pub names-after : (ps : List (List ℕ)) (ups : ℕ) (names : List (List ℕ)) → AllByRecursion IsName names
    → AllWhole ps → AllByRecursion IsName (kept_after (record { ups = ups; names = names }) ps).names
names-after [] ups names h w = h
names-after (p ∷ ps) ups names h w = by_component (leads_nowhere p) (is_up p) refl refl names h
    (λ (u : ℕ) (ns : List (List ℕ)) (k : AllByRecursion IsName ns). names-after ps u ns k w.1)
  where
    at_component : (x : Component) (ns : List (List ℕ)) → component_of p ≡ x
        → AllByRecursion IsName (kept_after (with_component x p (record { ups = ups; names = ns })) ps).names
        → AllByRecursion IsName (kept_after (record { ups = ups; names = ns }) (p ∷ ps)).names
    at_component x ns e h = subst (λ (y : Component). AllByRecursion IsName
        (kept_after (with_component y p (record { ups = ups; names = ns })) ps).names) (sym e) h

    by_component : (s t : Bool) → leads_nowhere p ≡ s → is_up p ≡ t → (ns : List (List ℕ))
        → AllByRecursion IsName ns
        → ((u : ℕ) (ns : List (List ℕ)) → AllByRecursion IsName ns
        → AllByRecursion IsName (kept_after (record { ups = u; names = ns }) ps).names)
        → AllByRecursion IsName (kept_after (record { ups = ups; names = ns }) (p ∷ ps)).names
    by_component true t e u ns h rest = at_component Nowhere ns (component-nowhere p e) (rest ups ns h)
    by_component false false e u ns h rest =
        at_component Name ns (component-name p e u)
        (rest ups (p ∷ ns) (record { leads_somewhere = e; leads_down = u; has_no_slash = w.0 }, h))
    by_component false true e u [] h rest = at_component Up [] (component-up p e u) (rest (suc ups) [] tt)
    by_component false true e u (n ∷ ns) h rest =
        at_component Up (n ∷ ns) (component-up p e u) (rest ups ns h.1)

-- the kept components of a path
abbrev pub kept_of : List ℕ → Kept
kept_of path = kept_after nothing_kept (slice_split is_slash path)

pub names-kept : (path : List ℕ) → AllByRecursion IsName (kept_of path).names
names-kept path = names-after (slice_split is_slash path) 0 [] tt (whole-components path)

-- ---- the clean path, by its kept components

pub relative-kept : (path : List ℕ) → is_absolute path ≡ false
    → clean_path_of path ≡ relative_text (components_kept (kept_of path).ups (kept_of path).names)
unfolding clean_path_of
relative-kept path e = rw e (ap relative_text (pairs-kept (slice_split is_slash path) 0 [] tt))

pub absolute-kept : (path : List ℕ) → is_absolute path ≡ true
    → clean_path_of path ≡ absolute_text (components_kept 0 (kept_of path).names)
unfolding clean_path_of
absolute-kept path e =
    rw e (ap (λ ps. absolute_text (drop_while is_up ps)) (pairs-kept (slice_split is_slash path) 0 [] tt)
    ∙ ap absolute_text (drop-kept (kept_of path).ups (kept_of path).names
    (down_from_names (kept_of path).names (names-kept path))))

-- ---- the components of a text that was joined

pub components-text : (p : List ℕ) (ps : List (List ℕ)) → AllWhole (p ∷ ps)
    → slice_split is_slash (text_of (p ∷ ps)) ≡ p ∷ ps
components-text p [] w = components-none p w.0
components-text p (q ∷ ps) w = components-at p (text_of (q ∷ ps)) w.0
    ∙ ap (λ qs. p ∷ qs) (components-text q ps w.1)

starts_low : (p ys : List ℕ) → leads_nowhere p ≡ false → list_any is_slash p ≡ false
    → is_absolute (p ++ ys) ≡ false
starts_low [] ys e w = absurd (cc)
starts_low (b ∷ p) ys e w = (or_false (is_slash b) (list_any is_slash p) w).0

-- joined components are a relative path
pub text-relative : (p : List ℕ) (ps : List (List ℕ)) → leads_nowhere p ≡ false → list_any is_slash p ≡ false
    → is_absolute (text_of (p ∷ ps)) ≡ false
text-relative p ps e w = grind (arith, append-nil, starts_low, text_of)

-- ---- components that stay

stay-cons : (named : Bool) (p : List ℕ) (ps : List (List ℕ)) (x : Component) → component_of p ≡ x
    → all_stay named (p ∷ ps) ≡ stays named x && all_stay (named_after named x) ps
stay-cons named p ps x e = ap (λ (y : Component). stays named y && all_stay (named_after named y) ps) e

pub stay-names : (named : Bool) (ps : List (List ℕ)) → AllByRecursion IsName ps → all_stay named ps ≡ true
stay-names named [] h = refl
stay-names named (p ∷ ps) h = stay-cons named p ps Name (component-name p h.0.leads_somewhere h.0.leads_down)
    ∙ stay-names true ps h.1

pub stay-ups : (n : ℕ) (ps : List (List ℕ)) → all_stay false ps ≡ true
    → all_stay false (replicate n (46 ∷ 46 ∷ []) ++ ps) ≡ true
stay-ups zero ps h = h
stay-ups (suc n) ps h = stay-ups n ps h

-- components that stay are kept unchanged
pub stay-kept : (ps : List (List ℕ)) (named : Bool) (ups : ℕ) (names : List (List ℕ))
    → (named ≡ false → names ≡ []) → all_stay named ps ≡ true
    → components_after (record { ups = ups; names = names }) ps ≡ components_kept ups names ++ ps
stay-kept [] named ups names n h = sym (append-nil (components_kept ups names))
stay-kept (p ∷ ps) named ups names n h =
    by_component (leads_nowhere p) (is_up p) refl refl named n h
    (λ (b : Bool) (u : ℕ) (ns : List (List ℕ)). stay-kept ps b u ns)
  where
    Goal : Bool → Type 0
    Goal b = (b ≡ false → names ≡ []) → all_stay b (p ∷ ps) ≡ true
        → ((c : Bool) (u : ℕ) (ns : List (List ℕ)) → (c ≡ false → ns ≡ []) → all_stay c ps ≡ true
        → components_after (record { ups = u; names = ns }) ps ≡ components_kept u ns ++ ps)
        → components_after (record { ups = ups; names = names }) (p ∷ ps)
        ≡ components_kept ups names ++ p ∷ ps

    as_up : (ns : List (List ℕ)) → names ≡ ns → ns ≡ [] → is_up p ≡ true → leads_nowhere p ≡ false
        → components_after (record { ups = suc ups; names = [] }) ps ≡ components_kept (suc ups) [] ++ ps
        → components_after (record { ups = ups; names = names }) (p ∷ ps)
        ≡ components_kept ups names ++ p ∷ ps
    as_up [] is z u e rest =
        ap (λ (ns : List (List ℕ)). components_after (record { ups = ups; names = ns }) (p ∷ ps)) is
        ∙ ap (λ (x : Component). components_after (with_component x p (record { ups = ups; names = [] })) ps)
        (component-up p e u) ∙ rest ∙ sym (replicate-push ups (46 ∷ 46 ∷ []) ps)
        ∙ ap (λ (x : List ℕ). replicate ups (46 ∷ 46 ∷ []) ++ x ∷ ps) (sym (up_is p u))
        ∙ ap (λ (ns : List (List ℕ)). components_kept ups ns ++ p ∷ ps) (sym is)
    as_up (q ∷ ns) is z u e rest = absurd (cc)

    by_component : (s t : Bool) → leads_nowhere p ≡ s → is_up p ≡ t → (b : Bool) → Goal b
    by_component true t e u b m h rest = let x : all_stay b (p ∷ ps) ≡ false =
        stay-cons b p ps Nowhere (component-nowhere p e) in absurd (cc)
    by_component false false e u b m h rest =
        ap (λ (x : Component). components_after (with_component x p (record { ups = ups; names = names })) ps)
        (component-name p e u)
        ∙ rest true ups (p ∷ names) (λ c. absurd (cc))
        (sym (stay-cons b p ps Name (component-name p e u)) ∙ h)
        ∙ append_assoc (components_kept ups names) (p ∷ []) ps
    by_component false true e u true m h rest = let x : all_stay true (p ∷ ps) ≡ false =
        stay-cons true p ps Up (component-up p e u) in absurd (cc)
    by_component false true e u false m h rest =
        as_up names refl (m refl) u e (rest false (suc ups) [] (λ c. refl)
        (sym (stay-cons false p ps Up (component-up p e u)) ∙ h))

-- where a name came before, no component that stays is `..`
pub stay-down : (ps : List (List ℕ)) → all_stay true ps ≡ true → drop_while is_up ps ≡ ps
stay-down [] h = refl
stay-down (p ∷ ps) h = grind arith
