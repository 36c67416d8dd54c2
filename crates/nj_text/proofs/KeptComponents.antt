-- The components that are left when a path is cleaned, one after another, are the components of its clean
-- path.
use Rattle.std.proofs.lemmas.Grind.{common_steps}
use Rattle.std.proofs.Common.{arith, ◌≡◌, ℕ, zero, suc, Bool, true, false, not, List, [], ◌∷◌, ◌++◌}
use Rattle.std.proofs.Common.{replicate, refl}
use Rattle.std.proofs.Common.{sym, ap, ◌∙◌, append_assoc}
use Rattle.std.specs.Prelude.{codes}
use Rattle.std.specs.List.{filter, AllByRecursion}
use Rattle.std.proofs.lemmas.List.{append-nil}
use Rattle.std.proofs.lemmas.Slice.Eq.{bytes_eq-Decides}
use Rattle.nj_text.specs.declared.components.Component.{Component}
use Rattle.nj_text.specs.declared.components.Component.TheVariants.{Nowhere, Up, Name}
use Rattle.nj_text.specs.Bytes.{drop_while}
use Rattle.nj_text.specs.Paths.{is_up, leads_nowhere, IsName, is_pair, without_pairs}
use Rattle.nj_text.specs.Inside.Cleaning.{component_of, Kept, with_component, kept_after, components_kept}
use Rattle.nj_text.proofs.Pairs.{HasNoPair, pairs-none, pairs-at, no_pair-push, no_pair-replicate}

-- the components that lead somewhere
abbrev pub going : List (List ℕ) → List (List ℕ)
going components = filter (λ component. not (leads_nowhere component)) components

-- no component is `..`
abbrev pub AllDown : List (List ℕ) → Type 0
AllDown [] = Unit {0}
AllDown (p ∷ ps) = (is_up p ≡ false) × AllDown ps

pub down_from_names : (names : List (List ℕ)) → AllByRecursion IsName names → AllDown names
down_from_names [] h = tt
down_from_names (n ∷ names) h = (h.0.leads_down, down_from_names names h.1)

-- the three meanings of a component
pub component-nowhere : (p : List ℕ) → leads_nowhere p ≡ true → component_of p ≡ Nowhere
component-nowhere p e = rw e refl

pub component-up : (p : List ℕ) → leads_nowhere p ≡ false → is_up p ≡ true → component_of p ≡ Up
component-up p e u = rw (e, u) refl

pub component-name : (p : List ℕ) → leads_nowhere p ≡ false → is_up p ≡ false → component_of p ≡ Name
component-name p e u = rw (e, u) refl

-- `..` is two dots
pub up_is : (p : List ℕ) → is_up p ≡ true → p ≡ 46 ∷ 46 ∷ []
up_is p h = (bytes_eq-Decides p (codes "..")).0 h

pub replicate-push : {X : Type 0} (n : ℕ) (x : X) (xs : List X)
    → replicate n x ++ x ∷ xs ≡ replicate (suc n) x ++ xs
replicate-push n x xs = grind (arith, common_steps)

pub no_pair-kept : (ups : ℕ) (names : List (List ℕ)) → AllDown names → HasNoPair (components_kept ups names)
no_pair-kept ups [] h = no_pair-replicate ups
no_pair-kept ups (n ∷ names) h = no_pair-push (components_kept ups names) n (no_pair-kept ups names h.1) h.0

pub pair_of : (a b : List ℕ) → is_up a ≡ false → is_up b ≡ true → is_pair a b ≡ true
pair_of a b d u = rw (d, u) refl

going-no : (p : List ℕ) (ps : List (List ℕ)) → leads_nowhere p ≡ true → going (p ∷ ps) ≡ going ps
going-no p ps e = rw e refl

going-yes : (p : List ℕ) (ps : List (List ℕ)) → leads_nowhere p ≡ false → going (p ∷ ps) ≡ p ∷ going ps
going-yes p ps e = rw e refl

-- the components that are kept, as a list
abbrev pub components_after : Kept → List (List ℕ) → List (List ℕ)
components_after kept ps = components_kept (kept_after kept ps).ups (kept_after kept ps).names

-- the components that are left when all pairs are taken out, where the components before them are clean
pub pairs-kept : (ps : List (List ℕ)) (ups : ℕ) (names : List (List ℕ)) → AllDown names
    → without_pairs (components_kept ups names ++ going ps)
    ≡ components_after (record { ups = ups; names = names }) ps
pairs-kept [] ups names h = ap without_pairs (append-nil (components_kept ups names))
    ∙ pairs-none (components_kept ups names) (no_pair-kept ups names h)
pairs-kept (p ∷ ps) ups names h = by_component (leads_nowhere p) (is_up p) refl refl names h
    (λ (u : ℕ) (ns : List (List ℕ)) (k : AllDown ns). pairs-kept ps u ns k)
  where
    by_component : (s t : Bool) → leads_nowhere p ≡ s → is_up p ≡ t → (ns : List (List ℕ)) → AllDown ns
        → ((u : ℕ) (ns : List (List ℕ)) → AllDown ns
        → without_pairs (components_kept u ns ++ going ps)
        ≡ components_after (record { ups = u; names = ns }) ps)
        → without_pairs (components_kept ups ns ++ going (p ∷ ps))
        ≡ components_after (record { ups = ups; names = ns }) (p ∷ ps)
    by_component true t e u ns h rest =
        ap (λ qs. without_pairs (components_kept ups ns ++ qs)) (going-no p ps e) ∙ rest ups ns h
        ∙ ap (λ (x : Component). components_after (with_component x p (record { ups = ups; names = ns })) ps)
        (sym (component-nowhere p e))
    by_component false false e u ns h rest =
        ap (λ qs. without_pairs (components_kept ups ns ++ qs)) (going-yes p ps e)
        ∙ ap without_pairs (sym (append_assoc (components_kept ups ns) (p ∷ []) (going ps)))
        ∙ rest ups (p ∷ ns) (u, h)
        ∙ ap (λ (x : Component). components_after (with_component x p (record { ups = ups; names = ns })) ps)
        (sym (component-name p e u))
    by_component false true e u [] h rest =
        ap (λ qs. without_pairs (components_kept ups [] ++ qs)) (going-yes p ps e)
        ∙ ap (λ (x : List ℕ). without_pairs (components_kept ups [] ++ x ∷ going ps)) (up_is p u)
        ∙ ap without_pairs (replicate-push ups (46 ∷ 46 ∷ []) (going ps)) ∙ rest (suc ups) [] tt
        ∙ ap (λ (x : Component). components_after (with_component x p (record { ups = ups; names = [] })) ps)
        (sym (component-up p e u))
    by_component false true e u (n ∷ ns) h rest =
        ap (λ qs. without_pairs (components_kept ups (n ∷ ns) ++ qs)) (going-yes p ps e)
        ∙ ap without_pairs (append_assoc (components_kept ups ns) (n ∷ []) (p ∷ going ps))
        ∙ pairs-at (components_kept ups ns) n p (going ps) (no_pair-kept ups (n ∷ ns) h) (pair_of n p h.0 u)
        ∙ rest ups ns h.1
        ∙ ap (λ (x : Component). components_after (with_component x p (record { ups = ups; names = n ∷ ns }))
        ps) (sym (component-up p e u))

-- ---- the leading `..`

pub kept-ups : (ups : ℕ) (names : List (List ℕ))
    → components_kept ups names ≡ replicate ups (46 ∷ 46 ∷ []) ++ components_kept 0 names
kept-ups ups [] = sym (append-nil (replicate ups (46 ∷ 46 ∷ [])))
kept-ups ups (n ∷ names) = ap (λ qs. qs ++ n ∷ []) (kept-ups ups names)
    ∙ append_assoc (replicate ups (46 ∷ 46 ∷ [])) (components_kept 0 names) (n ∷ [])

drop-ups : (n : ℕ) (ps : List (List ℕ))
    → drop_while is_up (replicate n (46 ∷ 46 ∷ []) ++ ps) ≡ drop_while is_up ps
drop-ups zero ps = refl
drop-ups (suc n) ps = drop-ups n ps

down-push : (ps : List (List ℕ)) (p : List ℕ) → AllDown ps → is_up p ≡ false → AllDown (ps ++ p ∷ [])
down-push [] p h e = (e, tt)
down-push (q ∷ ps) p h e = (h.0, down-push ps p h.1 e)

pub down-kept : (names : List (List ℕ)) → AllDown names → AllDown (components_kept 0 names)
down-kept [] h = tt
down-kept (n ∷ names) h = down-push (components_kept 0 names) n (down-kept names h.1) h.0

pub drop-down : (ps : List (List ℕ)) → AllDown ps → drop_while is_up ps ≡ ps
drop-down [] h = refl
drop-down (p ∷ ps) h = rw h.0 refl

-- an absolute path loses its leading `..`, and nothing else
pub drop-kept : (ups : ℕ) (names : List (List ℕ)) → AllDown names
    → drop_while is_up (components_kept ups names) ≡ components_kept 0 names
drop-kept ups names h = grind (arith, kept-ups, drop-ups, drop-down, down-kept)
