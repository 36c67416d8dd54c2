-- The components of a path as they are written, one more component at a time.
use Rattle.std.proofs.lemmas.Grind.{common_steps}
use Rattle.std.proofs.Common.{rules, ◌≡◌, ℕ, zero, suc, ◌+◌, ◌≤◌, ◌<◌, Bool, true, false, Option, Some}
use Rattle.std.proofs.Common.{List}
use Rattle.std.proofs.Common.{[], ◌∷◌, ◌++◌, length, replicate, refl, sym, ap, ◌∙◌, arith, length-append}
use Rattle.std.proofs.Common.{append_assoc}
use Rattle.std.specs.List.{slice_split, join_with_byte, list_any, AllByRecursion}
use Rattle.std.proofs.lemmas.List.{append-nil}
use Rattle.nj_text.specs.declared.components.Component.TheVariants.{Nowhere, Up, Name}
use Rattle.nj_text.specs.Paths.{is_slash, leads_nowhere, IsName}
use Rattle.nj_text.specs.Inside.Cleaning.{component_of, components_left, Kept, nothing_kept, kept_after}
use Rattle.nj_text.specs.Inside.Cleaning.{with_component, components_kept, ups_seen, IsWritten}
use Rattle.nj_text.specs.Inside.Cleaning.{text_with_component, DropsName}
use Rattle.nj_text.proofs.KeptComponents.{replicate-push}
use Rattle.nj_text.proofs.NamesDropped.{drops-at, drops-alone}

abbrev pub text_of : List (List ℕ) → List ℕ
text_of components = join_with_byte 47 components

-- no component is empty or `.`
abbrev pub AllGo : List (List ℕ) → Type 0
AllGo [] = Unit {0}
AllGo (p ∷ ps) = (leads_nowhere p ≡ false) × AllGo ps

go-push : (ps : List (List ℕ)) (p : List ℕ) → AllGo ps → leads_nowhere p ≡ false → AllGo (ps ++ p ∷ [])
go-push [] p h e = (e, tt)
go-push (q ∷ ps) p h e = (h.0, go-push ps p h.1 e)

go-replicate : (n : ℕ) → AllGo (replicate n (46 ∷ 46 ∷ []))
go-replicate zero = tt
go-replicate (suc n) = (refl, go-replicate n)

pub go-kept : (ups : ℕ) (names : List (List ℕ)) → AllByRecursion IsName names
    → AllGo (components_kept ups names)
go-kept ups [] h = go-replicate ups
go-kept ups (n ∷ names) h = go-push (components_kept ups names) n (go-kept ups names h.1) h.0.leads_somewhere

-- one more component, after others
pub text-push : (q : List ℕ) (ps : List (List ℕ)) (p : List ℕ)
    → text_of ((q ∷ ps) ++ p ∷ []) ≡ text_of (q ∷ ps) ++ 47 ∷ p
text-push q [] p = refl
text-push q (r ∷ ps) p = grind (arith, text-push r ps p, append_assoc q (47 ∷ text_of (r ∷ ps)) (47 ∷ p))

long_component : (p : List ℕ) → leads_nowhere p ≡ false → 0 < length p
long_component p e = grind (arith, common_steps)

pub long_text : (q : List ℕ) (ps : List (List ℕ)) → leads_nowhere q ≡ false → 0 < length (text_of (q ∷ ps))
long_text q ps e = grind (arith, common_steps)

-- the text grows with each component
text-longer : (ps : List (List ℕ)) (p : List ℕ) → leads_nowhere p ≡ false
    → length (text_of ps) < length (text_of (ps ++ p ∷ []))
text-longer [] p e = long_component p e
text-longer (q ∷ ps) p e = omega (
  arith,
  ap length (text-push q ps p),
  length-append (text_of (q ∷ ps)) (47 ∷ p),
)

floor_low : (ups : ℕ) (names : List (List ℕ)) → AllByRecursion IsName names
    → length (text_of (components_kept ups [])) ≤ length (text_of (components_kept ups names))
floor_low ups [] h = omega arith
floor_low ups (n ∷ names) h = grind (
  arith,
  floor_low ups names h.1,
  text-longer (components_kept ups names) n h.0.leads_somewhere,
)

text_with_component-first : (front : ℕ) (out p : List ℕ) → length out ≤ front
    → text_with_component front out p ≡ out ++ p
text_with_component-first front out p h = grind arith

text_with_component-next : (front : ℕ) (out p : List ℕ) → front < length out
    → text_with_component front out p ≡ out ++ 47 ∷ p
text_with_component-next front out p h = grind arith

pub push-text : (base : List ℕ) (ps : List (List ℕ)) (p : List ℕ) → AllGo ps
    → text_with_component (length base) (base ++ text_of ps) p ≡ base ++ text_of (ps ++ p ∷ [])
push-text base [] p h =
    text_with_component-first (length base) (base ++ []) p (omega (arith, ap length (append-nil base)))
    ∙ ap (λ xs. xs ++ p) (append-nil base)
push-text base (q ∷ ps) p h =
    let long = long_text q ps h.0 in
    text_with_component-next (length base) (base ++ text_of (q ∷ ps)) p
    (omega (arith, long, length-append base (text_of (q ∷ ps))))
    ∙ append_assoc base (text_of (q ∷ ps)) (47 ∷ p) ∙ ap (λ xs. base ++ xs) (sym (text-push q ps p))

-- ---- the meaning of each component

pub name-from_component : (p : List ℕ) → list_any is_slash p ≡ false → component_of p ≡ Name → IsName p
name-from_component p w e = grind arith

pub up-from_component : (p : List ℕ) → component_of p ≡ Up → p ≡ 46 ∷ 46 ∷ []
up-from_component p e = search rules

-- ---- one more component

-- nothing is written yet
pub written-none : (absolute : Bool) (out : List ℕ)
    → IsWritten absolute out (record { ups = 0; names = [] }) (length out) (length out) out
written-none absolute out = search rules

pub written-nowhere : (absolute : Bool) (base : List ℕ) (kept : Kept) (front floor : ℕ) (out p : List ℕ)
    → IsWritten absolute base kept front floor out → component_of p ≡ Nowhere
    → IsWritten absolute base (with_component (component_of p) p kept) front floor out
written-nowhere absolute base kept front floor out p w e = rw e w

pub written-name : (absolute : Bool) (base : List ℕ) (kept : Kept) (front floor : ℕ) (out p new : List ℕ)
    → IsWritten absolute base kept front floor out → component_of p ≡ Name
    → list_any is_slash p ≡ false → new ≡ text_with_component front out p
    → IsWritten absolute base (with_component (component_of p) p kept) front floor new
written-name absolute base kept front floor out p new w e s n = grind (
  arith,
  length,
  push-text,
  go-kept,
  name-from_component,
)

-- there is no name above the floor
no_names : (base : List ℕ) (ups : ℕ) (names : List (List ℕ)) (floor : ℕ) (out : List ℕ)
    → AllByRecursion IsName names → out ≡ base ++ text_of (components_kept ups names)
    → floor ≡ length base + length (text_of (components_kept ups [])) → length out ≤ floor → names ≡ []
no_names base ups [] floor out h e f l = refl
no_names base ups (n ∷ names) floor out h e f l =
    absurd (omega (
      arith,
      floor_low ups names h.1,
      text-longer (components_kept ups names) n h.0.leads_somewhere,
      ap length e,
      length-append base (text_of (components_kept ups (n ∷ names))),
    ))

-- `..` at the front of an absolute path
pub written-up_at_root : (base : List ℕ) (kept : Kept) (front floor : ℕ) (out p : List ℕ)
    → IsWritten true base kept front floor out → component_of p ≡ Up → length out ≤ floor
    → IsWritten true base (with_component (component_of p) p kept) front floor out
written-up_at_root base kept front floor out p w e l = grind (arith, no_names)

replicate-more : (n : ℕ) (x : List ℕ) → replicate n x ++ x ∷ [] ≡ replicate (suc n) x
replicate-more n x = replicate-push n x [] ∙ append-nil (replicate (suc n) x)

-- `..` at the front of a relative path
pub written-up_more : (base : List ℕ) (kept : Kept) (front floor : ℕ) (out p new : List ℕ)
    → IsWritten false base kept front floor out → component_of p ≡ Up → length out ≤ floor
    → new ≡ text_with_component front out p
    → IsWritten false base (with_component (component_of p) p kept) front (length new) new
written-up_more base kept front floor out p new w e l n = grind (
  arith,
  no_names,
  length,
  replicate,
  push-text,
  go-kept,
  up-from_component,
  replicate-more,
  length-append,
)

-- `..` after a name
pub written-down : (absolute : Bool) (base : List ℕ) (kept : Kept) (front floor : ℕ) (out p new : List ℕ)
    → IsWritten absolute base kept front floor out → component_of p ≡ Up → floor < length out
    → DropsName floor out new → IsWritten absolute base (with_component (component_of p) p kept) front floor
    new
written-down absolute base kept front floor out p new w e l d =
    rw e (by_names kept.names w.text_is w.are_names)
  where
    by_components : (ps : List (List ℕ)) (name : List ℕ) → AllGo ps → IsName name
        → out ≡ base ++ text_of (ps ++ name ∷ []) → floor ≤ length base + length (text_of ps)
        → (ps ≡ [] → floor ≡ length base) → new ≡ base ++ text_of ps
    by_components [] name g i t f z = drops-alone floor base name new i.has_no_slash (z refl) (rw (← t) d)
        ∙ sym (append-nil base)
    by_components (q ∷ ps) name g i t f z =
        let cut : out ≡ (base ++ text_of (q ∷ ps)) ++ 47 ∷ name =
        t ∙ ap (λ xs. base ++ xs) (text-push q ps name)
        ∙ sym (append_assoc base (text_of (q ∷ ps)) (47 ∷ name)) in
        drops-at floor (base ++ text_of (q ∷ ps)) name new i.has_no_slash
        (omega (arith, f, length-append base (text_of (q ∷ ps)))) (rw (← cut) d)

    low : (names : List (List ℕ)) → AllByRecursion IsName names
        → components_kept (ups_seen absolute kept.ups) names ≡ [] → floor ≡ length base
    low names h z =
        let under = floor_low (ups_seen absolute kept.ups) names h in
        let nothing : length (text_of (components_kept (ups_seen absolute kept.ups) names)) ≡ 0 =
        ap (λ ps. length (text_of ps)) z in
        omega (arith, w.floor_is, under, nothing)

    by_names : (names : List (List ℕ)) → out
        ≡ base ++ text_of (components_kept (ups_seen absolute kept.ups) names) → AllByRecursion IsName names
        → IsWritten absolute base (with_component Up p (record { ups = kept.ups; names = names })) front floor
        new
    by_names [] t h = absurd (omega (
      arith,
      w.floor_is,
      l,
      ap length t,
      length-append base (text_of (components_kept (ups_seen absolute kept.ups) [])),
    ))
    by_names (n ∷ names) t h = record {
      text_is = by_components (components_kept (ups_seen absolute kept.ups) names) n
          (go-kept (ups_seen absolute kept.ups) names h.1) h.0 t
          (omega (arith, w.floor_is, floor_low (ups_seen absolute kept.ups) names h.1)) (low names h.1);
      front_is = w.front_is;
      floor_is = w.floor_is;
      are_names = h.1;
    }

-- the same, from the facts that the code has
pub written-root : (absolute : Bool) → absolute ≡ true
    → (base : List ℕ) (kept : Kept) (front floor : ℕ) (out p : List ℕ)
    → IsWritten absolute base kept front floor out → component_of p ≡ Up → length out ≤ floor
    → IsWritten absolute base (with_component (component_of p) p kept) front floor out
written-root absolute e = grind (arith, written-up_at_root)

pub written-front : (absolute : Bool) → absolute ≡ false
    → (base : List ℕ) (kept : Kept) (front floor : ℕ) (out p new : List ℕ) (end : ℕ)
    → IsWritten absolute base kept front floor out → component_of p ≡ Up → length out ≤ floor
    → new ≡ text_with_component front out p → end ≡ length new
    → IsWritten absolute base (with_component (component_of p) p kept) front end new
written-front true e = absurd (cc)
written-front false e = λ base kept front floor out p new end w u l n ends. rw ends
    (written-up_more base kept front floor out p new w u l n)

-- ---- the loop over the components

-- some components are written, and the others are left
pub record IsPushing (absolute : Bool) (base path : List ℕ) (front floor : ℕ) (rest : Option (List ℕ))
    (out : List ℕ) : Type 0 where
  pub kept : Kept
  pub written : IsWritten absolute base kept front floor out
  pub left : kept_after kept (components_left rest) ≡ kept_after nothing_kept (slice_split is_slash path)

pub pushing-none : (absolute : Bool) (out path : List ℕ) (front : ℕ) → front ≡ length out
    → IsPushing absolute out path front front (Some path) out
pushing-none absolute out path front e = grind (arith, written-none absolute out)
