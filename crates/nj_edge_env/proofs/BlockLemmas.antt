-- Lemmas on the values of all names.
use Rattle.std.proofs.lemmas.Grind.{common_steps}
use Rattle.std.proofs.Common.{rules, ◌≡◌, ℕ, zero, suc, ◌+◌, ◌<◌, ◌≤◌, nat_eq, Bool, true, false, cond, not}
use Rattle.std.proofs.Common.{◌&&◌}
use Rattle.std.proofs.Common.{◌||◌, ◌⊎◌, inl, inr, Option, Some, None, is_some, option_map, option_and_then}
use Rattle.std.proofs.Common.{unwrap_or, List, [], ◌∷◌, ◌++◌, length, map, get_or, set, bytes_eq, arith, refl}
use Rattle.std.proofs.Common.{sym, ap, subst, ◌∙◌, true≢false}
use Rattle.std.specs.Prelude.{position, slice_get}
use Rattle.std.specs.Global.{Vec}
use Rattle.std.specs.Map.{lookup}
use Rattle.std.specs.List.{AllByRecursion, IsDistinct, list_any, slice_range}
use Rattle.std.proofs.lemmas.List.{map-append, length-append, length-set, get_or_append_left}
use Rattle.std.proofs.lemmas.List.Quantifiers.{position-Some}
use Rattle.std.proofs.lemmas.Map.Keys.{IsDistinct-tail, apart_from_distinct}
use Rattle.std.proofs.lemmas.Option.{get_or_from_slice_get, slice_get_within}
use Rattle.std.proofs.lemmas.Slice.Eq.{bytes_eq-Decides}
use Rattle.nj_edge_env.specs.declared.name_values.Bound.{Bound}
use Rattle.nj_edge_env.specs.Inside.BlocksHeld.{bound_of, values_of, values_by_name, names_of, bounds_of}
use Rattle.nj_edge_env.specs.Inside.BlocksHeld.{list_at, IsPart, BoundsAreHeld, BlocksAreHeld, BeginsWith}
use Rattle.nj_edge_env.specs.Inside.BlocksHeld.{IsFirstAt, IsNumberOf, BindNeitherAfter}
use Rattle.nj_scope.specs.Declarations.{is_pool_or_dyndep}
use Rattle.nj_edge_env.specs.Blocks.{BlocksModel, bound_in}
use Rattle.nj_edge_env.proofs.BoundLemmas.{values_at, values_kept, longer, bounds_grow, swapped}
use Rattle.nj_edge_env.proofs.BoundLemmas.{test-from_apart}

abbrev pub Rows : Type 0
Rows = List (ℕ × List ℕ)

abbrev pub All-bounds : Type 0
All-bounds = List (List Bound)

abbrev pub rows_of : (all : List (List ℕ × Rows)) → (name : List ℕ) → Option Rows
rows_of all name = lookup (bytes_eq name) all

-- the value of an edge among the values of all names
abbrev pub value_of : List (List ℕ × Rows) → ℕ → List ℕ → Option (List ℕ)
value_of all e x = option_and_then (lookup (λ n. nat_eq e n)) (rows_of all x)

-- ---- the number of a name

first-from : (name : List ℕ) (names : List (List ℕ)) (n : ℕ) → n < length names
    → bytes_eq name (get_or names n []) ≡ true
    → ((k : ℕ) → k < n → bytes_eq name (get_or names k []) ≡ false) → IsFirstAt name names n
first-from name [] n inside here before = absurd (omega arith)
first-from name (m ∷ names) zero inside here before = here
first-from name (m ∷ names) (suc n) inside here before = (
  before 0 (omega arith),
  first-from name names n (omega arith) here
      (λ k less. before (suc k) (omega arith)),
)

pub first-position : (name : List ℕ) (names : List (List ℕ)) (n : ℕ) → position (bytes_eq name) names ≡ Some n
    → IsFirstAt name names n
first-position name names n h = grind (arith, position-Some, bytes_eq, first-from)

pub first-new : (name : List ℕ) (names : List (List ℕ)) → list_any (bytes_eq name) names ≡ false
    → IsFirstAt name (names ++ name ∷ []) (length names)
first-new name [] absent = (bytes_eq-Decides name name).1 refl
first-new name (m ∷ names) absent = by (bytes_eq name m) refl (first-new name names) absent
  where
    by : (b : Bool) → bytes_eq name m ≡ b → (list_any (bytes_eq name) names ≡ false
        → IsFirstAt name (names ++ name ∷ []) (length names)) → (b || list_any (bytes_eq name) names) ≡ false
        → IsFirstAt name ((m ∷ names) ++ name ∷ []) (length (m ∷ names))
    by true same rest none = absurd (true≢false none)
    by false other rest none = (other, rest none)

-- the name at an index, where names are not repeated
pub first-distinct : (name : List ℕ) (names : List (List ℕ)) (n : ℕ) → IsDistinct bytes_eq names
    → slice_get names n ≡ Some name → IsFirstAt name names n
first-distinct name [] n apart h = absurd (true≢false (sym (ap is_some h)))
first-distinct name (m ∷ names) zero apart h = (bytes_eq-Decides name m).1 (sym (ap (λ o. unwrap_or o []) h))
first-distinct name (m ∷ names) (suc n) apart h =
    (by (bytes_eq name m) refl, first-distinct name names n (IsDistinct-tail bytes_eq m names apart) h)
  where
    inside : n < length names
    inside = slice_get_within names n name h

    differ : bytes_eq m name ≡ false
    differ = ap (bytes_eq m) (sym (get_or_from_slice_get names n name [] h))
        ∙ apart_from_distinct bytes_eq (m ∷ names) 0 (suc n) [] apart (omega arith) (omega (arith, inside))

    by : (b : Bool) → bytes_eq name m ≡ b → bytes_eq name m ≡ false
    by false other = other
    by true same =
        let is : name ≡ m = (bytes_eq-Decides name m).0 same in
        absurd (true≢false (sym same ∙ ap (λ x. bytes_eq x m) is ∙ ap (bytes_eq m) (sym is) ∙ differ))

pub first-within : (name : List ℕ) (names : List (List ℕ)) (n : ℕ) → IsFirstAt name names n → n < length names
first-within name [] n h = absurd h
first-within name (m ∷ names) zero h = omega arith
first-within name (m ∷ names) (suc n) h = let rest = first-within name names n h.1 in omega (arith, rest)

pub first-is : (name : List ℕ) (names : List (List ℕ)) (n : ℕ) → IsFirstAt name names n
    → get_or names n [] ≡ name
first-is name [] n h = absurd h
first-is name (m ∷ names) zero h = sym ((bytes_eq-Decides name m).0 h)
first-is name (m ∷ names) (suc n) h = first-is name names n h.1

-- ---- look-ups

pub rows-first : (text : List ℕ) (names : List (List ℕ)) (bounds : All-bounds) (name : List ℕ) (n : ℕ)
    → length bounds ≡ length names → IsFirstAt name names n
    → rows_of (values_by_name text names bounds) name ≡ Some (values_of text (get_or bounds n []))
rows-first text [] bounds name n many h = absurd h
rows-first text (m ∷ names) [] name n many h = absurd (omega (arith, many))
rows-first text (m ∷ names) (bs ∷ bounds) name zero many h = grind arith
rows-first text (m ∷ names) (bs ∷ bounds) name (suc n) many h = grind (
  arith,
  rows-first text names bounds name n (omega (arith, many)) h.1,
)

pub rows-absent : (text : List ℕ) (names : List (List ℕ)) (bounds : All-bounds) (name : List ℕ)
    → list_any (bytes_eq name) names ≡ false → rows_of (values_by_name text names bounds) name ≡ None
rows-absent text [] bounds name absent = refl
rows-absent text (m ∷ names) [] name absent = refl
rows-absent text (m ∷ names) (bs ∷ bounds) name absent =
    by (bytes_eq name m) (rows-absent text names bounds name) absent
  where
    by : (b : Bool) → (list_any (bytes_eq name) names ≡ false
        → rows_of (values_by_name text names bounds) name ≡ None)
        → (b || list_any (bytes_eq name) names) ≡ false
        → cond b (Some (values_of text bs)) (rows_of (values_by_name text names bounds) name) ≡ None
    by true rest none = absurd (true≢false none)
    by false rest none = rest none

-- the value in the block of an edge, by the bounds of its name
pub value-first : (text : List ℕ) (names : List (List ℕ)) (bounds : All-bounds) (name : List ℕ) (n edge : ℕ)
    → length bounds ≡ length names → IsFirstAt name names n
    → value_of (values_by_name text names bounds) edge name
    ≡ option_map (λ b. slice_range text b.start b.end) (bound_of (get_or bounds n []) edge)
value-first text names bounds name n edge many h =
    ap (option_and_then (lookup (λ k. nat_eq edge k))) (rows-first text names bounds name n many h)
    ∙ values_at text (get_or bounds n []) edge

-- ---- changes

abbrev value_in : ℕ → Option Rows → Option (List ℕ)
value_in e rows = option_and_then (lookup (λ n. nat_eq e n)) rows

-- a name without values is not bound
value-appended : (text : List ℕ) (names : List (List ℕ)) (bounds : All-bounds) (name : List ℕ) (e : ℕ)
    (x : List ℕ) → length bounds ≡ length names
    → value_of (values_by_name text (names ++ name ∷ []) (bounds ++ [] ∷ [])) e x
    ≡ value_of (values_by_name text names bounds) e x
value-appended text [] [] name e x many = grind arith
value-appended text [] (bs ∷ bounds) name e x many = absurd (omega (arith, many))
value-appended text (m ∷ names) [] name e x many = absurd (omega (arith, many))
value-appended text (m ∷ names) (bs ∷ bounds) name e x many =
    by (bytes_eq x m) (value-appended text names bounds name e x (omega (arith, many)))
  where
    by : (b : Bool) → value_of (values_by_name text (names ++ name ∷ []) (bounds ++ [] ∷ [])) e x
        ≡ value_of (values_by_name text names bounds) e x
        → option_and_then (lookup (λ n. nat_eq e n))
        (cond b (Some (values_of text bs)) (rows_of
        (values_by_name text (names ++ name ∷ []) (bounds ++ [] ∷ [])) x))
        ≡ option_and_then (lookup (λ n. nat_eq e n))
        (cond b (Some (values_of text bs)) (rows_of (values_by_name text names bounds) x))
    by true rest = refl
    by false rest = rest

-- other bounds of one name
rows-set : (text : List ℕ) (names : List (List ℕ)) (bounds : All-bounds) (name : List ℕ) (n : ℕ)
    (bs : List Bound) (x : List ℕ) → length bounds ≡ length names → IsFirstAt name names n
    → rows_of (values_by_name text names (set bounds n bs)) x
    ≡ cond (bytes_eq x name) (Some (values_of text bs)) (rows_of (values_by_name text names bounds) x)
rows-set text [] bounds name n bs x many h = absurd h
rows-set text (m ∷ names) [] name n bs x many h = absurd (omega (arith, many))
rows-set text (m ∷ names) (cs ∷ bounds) name zero bs x many h =
    hidden (bytes_eq x m) (bytes_eq x name) (ap (bytes_eq x) (sym ((bytes_eq-Decides name m).0 h)))
  where
    hidden : (s t : Bool) → s ≡ t → cond s (Some (values_of text bs))
        (rows_of (values_by_name text names bounds) x)
        ≡ cond t (Some (values_of text bs)) (cond s (Some (values_of text cs))
        (rows_of (values_by_name text names bounds) x))
    hidden true true same = refl
    hidden true false same = absurd (true≢false same)
    hidden false true same = absurd (true≢false (sym same))
    hidden false false same = refl
rows-set text (m ∷ names) (cs ∷ bounds) name (suc n) bs x many h =
    ap (cond (bytes_eq x m) (Some (values_of text cs)))
    (rows-set text names bounds name n bs x (omega (arith, many)) h.1)
    ∙ swapped (bytes_eq x m) (bytes_eq x name) (Some (values_of text cs)) (Some (values_of text bs))
    (rows_of (values_by_name text names bounds) x)
    (λ p q. true≢false (sym ((bytes_eq-Decides name m).1
    (sym ((bytes_eq-Decides x name).0 q) ∙ (bytes_eq-Decides x m).0 p)) ∙ h.0))

values-kept : (text new : List ℕ) (last : ℕ) (names : List (List ℕ)) (bounds : All-bounds)
    → BeginsWith text new → AllByRecursion (BoundsAreHeld (length text) last) bounds
    → values_by_name new names bounds ≡ values_by_name text names bounds
values-kept text new last [] bounds grew held = refl
values-kept text new last (m ∷ names) [] grew held = refl
values-kept text new last (m ∷ names) (bs ∷ bounds) grew held = grind (
  arith,
  values_kept text new last bs grew held.0.parts,
  values-kept text new last names bounds grew held.1,
)

-- ---- the fields

all-grow : (len more last : ℕ) (bounds : All-bounds) → len ≤ more
    → AllByRecursion (BoundsAreHeld len last) bounds → AllByRecursion (BoundsAreHeld more last) bounds
all-grow len more last [] h held = tt
all-grow len more last (bs ∷ bounds) h held =
    (bounds_grow len more last bs h held.0, all-grow len more last bounds h held.1)

pub all-at : (P : List Bound → Type 0) (bounds : All-bounds) (n : ℕ) → n < length bounds
    → AllByRecursion P bounds → P (get_or bounds n [])
all-at h bounds n inside all = grind (arith, common_steps)

all-set : (P : List Bound → Type 0) (bounds : All-bounds) (n : ℕ) (bs : List Bound) → P bs
    → AllByRecursion P bounds → AllByRecursion P (set bounds n bs)
all-set h bounds n bs h1 all = grind (arith, common_steps)

all-push : (P : List Bound → Type 0) (bounds : All-bounds) (bs : List Bound) → P bs → AllByRecursion P bounds
    → AllByRecursion P (bounds ++ bs ∷ [])
all-push h bounds bs h1 all = grind (arith, common_steps)

pub bounds-at : (vs : List (Vec Bound)) (n : ℕ) (v : Vec Bound) → n < length (bounds_of vs)
    → v ≡ get_or vs n v → get_or (bounds_of vs) n [] ≡ v.items
bounds-at vs n v inside is = grind (arith, common_steps)

-- ---- names that are listed

pub names-at : (names : List (List ℕ)) (lists : List (List ℕ)) (e : ℕ)
    → get_or (map (names_of names) lists) e [] ≡ names_of names (list_at lists e)
names-at names lists e = grind (arith, common_steps)

pub name-some : (names : List (List ℕ)) (numbers : List ℕ) (i n : ℕ) (name : List ℕ) → i < length numbers
    → n ≡ get_or numbers i n → slice_get names n ≡ Some name
    → Some name ≡ slice_get (names_of names numbers) i
name-some names [] i n name inside is got = absurd (omega arith)
name-some names (m ∷ numbers) zero n name inside is got =
    ap Some (sym (get_or_from_slice_get names n name [] got) ∙ ap (λ k. get_or names k []) is)
name-some names (m ∷ numbers) (suc i) n name inside is got =
    name-some names numbers i n name (omega arith) is got

pub name-none : (names : List (List ℕ)) (numbers : List ℕ) (i : ℕ) → length numbers ≤ i
    → None ≡ slice_get (names_of names numbers) i
name-none names [] i past = refl
name-none names (m ∷ numbers) zero past = absurd (omega arith)
name-none names (m ∷ numbers) (suc i) past = name-none names numbers i (omega arith)

names-kept : (names : List (List ℕ)) (name : List ℕ) (numbers : List ℕ)
    → AllByRecursion (λ number. number < length names) numbers
    → names_of (names ++ name ∷ []) numbers ≡ names_of names numbers
names-kept names name [] known = refl
names-kept names name (n ∷ numbers) known = grind (
  arith,
  get_or_append_left names (name ∷ []) [] n known.0,
  get_or names n [],
  names-kept names name numbers known.1,
)

known-more : (count more : ℕ) (numbers : List ℕ) → count ≤ more
    → AllByRecursion (λ number. number < count) numbers → AllByRecursion (λ number. number < more) numbers
known-more count more [] le known = tt
known-more count more (n ∷ numbers) le known = grind (arith, known-more count more numbers le known.1)

known-push : (count : ℕ) (numbers : List ℕ) (n : ℕ) → n < count
    → AllByRecursion (λ number. number < count) numbers
    → AllByRecursion (λ number. number < count) (numbers ++ n ∷ [])
known-push count numbers n h known = grind (arith, common_steps)

-- ---- binding one name

-- other values of one name
value-bound : (old new : List (List ℕ × Rows)) (name : List ℕ) (rows : Rows) (edge : ℕ) (value : List ℕ)
    → ((x : List ℕ) → rows_of new x ≡ cond (bytes_eq x name) (Some rows) (rows_of old x))
    → ((e : ℕ) → lookup (λ n. nat_eq e n) rows ≡ cond (nat_eq e edge) (Some value) (value_of old e name))
    → (e : ℕ) (x : List ℕ) → value_of new e x
    ≡ cond (nat_eq e edge && bytes_eq x name) (Some value) (value_of old e x)
value-bound old new name rows edge value now bound e x = search rules

-- the same values of one name again
rows-same : (old new : List (List ℕ × Rows)) (name : List ℕ) (rows : Rows)
    → ((x : List ℕ) → rows_of new x ≡ cond (bytes_eq x name) (Some rows) (rows_of old x))
    → rows_of old name ≡ Some rows → (x : List ℕ) → rows_of new x ≡ rows_of old x
rows-same old new name rows now was x = search rules

parts-later : (len last edge : ℕ) (bounds : List Bound) → last ≤ edge
    → AllByRecursion (IsPart len last) bounds → AllByRecursion (IsPart len edge) bounds
parts-later len last edge [] from parts = tt
parts-later len last edge (b ∷ bounds) from parts = grind (
  arith,
  parts-later len last edge bounds from parts.1,
)

all-later : (len last edge : ℕ) (bounds : All-bounds) → last ≤ edge
    → AllByRecursion (BoundsAreHeld len last) bounds → AllByRecursion (BoundsAreHeld len edge) bounds
all-later len last edge [] from held = tt
all-later len last edge (bs ∷ bounds) from held = grind (
  arith,
  parts-later len last edge bs from held.0.parts,
  all-later len last edge bounds from held.1,
)

pub later : (len last edge : ℕ) (names : List (List ℕ)) (bounds : All-bounds) (lists : List (List ℕ))
    → last ≤ edge → BlocksAreHeld len last names bounds lists → BlocksAreHeld len edge names bounds lists
later len last edge names bounds lists from held = grind (arith, all-later)

-- ---- `pool` and `dyndep`

-- the block of an edge binds a name, and nothing else changes
pub neither-after : (assigning edge : ℕ) (name : List ℕ) (old new : BlocksModel) → old.last ≤ edge
    → new.last ≡ edge
    → ((e : ℕ) (x : List ℕ) → (nat_eq e edge && bytes_eq x name) ≡ false
    → bound_in new e x ≡ bound_in old e x)
    → BindNeitherAfter assigning old → BindNeitherAfter (cond (is_pool_or_dyndep name) edge assigning) new
neither-after assigning edge name old new from now same neither = by (is_pool_or_dyndep name) refl
  where
    both-false : (s t : Bool) → t ≡ false → (s && t) ≡ false
    both-false true t h = h
    both-false false t h = refl

    other : (x : List ℕ) → is_pool_or_dyndep name ≡ false → is_pool_or_dyndep x ≡ true → (t : Bool)
        → bytes_eq x name ≡ t → bytes_eq x name ≡ false
    other x not_name is false apart = apart
    other x not_name is true equal = absurd
        (true≢false (sym is ∙ ap is_pool_or_dyndep ((bytes_eq-Decides x name).0 equal) ∙ not_name))

    by : (b : Bool) → is_pool_or_dyndep name ≡ b → BindNeitherAfter (cond b edge assigning) new
    by true is = record {
      within = subst (λ l. edge ≤ l) (sym now) (omega arith);
      none = λ e x pool after.
          same e x (ap (λ b. b && bytes_eq x name)
          (test-from_apart e edge (λ equal. omega (arith, equal, after))))
          ∙ neither.none e x pool (let within = neither.within in omega (arith, after, from, within));
    }
    by false is = record {
      within = subst (λ l. assigning ≤ l) (sym now)
          (let within = neither.within in omega (arith, from, within));
      none = λ e x pool after. same e x (both-false (nat_eq e edge) (bytes_eq x name)
          (other x is pool (bytes_eq x name) refl)) ∙ neither.none e x pool after;
    }

abbrev pub Bound-now : (text new : List ℕ) (edge : ℕ) (value : List ℕ) (before after : List Bound) → Type 0
Bound-now text new edge value before after =
    (e : ℕ) → lookup (λ n. nat_eq e n) (values_of new after)
    ≡ cond (nat_eq e edge) (Some value) (lookup (λ n. nat_eq e n) (values_of text before))

module _ (text : List ℕ) (names : List (List ℕ)) (bounds : All-bounds) (lists : List (List ℕ)) (edge : ℕ)
    (held : BlocksAreHeld (length text) edge names bounds lists)
    (name : List ℕ) (names1 : List (List ℕ)) (bounds1 : All-bounds) (n : ℕ)
    (is : IsNumberOf name names bounds names1 bounds1 n) where
  abbrev Grows : Type 0
  Grows = ((names1 ≡ names) × (bounds1 ≡ bounds))
      ⊎ ((names1 ≡ names ++ name ∷ []) × (bounds1 ≡ bounds ++ [] ∷ []))

  same-values : (e : ℕ) (x : List ℕ) → value_of (values_by_name text names1 bounds1) e x
      ≡ value_of (values_by_name text names bounds) e x
  same-values e x = by is.grows
    where
      by : Grows → value_of (values_by_name text names1 bounds1) e x
          ≡ value_of (values_by_name text names bounds) e x
      by (inl (a, b)) = ap (λ ns. value_of (values_by_name text ns bounds1) e x) a
          ∙ ap (λ bs. value_of (values_by_name text names bs) e x) b
      by (inr (a, b)) = ap (λ ns. value_of (values_by_name text ns bounds1) e x) a
          ∙ ap (λ bs. value_of (values_by_name text (names ++ name ∷ []) bs) e x) b
          ∙ value-appended text names bounds name e x held.as_many

  same-names : (e : ℕ) → names_of names1 (list_at lists e) ≡ names_of names (list_at lists e)
  same-names e = by is.grows
    where
      by : Grows → names_of names1 (list_at lists e) ≡ names_of names (list_at lists e)
      by (inl (a, b)) = ap (λ ns. names_of ns (list_at lists e)) a
      by (inr (a, b)) = ap (λ ns. names_of ns (list_at lists e)) a
          ∙ names-kept names name (list_at lists e) (held.listed e)

  pub numbered : BlocksAreHeld (length text) edge names1 bounds1 lists
  numbered = by is.grows
    where
      by : Grows → BlocksAreHeld (length text) edge names1 bounds1 lists
      by (inl (a, b)) = record {
        as_many = ap length b ∙ held.as_many ∙ ap length (sym a);
        values = subst (AllByRecursion (BoundsAreHeld (length text) edge)) (sym b) held.values;
        listed = λ e. subst (λ (ns : List (List ℕ)). AllByRecursion (λ number. number < length ns)
            (list_at lists e)) (sym a) (held.listed e);
        lists_end = held.lists_end;
      }
      by (inr (a, b)) = record {
        as_many = ap length b ∙ length-append bounds ([] ∷ []) ∙ ap (λ m. m + 1) held.as_many
            ∙ sym (length-append names (name ∷ [])) ∙ ap length (sym a);
        values = subst (AllByRecursion (BoundsAreHeld (length text) edge)) (sym b)
            (all-push (BoundsAreHeld (length text) edge) bounds [] (record { parts = tt; rising = tt })
            held.values);
        listed = λ e. subst (λ (ns : List (List ℕ)). AllByRecursion (λ number. number < length ns)
            (list_at lists e)) (sym a)
            (known-more (length names) (length (names ++ name ∷ [])) (list_at lists e)
            (omega (arith, length-append names (name ∷ []))) (held.listed e));
        lists_end = held.lists_end;
      }

  pub number-within : n < length bounds1
  number-within = let inside = first-within name names1 n is.at in omega (arith, inside, numbered.as_many)

  pub held-here : BoundsAreHeld (length text) edge (get_or bounds1 n [])
  held-here = all-at (BoundsAreHeld (length text) edge) bounds1 n number-within numbered.values

  was_here : rows_of (values_by_name text names1 bounds1) name ≡ Some (values_of text (get_or bounds1 n []))
  was_here = rows-first text names1 bounds1 name n numbered.as_many is.at

  -- whether it was bound, by its bounds
  pub bound-here : is_some (bound_of (get_or bounds1 n []) edge)
      ≡ is_some (value_of (values_by_name text names bounds) edge name)
  bound-here = by (bound_of (get_or bounds1 n []) edge)
      ∙ sym (ap is_some (value-first text names1 bounds1 name n edge numbered.as_many is.at))
      ∙ ap is_some (same-values edge name)
    where
      by : (o : Option Bound) → is_some o ≡ is_some (option_map (λ b. slice_range text b.start b.end) o)
      by None = refl
      by (Some b) = refl

  module _ (new : List ℕ) (bs : List Bound) (lists1 : List (List ℕ)) (grew : BeginsWith text new) where
    set_rows : (x : List ℕ) → rows_of (values_by_name new names1 (set bounds1 n bs)) x
        ≡ cond (bytes_eq x name) (Some (values_of new bs)) (rows_of (values_by_name text names1 bounds1) x)
    set_rows x = rows-set new names1 bounds1 name n bs x numbered.as_many is.at
        ∙ ap (λ all. cond (bytes_eq x name) (Some (values_of new bs)) (rows_of all x))
        (values-kept text new edge names1 bounds1 grew numbered.values)

    pub set-bound : (value : List ℕ) → Bound-now text new edge value (get_or bounds1 n []) bs
        → (e : ℕ) (x : List ℕ) → value_of (values_by_name new names1 (set bounds1 n bs)) e x
        ≡ cond (nat_eq e edge && bytes_eq x name) (Some value)
        (value_of (values_by_name text names bounds) e x)
    set-bound value bound e x =
        value-bound (values_by_name text names1 bounds1) (values_by_name new names1 (set bounds1 n bs)) name
        (values_of new bs) edge value set_rows
        (λ k. bound k ∙ ap (λ o. cond (nat_eq k edge) (Some value)
        (option_and_then (lookup (λ n. nat_eq k n)) o)) (sym was_here)) e x
        ∙ ap (cond (nat_eq e edge && bytes_eq x name) (Some value)) (same-values e x)

    pub set-same : values_of new bs ≡ values_of text (get_or bounds1 n [])
        → (e : ℕ) (x : List ℕ) → value_of (values_by_name new names1 (set bounds1 n bs)) e x
        ≡ value_of (values_by_name text names bounds) e x
    set-same same e x =
        ap (option_and_then (lookup (λ n. nat_eq e n)))
        (rows-same (values_by_name text names1 bounds1) (values_by_name new names1 (set bounds1 n bs)) name
        (values_of new bs) set_rows (was_here ∙ ap Some (sym same)) x)
        ∙ same-values e x

    abbrev pub Listed : Type 0
    Listed = (e : ℕ) → list_at lists1 e ≡ cond
        (nat_eq e edge && not (is_some (bound_of (get_or bounds1 n []) edge))) (list_at lists e ++ n ∷ [])
        (list_at lists e)

    pub names-bound : Listed → (e : ℕ) → get_or (map (names_of names1) lists1) e []
        ≡ cond (nat_eq e edge && not (is_some (value_of (values_by_name text names bounds) edge name)))
        (get_or (map (names_of names) lists) e [] ++ name ∷ []) (get_or (map (names_of names) lists) e [])
    names-bound listed e =
        names-at names1 lists1 e ∙ ap (names_of names1) (listed e)
        ∙ by (nat_eq e edge && not (is_some (bound_of (get_or bounds1 n []) edge)))
        ∙ ap (λ t. cond (nat_eq e edge && not t) (names_of names (list_at lists e) ++ name ∷ [])
        (names_of names (list_at lists e))) bound-here
        ∙ ap (λ xs. cond (nat_eq e edge && not
        (is_some (value_of (values_by_name text names bounds) edge name))) (xs ++ name ∷ []) xs)
        (sym (names-at names lists e))
      where
        by : (t : Bool) → names_of names1 (cond t (list_at lists e ++ n ∷ []) (list_at lists e))
            ≡ cond t (names_of names (list_at lists e) ++ name ∷ []) (names_of names (list_at lists e))
        by true = map-append (λ number. get_or names1 number []) (list_at lists e) (n ∷ [])
            ∙ ap (λ xs. xs ++ get_or names1 n [] ∷ []) (same-names e)
            ∙ ap (λ x. names_of names (list_at lists e) ++ x ∷ []) (first-is name names1 n is.at)
        by false = same-names e

    pub names-same : ((e : ℕ) → list_at lists1 e ≡ list_at lists e) → (e : ℕ)
        → get_or (map (names_of names1) lists1) e [] ≡ get_or (map (names_of names) lists) e []
    names-same same e = names-at names1 lists1 e ∙ ap (names_of names1) (same e) ∙ same-names e
        ∙ sym (names-at names lists e)

    held-after : BoundsAreHeld (length new) edge bs
        → ((e : ℕ) → AllByRecursion (λ number. number < length names1) (list_at lists1 e))
        → length lists1 ≤ edge + 1
        → BlocksAreHeld (length new) edge names1 (set bounds1 n bs) lists1
    held-after now known ends = record {
      as_many = length-set bounds1 n bs ∙ numbered.as_many;
      values = all-set (BoundsAreHeld (length new) edge) bounds1 n bs now
          (all-grow (length text) (length new) edge bounds1 (longer text new grew) numbered.values);
      listed = known;
      lists_end = ends;
    }

    pub held-bound : BoundsAreHeld (length new) edge bs → Listed → length lists1 ≤ edge + 1
        → BlocksAreHeld (length new) edge names1 (set bounds1 n bs) lists1
    held-bound now listed ends = held-after now
        (λ e. subst (AllByRecursion (λ number. number < length names1)) (sym (listed e))
        (by e (nat_eq e edge && not (is_some (bound_of (get_or bounds1 n []) edge))))) ends
      where
        by : (e : ℕ) (t : Bool) → AllByRecursion (λ number. number < length names1)
            (cond t (list_at lists e ++ n ∷ []) (list_at lists e))
        by e true = known-push (length names1) (list_at lists e) n (first-within name names1 n is.at)
            (numbered.listed e)
        by e false = numbered.listed e

    pub held-same : BoundsAreHeld (length new) edge bs → ((e : ℕ) → list_at lists1 e ≡ list_at lists e)
        → length lists1 ≤ edge + 1 → BlocksAreHeld (length new) edge names1 (set bounds1 n bs) lists1
    held-same now same ends = held-after now
        (λ e. subst (AllByRecursion (λ number. number < length names1)) (sym (same e)) (numbered.listed e))
        ends
