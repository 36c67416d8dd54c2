-- The lines of a list of paths, as `inputs` prints them: they rise, and are the lines of the listed paths.
use Rattle.std.proofs.Common.{◌≡◌, ◌≢◌, ◌↔◌, ◌⊎◌, inl, inr, ℕ, Bool, true, false, not, ◌||◌, cond}
use Rattle.std.proofs.Common.{if◌then◌else◌, Some, None, List, [], ◌∷◌, map, bytes_eq, refl, sym, ap, subst}
use Rattle.std.proofs.Common.{◌∙◌, true≢false, arith}
use Rattle.std.specs.List.{AllByRecursion, Contains, filter, IsDistinct}
use Rattle.std.specs.List.Sorted.{IsStrictlySortedBy}
use Rattle.std.specs.Cmp.Lexicographic.{slice_cmp}
use Rattle.std.specs.Ordering.{nat_cmp}
use Rattle.std.specs.Cmp.{IsEquivalence}
use Rattle.std.proofs.lemmas.Cmp.{nat_list_eq_equiv}
use Rattle.std.proofs.lemmas.List.Sorted.{IsPermutation-sym, Contains-permutation}
use Rattle.std.proofs.lemmas.Map.Keys.{IsDistinct-IsPermutation}
use Rattle.std.proofs.lemmas.Slice.Eq.{bytes_eq-Decides}
use Rattle.nj_edges.specs.Edges.{is_among}
use Rattle.nj_graph.specs.Graph.{is_before}
use Rattle.nj_graph.proofs.NameLemmas.{strict-sorted, permuted-sorted, contains-here, contains-later}
use Rattle.nj_graph.proofs.NameLemmas.{contains-cases}
use Rattle.nj_text.specs.Quotes.{quoted}
use Rattle.nj_text.specs.QuoteLaws.{shell_word}
use Rattle.nj_text.proofs.QuotedStrings.{takes_the_path}
use Rattle.nj_requests.specs.declared.style.InputsStyle.{InputsStyle}
use Rattle.nj_tools.specs.Listings.{sorted, printed, printed_strings, inputs_text, LinesRise, ListedHaveLines}
use Rattle.nj_edges.specs.Repeats.{each_once}
use Rattle.nj_tools.specs.Listings.{PlainInputsAreSortedQuotes}
use Rattle.nj_tools.proofs.CollectedLemmas.{among-once}

-- ---- they rise

differ-back : (x y : List ℕ) → bytes_eq x y ≡ false → bytes_eq y x ≡ false
differ-back x y h = by (bytes_eq y x) (bytes_eq-Decides y x).0
  where
    by : (b : Bool) → (b ≡ true → y ≡ x) → b ≡ false
    by true same = absurd (true≢false (sym ((bytes_eq-Decides x y).1 (sym (same refl))) ∙ h))
    by false same = refl

all-others : (P : List ℕ → Type 0) (p : List ℕ → Bool) (xs : List (List ℕ)) → AllByRecursion P xs
    → AllByRecursion P (filter p xs)
all-others P p [] all = tt
all-others P p (x ∷ xs) all = by (p x) (all-others P p xs all.1)
  where
    by : (b : Bool) → AllByRecursion P (filter p xs)
        → AllByRecursion P (cond b (x ∷ filter p xs) (filter p xs))
    by true rest = (all.0, rest)
    by false rest = rest

distinct-others : (p : List ℕ → Bool) (xs : List (List ℕ)) → IsDistinct bytes_eq xs
    → IsDistinct bytes_eq (filter p xs)
unfolding IsDistinct
distinct-others p [] distinct = tt
distinct-others p (x ∷ xs) distinct = by (p x) (distinct-others p xs distinct.1)
  where
    by : (b : Bool) → IsDistinct bytes_eq (filter p xs)
        → IsDistinct bytes_eq (cond b (x ∷ filter p xs) (filter p xs))
    by true rest = (all-others (λ y. bytes_eq x y ≡ false) p xs distinct.0, rest)
    by false rest = rest

others-differ : (x : List ℕ) (xs : List (List ℕ))
    → AllByRecursion (λ y. bytes_eq x y ≡ false) (filter (λ y. not (bytes_eq y x)) xs)
others-differ x [] = tt
others-differ x (y ∷ ys) = by (bytes_eq y x) refl (others-differ x ys)
  where
    others : List (List ℕ)
    others = filter (λ z. not (bytes_eq z x)) ys

    by : (b : Bool) → bytes_eq y x ≡ b → AllByRecursion (λ z. bytes_eq x z ≡ false) others
        → AllByRecursion (λ z. bytes_eq x z ≡ false) (cond (not b) (y ∷ others) others)
    by true h rest = rest
    by false h rest = (differ-back y x h, rest)

distinct-once : (paths : List (List ℕ)) → IsDistinct bytes_eq (each_once bytes_eq paths)
unfolding IsDistinct
distinct-once [] = tt
distinct-once (path ∷ paths) = (
  others-differ path (each_once bytes_eq paths),
  distinct-others (λ other. not (bytes_eq other path)) (each_once bytes_eq paths) (distinct-once paths),
)

pub lines-rise : LinesRise
lines-rise paths = strict-sorted (each_once bytes_eq paths) (distinct-once paths)

-- ---- which they are

or-true : (a b : Bool) → b ≡ true → (a || b) ≡ true
or-true true b h = refl
or-true false b h = h

contains-among : (paths : List (List ℕ)) (path : List ℕ) → is_among paths path ≡ true → Contains paths path
contains-among [] path h = absurd (true≢false (sym h))
contains-among (p ∷ paths) path h = by (bytes_eq path p) refl h (contains-among paths path)
  where
    by : (b : Bool) → bytes_eq path p ≡ b → (b || is_among paths path) ≡ true
        → (is_among paths path ≡ true → Contains paths path) → Contains (p ∷ paths) path
    by true same among rest = subst (λ q. Contains (q ∷ paths) path) ((bytes_eq-Decides path p).0 same)
        (contains-here path paths)
    by false same among rest = contains-later p path paths (rest among)

among-contains : (paths : List (List ℕ)) (path : List ℕ) → Contains paths path → is_among paths path ≡ true
among-contains [] path c = absurd (omega (arith, c.1))
among-contains (p ∷ paths) path c = by (contains-cases p path paths c) (among-contains paths path)
  where
    by : (path ≡ p) ⊎ Contains paths path → (Contains paths path → is_among paths path ≡ true)
        → (bytes_eq path p || is_among paths path) ≡ true
    by (inl is) rest = ap (λ b. b || is_among paths path) ((bytes_eq-Decides path p).1 is)
    by (inr later) rest = or-true (bytes_eq path p) (is_among paths path) (rest later)

pub listed-have_lines : ListedHaveLines
listed-have_lines paths path =
    let once = each_once bytes_eq paths in
    let moved = permuted-sorted is_before once in (
      λ h. contains-among paths path (sym (among-once paths path)
          ∙ among-contains once path (Contains-permutation (sorted once) once path
          (IsPermutation-sym once (sorted once) moved) h)),
      λ h. Contains-permutation once (sorted once) path moved
          (contains-among once path (among-once paths path ∙ among-contains paths path h)),
    )

-- ---- quoted

has-byte : (a : ℕ) (x : List ℕ) → a ∷ x ≢ []
has-byte a x h = absurd cc

some-same : (x y : List ℕ) → Some x ≡ Some y → x ≡ y
some-same x y h = cc

quoted-some : (a : ℕ) (x : List ℕ) → quoted (a ∷ x) ≡ [] → [] ≡ a ∷ x
quoted-some a x h = by (ap shell_word (sym h) ∙ takes_the_path (a ∷ x) (has-byte a x))
  where
    by : None ≡ Some (a ∷ x) → [] ≡ a ∷ x
    by e = absurd cc

-- a shell reads a quote as its path, so no two paths have the same quote
quoted-apart : (x y : List ℕ) → quoted x ≡ quoted y → x ≡ y
unfolding quoted
quoted-apart [] [] h = refl
quoted-apart [] (b ∷ y) h = quoted-some b y (sym h)
quoted-apart (a ∷ x) [] h = sym (quoted-some a x h)
quoted-apart (a ∷ x) (b ∷ y) h =
    some-same (a ∷ x) (b ∷ y) (sym (takes_the_path (a ∷ x) (has-byte a x)) ∙ ap shell_word h
    ∙ takes_the_path (b ∷ y) (has-byte b y))

-- nor does any style print two paths as the same text
printed-apart : (style : InputsStyle) (x y : List ℕ) → printed style x ≡ printed style y → x ≡ y
printed-apart style x y h = by style.shell_escape h
  where
    by : (b : Bool) → (if b then quoted x else x) ≡ (if b then quoted y else y) → x ≡ y
    by true same = quoted-apart x y same
    by false same = same

module _ (style : InputsStyle) where
  strings-differ : (x y : List ℕ) → bytes_eq x y ≡ false
      → bytes_eq (printed style x) (printed style y) ≡ false
  strings-differ x y h = by (bytes_eq (printed style x) (printed style y))
      (bytes_eq-Decides (printed style x) (printed style y)).0
    where
      by : (b : Bool) → (b ≡ true → printed style x ≡ printed style y) → b ≡ false
      by true same = absurd (true≢false (sym ((bytes_eq-Decides x y).1 (printed-apart style x y (same refl)))
          ∙ h))
      by false same = refl

  all-strings : (x : List ℕ) (ys : List (List ℕ)) → AllByRecursion (λ y. bytes_eq x y ≡ false) ys
      → AllByRecursion (λ z. bytes_eq (printed style x) z ≡ false) (map (printed style) ys)
  all-strings x [] all = tt
  all-strings x (y ∷ ys) all = (strings-differ x y all.0, all-strings x ys all.1)

  distinct-strings : (xs : List (List ℕ)) → IsDistinct bytes_eq xs
      → IsDistinct bytes_eq (map (printed style) xs)
  unfolding IsDistinct
  distinct-strings [] distinct = tt
  distinct-strings (x ∷ xs) distinct = (all-strings x xs distinct.0, distinct-strings xs distinct.1)

  path-of : (xs : List (List ℕ)) (text : List ℕ) → Contains (map (printed style) xs) text
      → (path : List ℕ) × Contains xs path × (printed style path ≡ text)
  path-of [] text c = absurd (omega (arith, c.1))
  path-of (x ∷ xs) text c = by (contains-cases (printed style x) text (map (printed style) xs) c)
      (path-of xs text)
    where
      by : (text ≡ printed style x) ⊎ Contains (map (printed style) xs) text
          → (Contains (map (printed style) xs) text
          → (path : List ℕ) × Contains xs path × (printed style path ≡ text))
          → (path : List ℕ) × Contains (x ∷ xs) path × (printed style path ≡ text)
      by (inl is) rest = (x, contains-here x xs, sym is)
      by (inr later) rest = let r = rest later in (r.0, contains-later x r.0 xs r.1, r.2)

  has-text : (xs : List (List ℕ)) (path : List ℕ) → Contains xs path
      → Contains (map (printed style) xs) (printed style path)
  has-text [] path c = absurd (omega (arith, c.1))
  has-text (x ∷ xs) path c = by (contains-cases x path xs c) (has-text xs path)
    where
      by : (path ≡ x) ⊎ Contains xs path → (Contains xs path
          → Contains (map (printed style) xs) (printed style path))
          → Contains (map (printed style) (x ∷ xs)) (printed style path)
      by (inl is) rest =
          subst (λ p. Contains (printed style p ∷ map (printed style) xs) (printed style path)) is
          (contains-here (printed style path) (map (printed style) xs))
      by (inr later) rest = contains-later (printed style x) (printed style path) (map (printed style) xs)
          (rest later)

bytes-alike : IsEquivalence bytes_eq
bytes-alike = nat_list_eq_equiv

module _ (style : InputsStyle) (paths : List (List ℕ)) where
  distinct : IsDistinct bytes_eq (map (printed style) (each_once bytes_eq paths))
  distinct = distinct-strings style (each_once bytes_eq paths) (distinct-once paths)

  pub sorted-rise : style.dependency_order ≡ false
      → IsStrictlySortedBy (slice_cmp nat_cmp) (printed_strings style paths)
  sorted-rise h = by style.dependency_order h
    where
      by : (b : Bool) → b ≡ false
          → IsStrictlySortedBy (slice_cmp nat_cmp)
          (if b then map (printed style) (each_once bytes_eq paths) else sorted
          (map (printed style) (each_once bytes_eq paths)))
      by true in_order = absurd (true≢false in_order)
      by false in_order = strict-sorted (map (printed style) (each_once bytes_eq paths)) distinct

  pub printed-differ : IsDistinct bytes_eq (printed_strings style paths)
  printed-differ = by style.dependency_order
    where
      by : (b : Bool) → IsDistinct bytes_eq
          (if b then map (printed style) (each_once bytes_eq paths) else sorted
          (map (printed style) (each_once bytes_eq paths)))
      by true = distinct
      by false =
          let all = map (printed style) (each_once bytes_eq paths) in
          IsDistinct-IsPermutation bytes_eq bytes-alike.symm all (sorted all) (permuted-sorted is_before all)
          distinct

  pub listed-printed : (text : List ℕ) → Contains (printed_strings style paths) text
      ↔ ((path : List ℕ) × Contains paths path × (printed style path ≡ text))
  listed-printed text =
      let once = each_once bytes_eq paths in
      let same = either style.dependency_order in (
        λ h.
            let of = path-of style once text (same.0 h) in (
              of.0,
              contains-among paths of.0 (sym (among-once paths of.0) ∙ among-contains once of.0 of.1),
              of.2,
            ),
        λ h. same.1
            (subst (Contains (map (printed style) once)) h.2
            (has-text style once h.0 (contains-among once h.0
            (among-once paths h.0 ∙ among-contains paths h.0 h.1)))),
      )
    where
      either : (b : Bool) → Contains (if b then map (printed style) (each_once bytes_eq paths) else sorted
          (map (printed style) (each_once bytes_eq paths))) text
          ↔ Contains (map (printed style) (each_once bytes_eq paths)) text
      either true = (λ h. h, λ h. h)
      either false =
          let all = map (printed style) (each_once bytes_eq paths) in
          let moved = permuted-sorted is_before all in (
            λ h. Contains-permutation (sorted all) all text (IsPermutation-sym all (sorted all) moved) h,
            λ h. Contains-permutation all (sorted all) text moved h,
          )

pub plain-quotes : PlainInputsAreSortedQuotes
unfolding inputs_text
plain-quotes edges targets = refl
