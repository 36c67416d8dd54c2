-- The meaning of targets' arguments.
use Rattle.std.proofs.lemmas.Grind.{common_steps}
use Rattle.std.proofs.Common.{if◌then◌else◌, ◌≡◌, ◌⊎◌, inl, inr, ℕ, zero, suc, ◌+◌, ◌-◌, ◌≤◌, Bool, true}
use Rattle.std.proofs.Common.{false, ◌||◌, List, [], ◌∷◌, ◌++◌, Option, Some, None, Ok, Err, take, drop}
use Rattle.std.proofs.Common.{length, slice_get, bytes_eq, refl, sym, ap, ◌∙◌, arith, true≢false}
use Rattle.std.specs.Prelude.{codes, option_and_then, ok_or}
use Rattle.std.specs.List.{Contains, list_any}
use Rattle.std.proofs.lemmas.Cmp.{nat_list_eq_equiv}
use Rattle.std.proofs.lemmas.List.{take-append-drop}
use Rattle.std.proofs.lemmas.Map.Views.{Contains-from_any, list_any-from_Contains}
use Rattle.std.proofs.lemmas.Option.{get_or_from_slice_get, none-some, same_Some}
use Rattle.std.proofs.lemmas.Slice.Eq.{bytes_eq-Decides}
use Rattle.nj_text.specs.Paths.{clean_path_of}
use Rattle.nj_faults.specs.declared.fault.Cause.TheVariants.{UnknownTarget, NoOutEdge}
use Rattle.nj_faults.specs.Faults.{unplaced}
use Rattle.nj_edges.specs.Edges.{EdgePaths, edge_at, edges_from, first_output, outputs_of, inputs_of}
use Rattle.nj_edges.specs.Edges.{users_of, is_among, names, is_named}
use Rattle.nj_graph.specs.Laws.{IsNamedBy, IsMadeOf, HasNoCaret, Means, a_file, no_file, made}
use Rattle.nj_graph.specs.Laws.{made_of_no_file, not_made, WordsMeanPaths, EmptyWordMeansNothing}
use Rattle.nj_graph.specs.Targets.{target, first_made_of, made_target, clean_target}
use Rattle.nj_graph.proofs.NameLemmas.{contains-here, contains-later, contains-cases}

-- ---- tests on lists

among : (paths : List (List ℕ)) (path : List ℕ) → Contains paths path → is_among paths path ≡ true
among paths path h = list_any-from_Contains nat_list_eq_equiv path paths h

from-among : (paths : List (List ℕ)) (path : List ℕ) → is_among paths path ≡ true → Contains paths path
from-among paths path h = Contains-from_any (λ x y. (bytes_eq-Decides x y).0) path paths h

module _ {X : Type 0} (test : X → Bool) where
  any-from_one : (xs : List X) (x : X) → Contains xs x → test x ≡ true → list_any test xs ≡ true
  any-from_one [] x there passes = absurd (omega (arith, there.1))
  any-from_one (y ∷ xs) x there passes = by (contains-cases y x xs there) (any-from_one xs x)
    where
      later : (a b : Bool) → b ≡ true → (a || b) ≡ true
      later true b h = refl
      later false b h = h

      by : (x ≡ y) ⊎ Contains xs x → (Contains xs x → test x ≡ true → list_any test xs ≡ true)
          → list_any test (y ∷ xs) ≡ true
      by (inl same) rest = ap (λ b. b || list_any test xs) (ap test (sym same) ∙ passes)
      by (inr there) rest = later (test y) (list_any test xs) (rest there passes)

  one-from_any : (xs : List X) → list_any test xs ≡ true → (x : X) × Contains xs x × (test x ≡ true)
  one-from_any [] h = absurd (true≢false (sym h))
  one-from_any (y ∷ xs) h = by (test y) refl h (one-from_any xs)
    where
      by : (b : Bool) → test y ≡ b → (b || list_any test xs) ≡ true
          → (list_any test xs ≡ true → (x : X) × Contains xs x × (test x ≡ true))
          → (x : X) × Contains (y ∷ xs) x × (test x ≡ true)
      by true is h rest = (y, contains-here y xs, is)
      by false is h rest = let one = rest h in (one.0, contains-later y one.0 xs one.1, one.2)

-- ---- the edges that name a file

one-of_three : (a b c : Bool) → (a || b || c) ≡ true → (a ≡ true) ⊎ ((b ≡ true) ⊎ (c ≡ true))
one-of_three true b c h = inl refl
one-of_three false true c h = inr (inl refl)
one-of_three false false c h = inr (inr h)

three-from_one : (a b c : Bool) → (a ≡ true) ⊎ ((b ≡ true) ⊎ (c ≡ true)) → (a || b || c) ≡ true
three-from_one true b c h = refl
three-from_one false true c h = refl
three-from_one false false c (inl h) = absurd (true≢false (sym h))
three-from_one false false c (inr (inl h)) = absurd (true≢false (sym h))
three-from_one false false c (inr (inr h)) = h

is-named : (edges : List EdgePaths) (path : List ℕ) → IsNamedBy edges path → is_named edges path ≡ true
is-named edges path h = any-from_one (λ e. names e path) edges h.edge h.there (by h.named)
  where
    one : (is_among (outputs_of h.edge) path ≡ true)
        ⊎ ((is_among (inputs_of h.edge) path ≡ true) ⊎ (is_among h.edge.validations path ≡ true))
        → names h.edge path ≡ true
    one = three-from_one (is_among (outputs_of h.edge) path) (is_among (inputs_of h.edge) path)
        (is_among h.edge.validations path)

    by : Contains (outputs_of h.edge) path
        ⊎ (Contains (inputs_of h.edge) path ⊎ Contains h.edge.validations path) → names h.edge path ≡ true
    by (inl output) = one (inl (among (outputs_of h.edge) path output))
    by (inr (inl input)) = one (inr (inl (among (inputs_of h.edge) path input)))
    by (inr (inr validation)) = one (inr (inr (among h.edge.validations path validation)))

from-named : (edges : List EdgePaths) (path : List ℕ) → is_named edges path ≡ true → IsNamedBy edges path
from-named edges path h =
    let one = one-from_any (λ e. names e path) edges h in
    record {
      edge = one.0;
      there = one.1;
      named = by one.0 (one-of_three (is_among (outputs_of one.0) path) (is_among (inputs_of one.0) path)
          (is_among one.0.validations path) one.2);
    }
  where
    by : (e : EdgePaths) → (is_among (outputs_of e) path ≡ true)
        ⊎ ((is_among (inputs_of e) path ≡ true) ⊎ (is_among e.validations path ≡ true))
        → Contains (outputs_of e) path ⊎ (Contains (inputs_of e) path ⊎ Contains e.validations path)
    by e (inl output) = inl (from-among (outputs_of e) path output)
    by e (inr (inl input)) = inr (inl (from-among (inputs_of e) path input))
    by e (inr (inr validation)) = inr (inr (from-among e.validations path validation))

not-named : (edges : List EdgePaths) (path : List ℕ) → is_named edges path ≡ false → IsNamedBy edges path → ⊥
not-named edges path h named = true≢false (sym (is-named edges path named) ∙ h)

-- ---- the first edge that uses a file

module _ (test : EdgePaths → Bool) where
  -- the edge of the smallest number that passes
  record Smallest (edges : List EdgePaths) (number : ℕ) (edge : EdgePaths) : Type 0 where
    edge_is : slice_get edges number ≡ Some edge
    passes : test edge ≡ true
    least : (other : ℕ) (e : EdgePaths) → slice_get edges other ≡ Some e → test e ≡ true → number ≤ other

  abbrev NonePasses : List EdgePaths → Type 0
  NonePasses edges = (other : ℕ) (e : EdgePaths) → slice_get edges other ≡ Some e → test e ≡ true → ⊥

  -- the smallest number that passes, where the first edge has this number
  abbrev FirstIs : ℕ → List EdgePaths → Option ℕ → Type 0
  FirstIs n edges first =
      ((first ≡ None) × NonePasses edges) ⊎ ((k : ℕ) × (edge : EdgePaths) × (first ≡ Some (n + k))
      × Smallest edges k edge)

  abbrev FirstOf : List EdgePaths → Option ℕ → Type 0
  FirstOf edges first = ((first ≡ None) × NonePasses edges)
      ⊎ ((k : ℕ) × (edge : EdgePaths) × (first ≡ Some k) × Smallest edges k edge)

  none-more : (e : EdgePaths) (edges : List EdgePaths) → test e ≡ false → NonePasses edges
      → NonePasses (e ∷ edges)
  none-more e edges fails none zero other is passes =
      true≢false (sym passes ∙ ap test (sym (same_Some e other is)) ∙ fails)
  none-more e edges fails none (suc k) other is passes = none k other is passes

  least-more : (e : EdgePaths) (edges : List EdgePaths) (number : ℕ) (edge : EdgePaths) → test e ≡ false
      → Smallest edges number edge
      → (k : ℕ) (other : EdgePaths) → slice_get (e ∷ edges) k ≡ Some other → test other ≡ true
      → suc number ≤ k
  least-more e edges number edge fails s zero other is passes =
      absurd (true≢false (sym passes ∙ ap test (sym (same_Some e other is)) ∙ fails))
  least-more e edges number edge fails s (suc k) other is passes = let below = s.least k other is passes in
      omega (arith, below)

  first-passing : (n : ℕ) (edges : List EdgePaths) → FirstIs n edges (slice_get (edges_from n test edges) 0)
  first-passing n [] = inl (refl, λ other e is passes. none-some e is)
  first-passing n (e ∷ edges) = by (test e) refl (first-passing (n + 1) edges)
    where
      by : (b : Bool) → test e ≡ b → FirstIs (n + 1) edges (slice_get (edges_from (n + 1) test edges) 0)
          → FirstIs n (e ∷ edges) (slice_get (if b then n ∷ edges_from (n + 1) test edges else edges_from
          (n + 1) test edges) 0)
      by true is rest =
          let at : n ≡ n + 0 = omega arith in
          inr (
            0,
            e,
            ap (λ k. Some k) at,
            record
                { edge_is = refl; passes = is; least = λ other o there passes. omega arith },
          )
      by false is (inl (none, others)) = inl (none, none-more e edges is others)
      by false is (inr (k, edge, first, s)) =
          let at : n + 1 + k ≡ n + suc k = omega arith in
          inr (
            suc k,
            edge,
            first ∙ ap (λ m. Some m) at,
            record { edge_is = s.edge_is; passes = s.passes; least = least-more e edges k edge is s },
          )

  first-of : (edges : List EdgePaths) (first : Option ℕ) → FirstIs 0 edges first → FirstOf edges first
  first-of edges first (inl none) = inl none
  first-of edges first (inr (k, edge, is, s)) =
      let at : 0 + k ≡ k = omega arith in
      inr (k, edge, is ∙ ap (λ n. Some n) at, s)

abbrev first_of : List EdgePaths → (number : ℕ) → Option (List ℕ)
first_of edges number = first_output (edge_at edges number)

module _ (edges : List EdgePaths) (path : List ℕ) where
  abbrev uses : EdgePaths → Bool
  uses e = is_among (inputs_of e) path

  abbrev IsFirstUser : ℕ → EdgePaths → Type 0
  IsFirstUser number edge = Smallest uses edges number edge

  output-of : (number : ℕ) (edge : EdgePaths) → slice_get edges number ≡ Some edge
      → first_of edges number ≡ first_output edge
  output-of number edge is = ap first_output (get_or_from_slice_get edges number edge _ is)

  is-made : (number : ℕ) (edge : EdgePaths) (output : List ℕ) → IsFirstUser number edge
      → first_of edges number ≡ Some output → IsMadeOf edges path output
  is-made number edge output s is = record {
    number = number;
    edge = edge;
    edge_is = s.edge_is;
    uses = from-among (inputs_of edge) path s.passes;
    smallest = λ other e there contains. s.least other e there (among (inputs_of e) path contains);
    output_is = sym (output-of number edge s.edge_is) ∙ is;
  }

  -- only the first output of that edge is made of it
  same-made : (number : ℕ) (edge : EdgePaths) (output : List ℕ) → IsFirstUser number edge
      → IsMadeOf edges path output → first_of edges number ≡ Some output
  same-made number edge output s m =
      let above = s.least m.number m.edge m.edge_is (among (inputs_of m.edge) path m.uses) in
      let below = m.smallest number edge s.edge_is (from-among (inputs_of edge) path s.passes) in
      let same : number ≡ m.number = omega arith in
      ap (first_of edges) same ∙ output-of m.number m.edge m.edge_is ∙ m.output_is

  not-made : (first : Option ℕ) → FirstOf uses edges first → option_and_then (first_of edges) first ≡ None
      → (output : List ℕ) → IsMadeOf edges path output → ⊥
  not-made first (inl (is, none)) h output m =
      none m.number m.edge m.edge_is (among (inputs_of m.edge) path m.uses)
  not-made first (inr (number, edge, is, s)) h output m =
      none-some output (sym h ∙ ap (option_and_then (first_of edges)) is ∙ same-made number edge output s m)

  was-made : (first : Option ℕ) → FirstOf uses edges first → (output : List ℕ)
      → option_and_then (first_of edges) first ≡ Some output → IsMadeOf edges path output
  was-made first (inl (is, none)) output h =
      absurd (none-some output (sym (ap (option_and_then (first_of edges)) is) ∙ h))
  was-made first (inr (number, edge, is, s)) output h =
      is-made number edge output s (sym (ap (option_and_then (first_of edges)) is) ∙ h)

  users-first : FirstOf uses edges (slice_get (users_of edges path) 0)
  users-first = first-of uses edges _ (first-passing uses 0 edges)

-- ---- clean paths

module _ (edges : List EdgePaths) (path : List ℕ) where
  made-means : (file : List ℕ) → path ≡ file ++ codes "^" → Means edges path (made_target edges file)
  made-means file is = by (is_named edges file) refl
    where
      by_output : (o : Option (List ℕ)) → first_made_of edges file ≡ o → IsNamedBy edges file
          → Means edges path (ok_or o (unplaced (NoOutEdge file)))
      by_output (Some output) found named =
          made is (was-made edges file _ (users-first edges file) output found)
      by_output None found named = not_made is named (not-made edges file _ (users-first edges file) found)

      by : (b : Bool) → is_named edges file ≡ b
          → Means edges path (if b then ok_or (first_made_of edges file) (unplaced (NoOutEdge file)) else Err
          (unplaced (UnknownTarget file)))
      by true h = by_output (first_made_of edges file) refl (from-named edges file h)
      by false h = made_of_no_file is (not-named edges file h)

  plain-means : HasNoCaret path → Means edges path (target edges path)
  plain-means plain = by (is_named edges path) refl
    where
      by : (b : Bool) → is_named edges path ≡ b
          → Means edges path (if b then Ok path else Err (unplaced (UnknownTarget path)))
      by true h = a_file plain (from-named edges path h)
      by false h = no_file plain (not-named edges path h)

  without-caret : bytes_eq (drop (length path - 1) path) (codes "^") ≡ false → HasNoCaret path
  without-caret h file is = grind (arith, common_steps)

  clean-means : Means edges path (clean_target edges path)
  clean-means = by (bytes_eq (drop (length path - 1) path) (codes "^")) refl
    where
      by : (b : Bool) → bytes_eq (drop (length path - 1) path) (codes "^") ≡ b
          → Means edges path (if b then made_target edges (take (length path - 1) path) else target edges
          path)
      by true h =
          let last : drop (length path - 1) path ≡ codes "^" =
          (bytes_eq-Decides (drop (length path - 1) path) (codes "^")).0 h in
          made-means (take (length path - 1) path)
          (sym (take-append-drop (length path - 1) path)
          ∙ ap (λ end. take (length path - 1) path ++ end) last)
      by false h = plain-means (without-caret h)

pub words_mean_paths : WordsMeanPaths
words_mean_paths edges [] h = absurd (h refl)
words_mean_paths edges (byte ∷ word) h = clean-means edges (clean_path_of (byte ∷ word))

pub empty_word_means_nothing : EmptyWordMeansNothing
empty_word_means_nothing edges = refl
