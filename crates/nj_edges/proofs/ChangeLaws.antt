-- The edges that a change of files affects, by the needs of edges.
use Rattle.std.proofs.lemmas.Grind.{common_steps}
use Rattle.std.proofs.Common.{◌≡◌, ◌<◌, ◌+◌, ◌||◌, inl, inr, ℕ, zero, suc, Bool, true, false, cond, List, []}
use Rattle.std.proofs.Common.{◌∷◌, ◌++◌, length, get_or, Some, is_some, option_map}
use Rattle.std.proofs.Common.{bytes_eq, refl, sym, ap, subst, ◌∙◌, true≢false, arith}
use Rattle.std.specs.Prelude.{Contains}
use Rattle.std.specs.List.{AllByRecursion, IsDistinct, flat_map}
use Rattle.std.proofs.lemmas.Bool.{both_ways}
use Rattle.std.proofs.lemmas.Cmp.{nat_list_eq_equiv}
use Rattle.std.proofs.lemmas.List.{get_or-map, length-map}
use Rattle.std.proofs.lemmas.List.Folds.{Any-from_list_any, list_any_at, list_any-from_Any}
use Rattle.std.proofs.lemmas.Map.Views.{Contains-from_any, list_any-from_Contains}
use Rattle.std.proofs.lemmas.Slice.Eq.{bytes_eq-Decides}
use Rattle.nj_cycles.specs.Cycles.{Needs, NeedsByChain}
use Rattle.nj_cycles.specs.Cycles.Chain.{one, more}
use Rattle.nj_edges.specs.Edges.{EdgePaths, edge_at, first_edge, inputs_of, is_among, maker_of, outputs_of}
use Rattle.nj_edges.specs.Needs.{makers_of_inputs}
use Rattle.nj_edges.specs.Changes.{has_input_of, IsAffected, IsOrNeeds, AffectedEdgesNeedTheFiles}
use Rattle.nj_edges.specs.Changes.IsAffected.{by_file, by_edge}
use Rattle.nj_edges.proofs.RootLemmas.{among-flat}

-- ---- paths

same-path : (x y : List ℕ) → bytes_eq x y ≡ true → x ≡ y
same-path x y is = (bytes_eq-Decides x y).0 is

among-contains : (path : List ℕ) (paths : List (List ℕ)) → is_among paths path ≡ true → Contains paths path
among-contains path paths is = Contains-from_any same-path path paths is

contains-among : (path : List ℕ) (paths : List (List ℕ)) → Contains paths path → is_among paths path ≡ true
contains-among path paths has = list_any-from_Contains nat_list_eq_equiv path paths has

-- edge `e` has one of the given paths as an input
input-of : (path : List ℕ) (paths : List (List ℕ)) (e : EdgePaths) → is_among paths path ≡ true
    → is_among (inputs_of e) path ≡ true → has_input_of paths e ≡ true
input-of path paths e is input = grind (arith, among-contains, list_any-from_Any)

-- ---- makers

-- the edge without files that is past the last edge
abbrev no-edge : EdgePaths
no-edge = edge_at [] 0

-- an output of some edge is an output of an edge of the graph
made-below : (edges : List EdgePaths) (f : ℕ) (path : List ℕ)
    → is_among (outputs_of (edge_at edges f)) path ≡ true → f < length edges
made-below edges f path is = grind (arith, common_steps)

first-passes : {E : Type 0} (test : E → Bool) (d : E) (es : List E) (f : ℕ) → first_edge test es ≡ Some f
    → test (get_or es f d) ≡ true
first-passes test d [] f first = absurd (true≢false (sym (ap is_some first)))
first-passes test d (e ∷ es) f first = grind (arith, common_steps, (first-passes test d es))

maker-makes : (edges : List EdgePaths) (path : List ℕ) (f : ℕ) → maker_of edges path ≡ Some f
    → is_among (outputs_of (edge_at edges f)) path ≡ true
maker-makes edges path f made = first-passes (λ e. is_among (outputs_of e) path) no-edge edges f made

none-among : (path : List ℕ) (paths : List (List ℕ))
    → AllByRecursion (λ other. bytes_eq path other ≡ false) paths → is_among paths path ≡ false
none-among path [] apart = refl
none-among path (other ∷ paths) apart =
    ap (λ b. b || is_among paths path) apart.0 ∙ none-among path paths apart.1

all-right : {X : Type 0} (P : X → Type 0) (xs ys : List X) → AllByRecursion P (xs ++ ys) → AllByRecursion P ys
all-right P [] ys all = all
all-right P (x ∷ xs) ys all = all-right P xs ys all.1

distinct-right : (paths others : List (List ℕ)) → IsDistinct bytes_eq (paths ++ others)
    → IsDistinct bytes_eq others
unfolding IsDistinct
distinct-right [] others apart = apart
distinct-right (path ∷ paths) others apart = distinct-right paths others apart.1

-- an element of the second of two lists that are apart is not in the first
apart-left : (paths others : List (List ℕ)) (path : List ℕ) → IsDistinct bytes_eq (paths ++ others)
    → is_among others path ≡ true → is_among paths path ≡ false
unfolding IsDistinct
apart-left [] others path apart is = refl
apart-left (p ∷ paths) others path apart is =
    by (bytes_eq path p) refl (apart-left paths others path apart.1 is)
  where
    by : (b : Bool) → bytes_eq path p ≡ b → is_among paths path ≡ false → (b || is_among paths path) ≡ false
    by true same rest =
        let none = none-among p others (all-right (λ other. bytes_eq p other ≡ false) paths others apart.0) in
        absurd (both_ways (is_among others p) none
        (subst (λ q. is_among others q ≡ true) (same-path path p same) is))
    by false other rest = rest

-- if no file has two makers, an edge is the maker of its outputs
output-maker : (edges : List EdgePaths) → IsDistinct bytes_eq (flat_map outputs_of edges)
    → (path : List ℕ) (f : ℕ) → is_among (outputs_of (edge_at edges f)) path ≡ true
    → maker_of edges path ≡ Some f
output-maker [] apart path f is = absurd (omega (arith, made-below [] f path is))
output-maker (e ∷ edges) apart path zero is =
    ap (λ b. cond b (Some 0) (option_map (λ n. n + 1) (maker_of edges path))) is
output-maker (e ∷ edges) apart path (suc f) is =
    let below : f < length edges = made-below edges f path is in
    let among : is_among (flat_map outputs_of edges) path ≡ true =
    among-flat outputs_of path edges ∙ list_any_at (λ x. is_among (outputs_of x) path) edges f no-edge
    below is in
    let other : is_among (outputs_of e) path ≡ false =
    apart-left (outputs_of e) (flat_map outputs_of edges) path apart among in
    let after : f + 1 ≡ suc f = omega arith in
    ap (λ b. cond b (Some 0) (option_map (λ n. n + 1) (maker_of edges path))) other
    ∙ ap (option_map (λ n. n + 1)) (output-maker edges
    (distinct-right (outputs_of e) (flat_map outputs_of edges) apart) path f is)
    ∙ ap Some after

-- ---- the needs of edges

module _ (edges : List EdgePaths) where
  abbrev edge : ℕ → EdgePaths
  edge e = edge_at edges e

  -- the maker of an input is needed
  needs-maker : (e f : ℕ) (path : List ℕ) → is_among (inputs_of (edge e)) path ≡ true
      → maker_of edges path ≡ Some f → Needs (makers_of_inputs edges) e f
  needs-maker e f path input made = grind (arith, among-contains, get_or-map, length-map)

  -- where an output of `f` is an input of `e`, that is needed
  takes-needs : IsDistinct bytes_eq (flat_map outputs_of edges) → (e f : ℕ)
      → has_input_of (outputs_of (edge f)) (edge e) ≡ true → Needs (makers_of_inputs edges) e f
  takes-needs apart e f takes =
      let any = Any-from_list_any (is_among (inputs_of (edge e))) (outputs_of (edge f)) takes in
      let output = contains-among any.1 (outputs_of (edge f)) (any.0, any.2, any.3) in
      needs-maker e f any.1 any.4 (output-maker edges apart any.1 f output)

  -- and a needed edge makes an input
  needs-takes : (e f : ℕ) → Needs (makers_of_inputs edges) e f
      → has_input_of (outputs_of (edge f)) (edge e) ≡ true
  needs-takes e f needs =
      let inputs = inputs_of (edge e) in
      let below : needs.0 < length inputs = omega (arith, needs.1, length-map inputs (maker_of edges)) in
      let path = get_or inputs needs.0 [] in
      let made : maker_of edges path ≡ Some f =
      sym (get_or-map (maker_of edges) inputs needs.0 [] (Some f) below) ∙ needs.2 in
      let input : is_among inputs path ≡ true =
      list_any_at (bytes_eq path) inputs needs.0 [] below (nat_list_eq_equiv.refl path) in
      input-of path (outputs_of (edge f)) (edge e) (maker-makes edges path f made) input

  module _ (files : List (List ℕ)) where
    abbrev HasFile : ℕ → Type 0
    HasFile f = has_input_of files (edge f) ≡ true

    abbrev NeedsFile : ℕ → Type 0
    NeedsFile e = (f : ℕ) × IsOrNeeds edges e f × HasFile f

    affected-needs : IsDistinct bytes_eq (flat_map outputs_of edges) → (e : ℕ) → IsAffected edges files e
        → NeedsFile e
    affected-needs apart _ (by_file {e = e} has) = (e, inl refl, has)
    affected-needs apart _ (by_edge {e = e} {f = f} takes affected) =
        let step = takes-needs apart e f takes in
        by step (affected-needs apart f affected)
      where
        by : Needs (makers_of_inputs edges) e f → NeedsFile f → NeedsFile e
        by step (g, inl same, has) = (
          g,
          inr
              (subst (λ x. NeedsByChain (makers_of_inputs edges) e x) same (one step)),
          has,
        )
        by step (g, inr chain, has) = (g, inr (more step chain), has)

    chain-affected : (e f : ℕ) → NeedsByChain (makers_of_inputs edges) e f → IsAffected edges files f
        → IsAffected edges files e
    chain-affected e f (one step) affected = by_edge (needs-takes e f step) affected
    chain-affected e f (more {g = g} step chain) affected =
        by_edge (needs-takes e g step) (chain-affected g f chain affected)

    needs-affected : (e : ℕ) → NeedsFile e → IsAffected edges files e
    needs-affected e (f, inl same, has) = subst (IsAffected edges files) (sym same) (by_file has)
    needs-affected e (f, inr chain, has) = chain-affected e f chain (by_file has)

pub affected_edges_need_the_files : AffectedEdgesNeedTheFiles
affected_edges_need_the_files edges files apart e =
    (affected-needs edges files apart e, needs-affected edges files e)
