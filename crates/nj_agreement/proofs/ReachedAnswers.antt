-- Two lists of edges with the same members.
use Rattle.std.proofs.Common.{◌≡◌, ◌⊎◌, inl, inr, ℕ, zero, suc, ◌<◌, List, [], ◌∷◌, length, refl, sym, ap}
use Rattle.std.proofs.Common.{subst, ◌∙◌, arith}
use Rattle.std.proofs.Common.{Result, Ok, Err, IfOk}
use Rattle.std.specs.Prelude.{Contains, ◌↔◌, slice_index_or, nat_eq}
use Rattle.std.specs.List.{AllPairs, IsDistinct}
use Rattle.std.specs.List.Sorted.{IsStrictlyIncreasing}
use Rattle.std.proofs.lemmas.List.Kept.{AllPairs-from_increasing}
use Rattle.nj_edges.specs.Distances.{AreNearestFirst, IsNeeded}
use Rattle.nj_edges.specs.Edges.{EdgePaths}
use Rattle.nj_graph.specs.Changes.{IsAffected}
use Rattle.nj_graph.specs.Graph.{GraphModel, edges_of}
use Rattle.nj_graph.specs.Handles.{GraphEdge, ListsAffected, ListsNeeded, edges_in}
use Rattle.nj_agreement.specs.Agreement.{AgreeIfOk}
use Rattle.nj_agreement.specs.Graphs.{SameButTies, SameNearestFirst}

abbrev Among : List ℕ → ℕ → Type 0
Among [] n = ⊥
Among (x ∷ xs) n = (x ≡ n) ⊎ Among xs n

among : (xs : List ℕ) (n k : ℕ) → k < length xs → slice_index_or xs k n ≡ n → Among xs n
among [] n k below is = absurd (omega (arith, below))
among (x ∷ xs) n zero below is = inl is
among (x ∷ xs) n (suc k) below is = inr (among xs n k (omega (arith, below)) is)

contains : (xs : List ℕ) (n : ℕ) → Among xs n → Contains xs n
contains [] n there = elim there [ ]
contains (x ∷ xs) n (inl is) = (0, omega arith, is)
contains (x ∷ xs) n (inr later) =
    let rest = contains xs n later in (suc rest.0, omega (arith, rest.1), rest.2)

abbrev Rises : List ℕ → Type 0
Rises xs = AllPairs (λ x y. x < y) xs

rest-rises : (x : ℕ) (xs : List ℕ) → Rises (x ∷ xs) → Rises xs
rest-rises x xs rises = λ i j d low high. rises (suc i) (suc j) d (omega (arith, low)) (omega (arith, high))

above : (x : ℕ) (xs : List ℕ) → Rises (x ∷ xs) → (n : ℕ) → Among xs n → x < n
above x xs rises n later =
    let at = contains xs n later in
    subst (λ m. x < m) at.2 (rises 0 (suc at.0) n (omega arith) (omega (arith, at.1)))

-- lists of rising numbers with the same members
same-members : (xs ys : List ℕ) → Rises xs → Rises ys → ((n : ℕ) → Among xs n → Among ys n)
    → ((n : ℕ) → Among ys n → Among xs n) → xs ≡ ys
same-members [] [] up up2 to from = refl
same-members [] (y ∷ ys) up up2 to from = absurd (from y (inl refl))
same-members (x ∷ xs) [] up up2 to from = absurd (to x (inl refl))
same-members (x ∷ xs) (y ∷ ys) up up2 to from =
    let first : x ≡ y = by (to x (inl refl)) (from y (inl refl)) in
    ap (λ n. n ∷ xs) first ∙ ap (λ ns. y ∷ ns) (same-members xs ys (rest-rises x xs up) (rest-rises y ys up2)
    (λ n later. kept n (above x xs up n later) first (to n (inr later)))
    (λ n later. kept-back n (above y ys up2 n later) first (from n (inr later))))
  where
    by : Among (y ∷ ys) x → Among (x ∷ xs) y → x ≡ y
    by (inl is) _ = sym is
    by (inr later) (inl is) = is
    by (inr later) (inr later2) =
        let a = above y ys up2 x later in
        let b = above x xs up y later2 in absurd (omega (arith, a, b))

    kept : (n : ℕ) → x < n → x ≡ y → Among (y ∷ ys) n → Among ys n
    kept n low first (inl is) = absurd (omega (arith, low, first, is))
    kept n low first (inr later) = later

    kept-back : (n : ℕ) → y < n → x ≡ y → Among (x ∷ xs) n → Among xs n
    kept-back n low first (inl is) = absurd (omega (arith, low, first, is))
    kept-back n low first (inr later) = later

-- rising numbers of one kind
pub rising-agree : (P : ℕ → Type 0) (one other : List ℕ) → ((n : ℕ) → Contains one n ↔ P n)
    → IsStrictlyIncreasing one → ((n : ℕ) → Contains other n ↔ P n) → IsStrictlyIncreasing other → one ≡ other
rising-agree P one other are up are2 up2 =
    same-members one other (AllPairs-from_increasing one up) (AllPairs-from_increasing other up2)
    (λ n there. let c = (are2 n).1 ((are n).0 (contains one n there)) in among other n c.0 c.1 c.2)
    (λ n there. let c = (are n).1 ((are2 n).0 (contains other n there)) in among one n c.0 c.1 c.2)

pub affected-agree : {E : Type 0} (graph : GraphModel) (files : List (List ℕ))
    (one other : Result (List GraphEdge) E)
    → IfOk one (ListsAffected graph files) → IfOk other (ListsAffected graph files)
    → AgreeIfOk (λ a b. a ≡ b) one other
affected-agree graph files (Ok a) (Ok b) is also =
    is.found_are ∙ ap (edges_in graph) (rising-agree (IsAffected (edges_of graph) files) is.numbers
    also.numbers
    is.affected is.rises also.affected also.rises) ∙ sym also.found_are
affected-agree graph files (Ok a) (Err f) is also = tt
affected-agree graph files (Err e) (Ok b) is also = tt
affected-agree graph files (Err e) (Err f) is also = tt

-- numbers of edges that are needed, nearest first
pub nearest-numbers : (edges : List EdgePaths) (files : List (List ℕ)) (one other : List ℕ)
    → ((edge : ℕ) → Contains one edge ↔ IsNeeded edges files edge)
    → ((edge : ℕ) → Contains other edge ↔ IsNeeded edges files edge)
    → IsDistinct nat_eq one → IsDistinct nat_eq other
    → AreNearestFirst edges files one → AreNearestFirst edges files other
    → SameNearestFirst edges files one other
nearest-numbers edges files one other needed needed2 once once2 nearest nearest2 = record {
  same = λ edge. (
    (λ there. (needed2 edge).1 ((needed edge).0 there)),
    (λ there. (needed edge).1 ((needed2 edge).0 there)),
  );
  once = (once, once2);
  nearest_first = (nearest, nearest2);
}

-- the edges
pub nearest-agree : (graph : GraphModel) (files : List (List ℕ)) (one other : List GraphEdge)
    → ListsNeeded graph files one → ListsNeeded graph files other → SameButTies graph files one other
nearest-agree graph files one other is also = record {
  numbers = is.numbers;
  others = also.numbers;
  one_is = is.found_are;
  other_is = also.found_are;
  same = nearest-numbers (edges_of graph) files is.numbers also.numbers is.needed also.needed is.each_once
      also.each_once is.nearest_first also.nearest_first;
}

pub needed-agree : {E : Type 0} (graph : GraphModel) (files : List (List ℕ))
    (one other : Result (List GraphEdge) E)
    → IfOk one (ListsNeeded graph files) → IfOk other (ListsNeeded graph files)
    → AgreeIfOk (SameButTies graph files) one other
needed-agree graph files (Ok a) (Ok b) is also = nearest-agree graph files a b is also
needed-agree graph files (Ok a) (Err f) is also = tt
needed-agree graph files (Err e) (Ok b) is also = tt
needed-agree graph files (Err e) (Err f) is also = tt
