-- The edges that discoveries are doubtful or faulty for, and the first fault that a question needs.
use Rattle.std.proofs.Common.{◌≡◌, ◌<◌, ◌≤◌, ◌+◌, ℕ, Bool, true, false, cond, Some, List, [], ◌∷◌}
use Rattle.std.proofs.Common.{◌++◌}
use Rattle.std.proofs.Common.{◌==◌, inl, inr, length, map, take, get_or, refl, sym, ap, subst, ◌∙◌, arith}
use Rattle.std.proofs.Common.{true≢false}
use Rattle.std.proofs.lemmas.Bool.Decides.{eqb_tells}
use Rattle.std.specs.Prelude.{All, Contains, find, slice_index_or, vec_len}
use Rattle.std.specs.Global.{Vec}
use Rattle.std.proofs.lemmas.Bool.{both_ways, cases_lt}
use Rattle.std.proofs.lemmas.List.{get_or-map, get_or_past, length-map}
use Rattle.std.proofs.lemmas.List.Elements.{All-contains, All-map}
use Rattle.nj_graph.specs.declared.EdgeNo.{EdgeNo}
use Rattle.nj_graph.specs.declared.Verdict.{Verdict}
use Rattle.nj_graph.specs.declared.Verdict.TheVariants.{Known}
use Rattle.nj_graph.specs.Edges.{edges_from}
use Rattle.nj_discovered.specs.Discoveries.{DiscoveriesModel, FoundModel, found_at}
use Rattle.nj_edges.proofs.Passing.{from-more, from-passes}
use Rattle.nj_ask.specs.Manifest.{is_one_of}
use Rattle.nj_ask.specs.Inside.Flags.{AreFlags}
use Rattle.nj_ask.proofs.FlagLemmas.{one-there}

module _ (test : Verdict → Bool) (found : DiscoveriesModel) where
  abbrev passes : FoundModel → Bool
  passes edge = test edge.verdict

  abbrev none-found : FoundModel
  none-found = record { verdict = Known; inputs = [] }

  -- the numbers of the edges whose verdicts pass a test, with one more edge
  pub verdicts-more : (n : ℕ) (old new : List ℕ) (verdict : Verdict) → verdict ≡ (found_at found n).verdict
      → new ≡ old ++ cond (test verdict) (n ∷ []) [] → n < length found.edges
      → old ≡ edges_from 0 passes (take n found.edges) → new ≡ edges_from 0 passes (take (n + 1) found.edges)
  verdicts-more n old new verdict is more below held =
      more ∙ ap (λ ns. ns ++ cond (test verdict) (n ∷ []) []) held
      ∙ sym (from-more passes found.edges n none-found (test verdict) below (ap test (sym is)))

  -- they are numbers of edges
  pub verdicts-below : test Known ≡ false → (edges : List EdgeNo)
      → map (λ (edge : EdgeNo). edge.0) edges ≡ edges_from 0 passes found.edges
      → All (λ (edge : EdgeNo). edge.0 < length found.edges) edges
  verdicts-below none edges are i d below =
      let number = (get_or edges i d).0 in
      let has : Contains (map (λ (edge : EdgeNo). edge.0) edges) number = (
        i,
        omega (arith, below, length-map edges (λ (edge : EdgeNo). edge.0)),
        get_or-map (λ (edge : EdgeNo). edge.0) edges i d number below,
      ) in
      let found-there = from-passes passes none-found none found.edges 0 number
      (subst (λ ns. Contains ns number) are has) in
      elim (cases_lt found-there.0 (length found.edges)) [
        | inl within ↦ omega (arith, within, found-there.1)
        | inr past ↦ absurd (both_ways (passes (get_or found.edges found-there.0 none-found))
            (ap passes (get_or_past found.edges found-there.0 none-found past) ∙ none) found-there.2)
      ]

-- a test in place of another that says the same
pub find-same : {X : Type 0} (p q : X → Bool) (xs : List X) → ((x : X) → p x ≡ q x) → find p xs ≡ find q xs
find-same p q [] same = refl
find-same p q (x ∷ xs) same =
    ap (λ b. cond b (Some x) (find p xs)) (same x) ∙ ap (cond (q x) (Some x)) (find-same p q xs same)

-- flags of edges show of every number whether it is among them
module _ (count : ℕ) (edges : List EdgeNo) (flags : List Bool)
    (below : All (λ (e : EdgeNo). e.0 < count) edges)
    (are : AreFlags count (map (λ (e : EdgeNo). e.0) edges) flags) where
  abbrev numbers : List ℕ
  numbers = map (λ (e : EdgeNo). e.0) edges

  not-past : (n : ℕ) → count ≤ n → (b : Bool) → is_one_of numbers n ≡ b → b ≡ false
  not-past n past true is =
      let lower : n < count = All-contains (λ m. m < count) numbers n
      (All-map (λ m. m < count) (λ (e : EdgeNo). e.0) edges below) (one-there numbers n is) in
      absurd (omega (arith, past, lower))
  not-past n past false is = refl

  pub tell-all : (n : ℕ) → slice_index_or flags n false ≡ is_one_of numbers n
  tell-all n = elim (cases_lt n count) [
    | inl lower ↦ are.are n lower
    | inr past ↦
        let counted = are.count_is in
        get_or_past flags n false (omega (arith, past, counted))
        ∙ sym (not-past n past (is_one_of numbers n) refl)
  ]

-- a list of length zero has no items
nothing : {X : Type 0} (xs : List X) → length xs ≡ 0 → xs ≡ []
nothing [] is = refl
nothing (x ∷ xs) is = absurd (omega (arith, is))

pub no-items : {X : Type 0} (v : Vec X) → (vec_len v == 0) ≡ true → v.items ≡ []
no-items v is =
    let counted = v.ok.0 in
    elim (eqb_tells (vec_len v) 0) [
      | inl same ↦ let none = same.1 in nothing v.items (omega (arith, none, counted))
      | inr other ↦ absurd (true≢false (sym is ∙ other.0))
    ]
