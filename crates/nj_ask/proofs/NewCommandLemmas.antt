-- The edges with new commands among those that a change touches.
use Rattle.std.proofs.Common.{◌≡◌, ◌<◌, ◌+◌, ◌||◌, ◌⊎◌, inl, inr, ℕ, Bool, true, false, cond, List, [], ◌∷◌}
use Rattle.std.proofs.Common.{◌++◌}
use Rattle.std.proofs.Common.{length, get_or, refl, sym, ap, subst, ◌∙◌, append-nil, arith}
use Rattle.std.specs.Prelude.{Contains, slice_index_or}
use Rattle.std.specs.List.{filter, list_any, range_with_len}
use Rattle.std.specs.List.Sorted.{IsStrictlyIncreasing}
use Rattle.std.proofs.lemmas.List.{get_or-map, length-map, map-append, map_push}
use Rattle.std.proofs.lemmas.List.Elements.{All-append, All-contains, All-map, All-nil, Contains-append_cases}
use Rattle.std.proofs.lemmas.List.Elements.{Contains-append_left, Contains-append_right, filter-append}
use Rattle.std.proofs.lemmas.List.FromFn.{get_or-range_with_len, length-range_with_len}
use Rattle.std.proofs.lemmas.List.Kept.{IsStrictlyIncreasing-filter}
use Rattle.nj_graph.specs.Changes.{IsAffected}
use Rattle.nj_graph.specs.Changes.IsAffected.{by_file, by_edge}
use Rattle.nj_graph.specs.declared.EdgeNo.{EdgeNo}
use Rattle.nj_graph.specs.Edges.{EdgePaths, edge_at, inputs_of, is_among}
use Rattle.nj_graph.specs.declared.FileNo.{FileNo}
use Rattle.nj_graph.specs.Graph.{GraphModel, edges_of, files_of}
use Rattle.std.proofs.lemmas.List.Folds.{list_any-append}
use Rattle.nj_ask.specs.declared.discovered.DiscoveredGraph.{DiscoveredGraph}
use Rattle.nj_ask.specs.Inside.Flags.{flagged_numbers, AreFlags}
use Rattle.nj_ask.specs.Inside.Reached.{edge_numbers, numbers_of, AreEdgesOf, AreFilesOf, AreTouched}
use Rattle.nj_ask.proofs.FlagLemmas.{is-there, one-there, passes-there, there-passes}
use Rattle.nj_ask.proofs.LineLemmas.{numbers-more}
use Rattle.nj_ask.proofs.MeantLemmas.{below-there, there-below}

-- ---- flagged edges

module _ (p : ℕ → Bool) (n : ℕ) (found : List EdgeNo)
    (held : edge_numbers found ≡ filter p (range_with_len 0 n)) where
  passing : (b : Bool) → p n ≡ b
      → filter p (range_with_len 0 (n + 1)) ≡ filter p (range_with_len 0 n) ++ cond b (n ∷ []) []
  passing b is = ap (filter p) (numbers-more n) ∙ filter-append p (range_with_len 0 n) (n ∷ [])
      ∙ ap (λ b. filter p (range_with_len 0 n) ++ cond b (n ∷ []) []) is

  -- one more number, with a flag or without
  pub edge-flagged : (new : List EdgeNo) (edge : EdgeNo) → edge.0 ≡ n → p n ≡ true → new ≡ found ++ edge ∷ []
      → edge_numbers new ≡ filter p (range_with_len 0 (n + 1))
  edge-flagged new edge same is more =
      ap edge_numbers more ∙ map_push (λ (e : EdgeNo). e.0) found edge ∙ ap (λ ns. ns ++ edge.0 ∷ []) held
      ∙ ap (λ m. filter p (range_with_len 0 n) ++ m ∷ []) same ∙ sym (passing true is)

  pub edge-unflagged : p n ≡ false → edge_numbers found ≡ filter p (range_with_len 0 (n + 1))
  edge-unflagged is = held ∙ sym (passing false is ∙ append-nil (filter p (range_with_len 0 n)))

range-rises : (count : ℕ) → IsStrictlyIncreasing (range_with_len 0 count)
range-rises count k within =
    let long = length-range_with_len 0 count in
    let here = get_or-range_with_len 0 count k 0 (omega (arith, within, long)) in
    let next = get_or-range_with_len 0 count (k + 1) 0 (omega (arith, within, long)) in
    omega (arith, here, next)

-- the flagged edges are those given, and those with new commands
pub either-touched : (known : DiscoveredGraph) (Has : (edge : ℕ) → Type 0) (edges commands : List EdgeNo)
    (flags : List Bool)
    → AreFlags (length (edges_of known.graph)) (edge_numbers (edges ++ commands)) flags
    → AreTouched known Has edges → AreEdgesOf known.graph commands
    → (all : List EdgeNo) → edge_numbers all ≡ flagged_numbers flags
    → AreTouched known (λ edge. Contains (edge_numbers commands) edge ⊎ Has edge) all
either-touched known Has edges commands flags held are given all listed = record {
  touched = λ e. (ahead e, back e);
  rises = subst IsStrictlyIncreasing (sym listed)
      (IsStrictlyIncreasing-filter flag (range_with_len 0 (length flags)) (range-rises (length flags)));
  below = λ i d within.
      let long = length-map all (λ (e : EdgeNo). e.0) in
      (flagged (get_or all i d).0
      (i, omega (arith, within, long), get_or-map (λ (e : EdgeNo). e.0) all i d (get_or all i d).0 within)).0;
}
  where
    count : ℕ
    count = length (edges_of known.graph)

    flag : ℕ → Bool
    flag n = slice_index_or flags n false

    both : edge_numbers (edges ++ commands) ≡ edge_numbers edges ++ edge_numbers commands
    both = map-append (λ (e : EdgeNo). e.0) edges commands

    flagged : (e : ℕ) → Contains (edge_numbers all) e → (e < count) × (flag e ≡ true)
    flagged e has =
        let two = there-passes flag (range_with_len 0 (length flags)) e
        (subst (λ ns. Contains ns e) listed has) in
        (subst (λ n. e < n) held.count_is (there-below (length flags) e two.0), two.1)

    ahead : (e : ℕ) → Contains (edge_numbers all) e → (Contains (edge_numbers commands) e ⊎ Has e)
    ahead e has = by (Contains-append_cases (edge_numbers edges) (edge_numbers commands) e
        (subst (λ ns. Contains ns e) both (one-there (edge_numbers (edges ++ commands)) e
        (sym (held.are e (flagged e has).0) ∙ (flagged e has).1))))
      where
        by : Contains (edge_numbers edges) e ⊎ Contains (edge_numbers commands) e
            → (Contains (edge_numbers commands) e ⊎ Has e)
        by (inl it) = inr ((are.touched e).0 it)
        by (inr it) = inl it

    back : (e : ℕ) → (Contains (edge_numbers commands) e ⊎ Has e) → Contains (edge_numbers all) e
    back e either = subst (λ ns. Contains ns e) (sym listed)
        (passes-there flag (range_with_len 0 (length flags)) e
        (below-there (length flags) e (subst (λ n. e < n) (sym held.count_is) below))
        (held.are e below ∙ is-there (edge_numbers (edges ++ commands)) e
        (subst (λ ns. Contains ns e) (sym both) (among either))))
      where
        among : (Contains (edge_numbers commands) e ⊎ Has e)
            → Contains (edge_numbers edges ++ edge_numbers commands) e
        among (inl it) = Contains-append_right (edge_numbers edges) (edge_numbers commands) e it
        among (inr it) =
            Contains-append_left (edge_numbers edges) (edge_numbers commands) e ((are.touched e).1 it)

        below : e < count
        below = All-contains (λ n. n < count) (edge_numbers edges ++ edge_numbers commands) e
            (All-append (λ n. n < count) (edge_numbers edges) (edge_numbers commands)
            (All-map (λ n. n < count) (λ (e : EdgeNo). e.0) edges are.below)
            (All-map (λ n. n < count) (λ (e : EdgeNo). e.0) commands given)) (among either)

-- ---- more files

-- edges that files affect are affected by more files
pub affected-by-more : (edges : List EdgePaths) (files more : List (List ℕ)) (e : ℕ)
    → IsAffected edges files e → IsAffected edges (files ++ more) e
affected-by-more edges files more _ (by_file {e = e} input) =
    let inputs = is_among (inputs_of (edge_at edges e)) in
    by_file {e = e} (list_any-append inputs files more ∙ ap (λ b. b || list_any inputs more) input)
affected-by-more edges files more _ (by_edge {e = e} {f = f} takes affected) =
    by_edge {e = e} {f = f} takes (affected-by-more edges files more f affected)

-- no files, or all of them
pub numbers-unless : (is : Bool) (files : List FileNo)
    → numbers_of (cond is [] files) ≡ cond is [] (numbers_of files)
numbers-unless true files = refl
numbers-unless false files = refl

pub files-unless : (g : GraphModel) (is : Bool) (files : List FileNo) → AreFilesOf g files
    → AreFilesOf g (cond is [] files)
files-unless g true files all = All-nil (λ file. file.0 < length (files_of g))
files-unless g false files all = all
