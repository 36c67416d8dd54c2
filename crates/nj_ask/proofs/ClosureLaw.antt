-- The edges that a report lists are those with a reason.
use Rattle.std.proofs.Common.{◌≡◌, ◌<◌, ◌||◌, ◌⊎◌, ◌∷◌, ◌++◌, inl, inr, ℕ, zero, suc, Bool, true, false, List}
use Rattle.std.proofs.Common.{[]}
use Rattle.std.proofs.Common.{length, map, get_or, refl, ap, ◌∙◌, arith}
use Rattle.std.specs.Prelude.{◌↔◌, Contains}
use Rattle.std.specs.List.{flat_map, list_any}
use Rattle.std.proofs.lemmas.List.Folds.{list_any-append}
use Rattle.nj_graph.specs.Changes.{IsAffected as affected}
use Rattle.nj_graph.specs.Dirty.{IsDirty as dirty}
use Rattle.nj_graph.specs.Edges.{EdgePaths, edge_at, inputs_of, is_among, outputs_of}
use Rattle.nj_edges.specs.Edges.{counted_inputs_of}
use Rattle.nj_reached.specs.GraphChanges.{outputs_at}
use Rattle.nj_graph.specs.Graph.{edges_of}
use Rattle.nj_ask.specs.DiscoveredGraphs.{TouchedBy}
use Rattle.nj_ask.specs.Laws.{HasReason, ListedHaveReasons}
use Rattle.nj_ask.specs.Reports.{changed_paths}

-- a file of some files is one of these and more
module _ {X : Type 0} (p : X → Bool) where
  any-first : (xs ys : List X) → list_any p xs ≡ true → list_any p (xs ++ ys) ≡ true
  any-first xs ys is = list_any-append p xs ys ∙ ap (λ b. b || list_any p ys) is

  any-last : (xs ys : List X) → list_any p ys ≡ true → list_any p (xs ++ ys) ≡ true
  any-last xs ys is = list_any-append p xs ys ∙ ap (λ b. list_any p xs || b) is ∙ or-true (list_any p xs)
    where
      or-true : (b : Bool) → (b || true) ≡ true
      or-true true = refl
      or-true false = refl

  any-flat : (f : ℕ → List X) (ns : List ℕ) (n k : ℕ) → k < length ns → get_or ns k n ≡ n
      → list_any p (f n) ≡ true → list_any p (flat_map f ns) ≡ true
  any-flat f [] n k below same is = absurd (omega arith)
  any-flat f (m ∷ ns) n zero below same is =
      any-first (f m) (flat_map f ns) (ap (λ o. list_any p (f o)) same ∙ is)
  any-flat f (m ∷ ns) n (suc k) below same is =
      any-last (f m) (flat_map f ns) (any-flat f ns n k (omega arith) same is)

module _ (edges : List EdgePaths) (commands : List ℕ) (more : List (List ℕ)) (unknown listed : List ℕ) where
  abbrev new : List (List ℕ)
  new = more ++ outputs_at edges commands

  abbrev Are : Bool → Type 0
  Are joined = (e : ℕ) → Contains listed e
      ↔ (Contains commands e ⊎ TouchedBy joined edges new unknown e)

  -- what tests some output of a new command tests some new file
  of-new : (p : List ℕ → Bool) (f : ℕ) → Contains commands f
      → list_any p (outputs_of (edge_at edges f)) ≡ true → list_any p new ≡ true
  of-new p f has is =
      any-last p more (outputs_at edges commands)
      (any-flat p (λ edge. outputs_of (edge_at edges edge)) commands f has.0 has.1 has.2 is)

  reasons : (joined : Bool) → Are joined → (e : ℕ) → TouchedBy joined edges new unknown e
      → HasReason joined edges new unknown listed e
  reasons false are e (affected.by_file has) = inl has
  reasons false are e (affected.by_edge {f = f} has other) = inr (f, (are f).1 (inr other), has)
  reasons true are e (dirty.by_itself has) = inl has
  reasons true are e (dirty.by_output has) = inr (inl has)
  reasons true are e (dirty.by_input has) = inr (inr (inl has))
  reasons true are e (dirty.by_edge {f = f} has other) = inr (inr (inr (f, (are f).1 (inr other), has)))

  touched : (joined : Bool) → Are joined → (e : ℕ) → HasReason joined edges new unknown listed e
      → TouchedBy joined edges new unknown e
  touched false are e (inl has) = affected.by_file has
  touched false are e (inr (f, other, has)) = by ((are f).0 other)
    where
      by : Contains commands f ⊎ TouchedBy false edges new unknown f → TouchedBy false edges new unknown e
      by (inl is) = affected.by_file (of-new (is_among (inputs_of (edge_at edges e))) f is has)
      by (inr is) = affected.by_edge has is
  touched true are e (inl has) = dirty.by_itself has
  touched true are e (inr (inl has)) = dirty.by_output has
  touched true are e (inr (inr (inl has))) = dirty.by_input has
  touched true are e (inr (inr (inr (f, other, has)))) = by ((are f).0 other)
    where
      by : Contains commands f ⊎ TouchedBy true edges new unknown f → TouchedBy true edges new unknown e
      by (inl is) = dirty.by_input (of-new (is_among (counted_inputs_of (edge_at edges e))) f is has)
      by (inr is) = dirty.by_edge has is

pub have-reasons : ListedHaveReasons
have-reasons known entries q asked outputs warnings report e =
    let edges = edges_of known.graph in
    let changed = changed_paths known.graph q in
    let unknown = map (λ edge. edge.0) known.unknown.items in
    let listed = report.lists.edges in
    let are = report.lists.touched in
    let joined = known.has_discovered in (
      λ has. from (reasons edges q.commands changed unknown listed joined are e) ((are e).0 has),
      λ reason. (are e).1 (from (touched edges q.commands changed unknown listed joined are e) reason),
    )
  where
    from : {A B C : Type 0} → (B → C) → A ⊎ B → A ⊎ C
    from f (inl a) = inl a
    from f (inr b) = inr (f b)
