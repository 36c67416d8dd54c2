-- The edges that files need, nearest first.
use Rattle.std.proofs.lemmas.Grind.{common_steps}
use Rattle.std.proofs.Common.{◌≡◌, ◌<◌, ◌≤◌, ◌+◌, ◌↔◌, inl, inr, ℕ, zero, suc, List, [], ◌∷◌, ◌++◌, map}
use Rattle.std.proofs.Common.{length, take, get_or, Option, Some, None, refl, sym, ap, subst, ◌∙◌, arith}
use Rattle.std.specs.Prelude.{Contains, slice_index}
use Rattle.std.specs.List.{All}
use Rattle.std.proofs.lemmas.List.{get_or-map, length-map}
use Rattle.std.proofs.lemmas.List.Elements.{Contains-append_left, Contains-push, Contains-push_cases}
use Rattle.nj_names.specs.NumberSets.{NumberSetModel}
use Rattle.nj_cycles.specs.Cycles.{Needs, NeedsByChain}
use Rattle.nj_cycles.specs.Cycles.Chain.{one, more}
use Rattle.nj_cycles.proofs.Chains.{chain_push}
use Rattle.nj_edges.specs.declared.edges.EdgeNo.{EdgeNo}
use Rattle.nj_names.specs.declared.files.FileNo.{FileNo}
use Rattle.nj_edges.specs.Changes.{IsOrNeeds}
use Rattle.nj_edges.specs.Distances.{AreNearestFirst, IsNeeded, IsNeededIn, MakesOneOf}
use Rattle.nj_edges.specs.Edges.{EdgePaths, edge_at, inputs_of, maker_of}
use Rattle.nj_names.specs.Files.{path_at}
use Rattle.nj_edges.specs.Needs.{makers_of_inputs}
use Rattle.nj_edges.specs.Inside.ChangesHeld.{FindsMore}
use Rattle.nj_edges.specs.Inside.SearchHeld.{FindsNeeded, IsSearched}
use Rattle.nj_edges.specs.Inside.UsersHeld.{numbers_of}
use Rattle.nj_edges.proofs.ChangeLemmas.{finds-none, finds-then}
use Rattle.nj_edges.proofs.SearchLemmas.{farther, found-all, search-begins, search-continues}

-- ---- makers

push-some : (os : List (Option ℕ)) (e : ℕ) → Contains os (Some e) → (o : Option ℕ)
    → Contains (os ++ o ∷ []) (Some e)
push-some os e has o = Contains-append_left os (o ∷ []) (Some e) has

same-some : (e f : ℕ) → Some e ≡ Some f → e ≡ f
same-some e f is = cc

-- some makers, and one more, which is an edge or `None`
module _ (os : List (Option ℕ)) (first old new : NumberSetModel)
    (a : FindsMore (λ e. Contains os (Some e)) first old) where
  pub finds-maker : (edge : ℕ) → FindsMore (λ e. e ≡ edge) old new
      → FindsMore (λ e. Contains (os ++ Some edge ∷ []) (Some e)) first new
  finds-maker edge b =
      finds-then (λ e. Contains os (Some e)) (λ e. e ≡ edge) (λ e. Contains (os ++ Some edge ∷ []) (Some e))
      first old new
      (λ e has. push-some os e has (Some edge))
      (λ e is. subst (λ x. Contains (os ++ Some edge ∷ []) (Some x)) (sym is) (Contains-push os (Some edge)))
      (λ e has. elim (Contains-push_cases os (Some edge) (Some e) has)
      [ inl was ↦ inl was | inr is ↦ inr (same-some e edge (sym is)) ])
      a b

pub finds-source : (os : List (Option ℕ)) (first old : NumberSetModel)
    → FindsMore (λ e. Contains os (Some e)) first old
    → FindsMore (λ e. Contains (os ++ None ∷ []) (Some e)) first old
finds-source os first old a =
    finds-then (λ e. Contains os (Some e)) (λ e. ⊥) (λ e. Contains (os ++ None ∷ []) (Some e)) first old old
    (λ e has. push-some os e has None)
    (λ e no. absurd no)
    (λ e has. elim (Contains-push_cases os None (Some e) has) [ inl was ↦ inl was | inr is ↦ absurd cc ])
    a (finds-none (λ e. ⊥) old (λ e no. absurd no))

-- the makers of the first files of a list, and of one more file
module _ (edges : List EdgePaths) (files : List (List ℕ)) where
  abbrev makers : List FileNo → List (Option ℕ)
  makers ns = map (maker_of edges) (map (path_at files) ns)

  makers-more : (ns : List FileNo) (i : ℕ) (d : FileNo) → i < length ns
      → makers (take (i + 1) ns) ≡ makers (take i ns) ++ maker_of edges (path_at files (get_or ns i d)) ∷ []
  makers-more ns i d below = grind (arith, common_steps)

  module _ (first old new : NumberSetModel) (ns : List FileNo) (i : ℕ) (d : FileNo) (below : i < length ns)
      (a : FindsMore (MakesOneOf edges (map (path_at files) (take i ns))) first old) where
    pub finds-made : (edge : ℕ) → maker_of edges (path_at files (get_or ns i d)) ≡ Some edge
        → FindsMore (λ e. e ≡ edge) old new
        → FindsMore (MakesOneOf edges (map (path_at files) (take (i + 1) ns))) first new
    finds-made edge made b =
        subst (λ os. FindsMore (λ e. Contains os (Some e)) first new)
        (sym (makers-more ns i d below ∙ ap (λ o. makers (take i ns) ++ o ∷ []) made))
        (finds-maker (makers (take i ns)) first old new a edge b)

    pub finds-unmade : maker_of edges (path_at files (get_or ns i d)) ≡ None
        → FindsMore (MakesOneOf edges (map (path_at files) (take (i + 1) ns))) first old
    finds-unmade unmade =
        subst (λ os. FindsMore (λ e. Contains os (Some e)) first old)
        (sym (makers-more ns i d below ∙ ap (λ o. makers (take i ns) ++ o ∷ []) unmade))
        (finds-source (makers (take i ns)) first old a)

-- ---- a needed edge is needed in some number of steps

module _ (edges : List EdgePaths) (files : List (List ℕ)) where
  abbrev IsNeededSometime : ℕ → Type 0
  IsNeededSometime e = (n : ℕ) × IsNeededIn edges files n e

  along : (n e f : ℕ) → IsNeededIn edges files n e → NeedsByChain (makers_of_inputs edges) e f
      → (m : ℕ) × IsNeededIn edges files m f
  along n e f needed (one step) = (suc n, (e, needed, step))
  along n e f needed (more {g = g} step chain) = along (suc n) g f (e, needed, step) chain

  sometime : (e : ℕ) → IsNeeded edges files e → IsNeededSometime e
  sometime e (m, makes, inl is) = (0, subst (MakesOneOf edges files) is makes)
  sometime e (m, makes, inr chain) = along 0 m e makes chain

  step-on : (m f e : ℕ) → IsOrNeeds edges m f → Needs (makers_of_inputs edges) f e → IsOrNeeds edges m e
  step-on m f e (inl is) step = inr (one (subst (λ x. Needs (makers_of_inputs edges) x e) (sym is) step))
  step-on m f e (inr chain) step = inr (chain_push (Needs (makers_of_inputs edges)) m f e chain step)

  needed-in : (n e : ℕ) → IsNeededIn edges files n e → IsNeeded edges files e
  needed-in zero e makes = (e, makes, inl refl)
  needed-in (suc n) e (f, needed, step) = let before = needed-in n f needed in
      (before.0, before.1, step-on before.0 f e before.2 step)

  -- ---- turn by turn

  pub needed-begins : (none new : NumberSetModel) → none ≡ record { limit = length edges; numbers = [] }
      → FindsMore (MakesOneOf edges files) none new → FindsNeeded edges files new 0
  needed-begins none new empty finds = record {
    limit = finds.limit ∙ ap (λ s. s.limit) empty;
    distance = λ e. 0;
    searched = search-begins (MakesOneOf edges files) (Needs (makers_of_inputs edges)) none new
        (ap (λ s. s.numbers) empty) finds;
  }

  pub needed-continues : (old new : NumberSetModel) (place : ℕ) → place < length old.numbers
      → FindsNeeded edges files old place
      → FindsMore (MakesOneOf edges (inputs_of (edge_at edges (slice_index old.numbers place)))) old new
      → FindsNeeded edges files new (place + 1)
  needed-continues old new place below held finds = record {
    limit = finds.limit ∙ held.limit;
    distance = farther held.distance old.numbers (slice_index old.numbers place);
    searched = search-continues (MakesOneOf edges files) (Needs (makers_of_inputs edges)) held.distance old
        new place below held.searched finds;
  }

  -- at the end nothing is missing
  module _ (distance : ℕ → ℕ) (numbers : List ℕ) (place : ℕ) (past : length numbers ≤ place)
      (held : IsSearched (MakesOneOf edges files) (Needs (makers_of_inputs edges)) distance numbers place)
    where
      found-needed : (n e : ℕ) → IsNeededIn edges files n e → Contains numbers e × (distance e ≤ n)
      found-needed n e needed = found-all (MakesOneOf edges files) (Needs (makers_of_inputs edges)) distance
          numbers place held past n e needed

      pub needed-are : (e : ℕ) → Contains numbers e ↔ IsNeeded edges files e
      needed-are e = (
        λ has. needed-in (distance e) e (held.sound e has),
        λ needed. let in_steps = sometime e needed in (found-needed in_steps.0 e in_steps.1).0,
      )

      pub needed-nearest : AreNearestFirst edges files numbers
      needed-nearest = record {
        distance = distance;
        of_each = λ e has. record {
          chain = held.sound e has;
          shortest =
              λ n needed. (found-needed n e needed).1;
        };
        rises = held.rises;
      }

-- the edges with numbers below the count
pub numbered-below : (es : List EdgeNo) (numbers : List ℕ) (limit count : ℕ) → numbers_of es ≡ numbers
    → All (λ n. n < limit) numbers → limit ≡ count → All (λ e. e.0 < count) es
numbered-below es numbers limit count are below same = λ k d within.
    let inside : k < length (numbers_of es) = omega (arith, within, length-map es (λ (e : EdgeNo). e.0)) in
    let here = subst (All (λ n. n < limit)) (sym are) below k 0 inside in
    omega (arith, here, get_or-map (λ (e : EdgeNo). e.0) es k d 0 within, same)
