-- Files that are unordered with an edge, one by one.
use Rattle.std.proofs.Common.{◌≡◌, ◌↔◌, ℕ, Bool, true, false, cond, not, Option, Some, List, [], ◌∷◌, ◌++◌}
use Rattle.std.proofs.Common.{map}
use Rattle.std.proofs.Common.{refl, sym, ap, subst, ◌∙◌, append-nil, append_assoc, true≢false}
use Rattle.std.proofs.lemmas.List.{map_push}
use Rattle.nj_edges.specs.Changes.{IsOrNeeds}
use Rattle.nj_graph.specs.Edges.{is_among, maker_of}
use Rattle.nj_graph.specs.Graph.{GraphModel, edges_of}
use Rattle.nj_graph.specs.Handles.{GraphEdge}
use Rattle.nj_audit.specs.Audit.{path_of}
use Rattle.nj_audit.specs.Findings.{FindingModel}
use Rattle.nj_audit.specs.UnorderedFiles.{IsOther, IsUnordered}
use Rattle.nj_audit.specs.UnorderedFiles.AreUnordered.{none, unordered, again, ordered}
use Rattle.nj_audit.specs.Inside.FileSets.{FileSetModel}
use Rattle.nj_audit.specs.Inside.Handles.{finding_at}
use Rattle.nj_audit.specs.Inside.UnorderedFound.{AddsOnce, KnowsUnordered}
use Rattle.nj_audit.specs.declared.kinds.Kind.TheVariants.{UndeclaredInput}

-- ---- files, one by one

module _ (edge : GraphEdge) where
  pub unordered-begins : (base : List FindingModel) → KnowsUnordered edge [] [] base base
  unordered-begins base = record { are_unordered = none; are_found = sym (append-nil base) }

  module _ (files : List ℕ) (file : ℕ) (seen : FileSetModel) (base found : List FindingModel)
      (knows : KnowsUnordered edge files seen.paths base found) where
    abbrev path : List ℕ
    path = path_of edge.graph file

    pub unordered-more : (new_seen : FileSetModel) (new_found : List FindingModel)
        → IsUnordered edge.graph edge.number (path_of edge.graph file)
        → AddsOnce edge (path_of edge.graph file) seen new_seen found new_found
        → KnowsUnordered edge (files ++ file ∷ []) new_seen.paths base new_found
    unordered-more new_seen new_found is_so adds =
        subst (λ ps. KnowsUnordered edge (files ++ file ∷ []) ps base new_found)
        (sym (ap (λ (s : FileSetModel). s.paths) adds.seen_now)) (by (is_among seen.paths path) refl)
      where
        by : (b : Bool) → is_among seen.paths path ≡ b → KnowsUnordered edge (files ++ file ∷ [])
            (cond (is_among seen.paths path) seen.paths (seen.paths ++ path ∷ [])) base new_found
        by true is = subst (λ b. KnowsUnordered edge (files ++ file ∷ [])
            (cond b seen.paths (seen.paths ++ path ∷ [])) base new_found) (sym is) (record {
              are_unordered = again file knows.are_unordered is;
              are_found = adds.found ∙ ap (λ b. found
                  ++ cond b [] (finding_at edge UndeclaredInput path ∷ [])) is
                  ∙ append-nil found ∙ knows.are_found;
            })
        by false is = subst (λ b. KnowsUnordered edge (files ++ file ∷ [])
            (cond b seen.paths (seen.paths ++ path ∷ [])) base new_found) (sym is) (record {
              are_unordered = unordered file knows.are_unordered is_so is;
              are_found = adds.found ∙ ap (λ b. found
                  ++ cond b [] (finding_at edge UndeclaredInput path ∷ [])) is
                  ∙ ap (λ t. t ++ finding_at edge UndeclaredInput path ∷ []) knows.are_found
                  ∙ append_assoc base (map (finding_at edge UndeclaredInput) seen.paths)
                  (finding_at edge UndeclaredInput path ∷ [])
                  ∙ ap (λ t. base ++ t) (sym (map_push (finding_at edge UndeclaredInput) seen.paths path));
            })

    pub unordered-none : ¬ IsUnordered edge.graph edge.number (path_of edge.graph file)
        → KnowsUnordered edge (files ++ file ∷ []) seen.paths base found
    unordered-none not = record {
      are_unordered = ordered file knows.are_unordered not;
      are_found = knows.are_found;
    }

-- ---- from which edge a file comes

module _ (g : GraphModel) (edge : ℕ) (path : List ℕ) where
  abbrev Comes : ℕ → Type 0
  Comes maker = (maker_of (edges_of g) path ≡ Some maker) × IsOther g edge maker

  same-some : (a b : ℕ) → Some a ≡ Some b → a ≡ b
  same-some a b is = cc

  -- ---- whether it is unordered

  module _ (from : Option ℕ) (comes : (maker : ℕ) → (from ≡ Some maker) ↔ Comes maker) where
    module _ (maker : ℕ) (is : from ≡ Some maker) where
      same-maker : (is_so : IsUnordered g edge path) → is_so.maker ≡ maker
      same-maker is_so = same-some is_so.maker maker
          (sym ((comes is_so.maker).1 (is_so.made, is_so.is_other)) ∙ is)

      pub unordered-tells : ¬ IsOrNeeds (edges_of g) edge maker → (user : Bool)
          → (user ≡ true) ↔ IsOrNeeds (edges_of g) maker edge
          → (not user ≡ true → IsUnordered g edge path) × (IsUnordered g edge path → not user ≡ true)
      unordered-tells unneeded true used = (
        λ is_none. absurd cc,
        λ is_so. absurd (is_so.is_no_user (subst (λ e. IsOrNeeds (edges_of g) e edge) (sym (same-maker is_so))
            (used.0 refl))),
      )
      unordered-tells unneeded false unused = (
        λ same. let from_it = (comes maker).0 is in
            record {
              maker = maker;
              made = from_it.0;
              is_other = from_it.1;
              is_unneeded = unneeded;
              is_no_user = λ uses. true≢false (sym (unused.1 uses));
            },
        λ is_so. refl,
      )
