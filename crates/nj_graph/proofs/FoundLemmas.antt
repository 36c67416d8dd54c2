-- Lemmas on the undeclared inputs that are found.
use Rattle.std.proofs.lemmas.Grind.{common_steps}
use Rattle.std.proofs.Common.{◌≡◌, ◌<◌, ◌≤◌, ◌+◌, ◌↔◌, ◌||◌, ◌⊎◌, inl, inr, ℕ, Bool, true, false, cond, Some}
use Rattle.std.proofs.Common.{None, unwrap_or, List, [], ◌∷◌, ◌++◌, map, length, take, get_or, bytes_eq, refl}
use Rattle.std.proofs.Common.{sym, ap, subst, ◌∙◌, arith, append-nil, append_assoc}
use Rattle.std.specs.Prelude.{All, Contains, position, slice_get}
use Rattle.std.proofs.lemmas.Bool.{both_ways, or_cases}
use Rattle.std.proofs.lemmas.List.{map_push}
use Rattle.std.proofs.lemmas.List.Elements.{All-push, Contains-append_left, Contains-push}
use Rattle.std.proofs.lemmas.List.Elements.{Contains-push_cases}
use Rattle.std.proofs.lemmas.List.Folds.{list_any-append}
use Rattle.std.proofs.lemmas.Option.{same_Some}
use Rattle.std.proofs.lemmas.Slice.Eq.{bytes_eq-Decides}
use Rattle.nj_text.specs.Paths.{clean_path_of}
use Rattle.nj_names.specs.NameTables.{name_at}
use Rattle.nj_names.specs.NumberSets.{NumberSetModel, has}
use Rattle.nj_names.proofs.NameLemmas.{found-at}
use Rattle.nj_names.proofs.NumberLemmas.{contains-has, has-contains}
use Rattle.nj_deps.specs.Logs.{numbers_of}
use Rattle.nj_deps.specs.declared.path_no.PathNo.{PathNo}
use Rattle.nj_edges.specs.Changes.{IsOrNeeds}
use Rattle.nj_edges.specs.EdgeGraphs.{EdgeGraph}
use Rattle.nj_edges.specs.Edges.{EdgePaths, is_among, maker_of}
use Rattle.nj_edges.specs.Repeats.{each_once}
use Rattle.nj_statements.proofs.OnceLemmas.{once-known, once-new}
use Rattle.nj_graph.specs.Undeclared.{AreThose, InputOfEdge, IsUndeclared, input_of_edge, inputs_of_edge}
use Rattle.nj_graph.specs.Undeclared.AreThose.{none, has_it, lacks_it}
use Rattle.nj_graph.specs.Inside.UndeclaredFound.{AddsFile, FindsAt, IsFound, IsKnownInput, IsListed}
use Rattle.nj_graph.specs.declared.found_inputs.FoundInputs.{FoundInputs}
use Rattle.nj_graph.specs.declared.undeclared.UndeclaredInput.{UndeclaredInput}

-- ---- the items with a property, and one more item

module _ {A : Type 0} (P : A → Type 0) (x : A) where
  pub those-more : (items those : List A) → AreThose P items those → P x
      → AreThose P (items ++ x ∷ []) (those ++ x ∷ [])
  those-more _ _ none p = has_it p none
  those-more _ _ (has_it q rest) p = has_it q (those-more _ _ rest p)
  those-more _ _ (lacks_it q rest) p = lacks_it q (those-more _ _ rest p)

  pub those-same : (items those : List A) → AreThose P items those → (P x → ⊥)
      → AreThose P (items ++ x ∷ []) those
  those-same _ _ none p = lacks_it p none
  those-same _ _ (has_it q rest) p = has_it q (those-same _ _ rest p)
  those-same _ _ (lacks_it q rest) p = lacks_it q (those-same _ _ rest p)

-- ---- files that are no undeclared inputs

module _ (edges : List EdgePaths) (input : InputOfEdge) where
  pub not-made : maker_of edges input.path ≡ None → IsUndeclared edges input → ⊥
  not-made is undeclared = absurd (none-some undeclared.maker (sym is ∙ undeclared.makes))
    where
      none-some : (m : ℕ) → None ≡ Some m → ⊥
      none-some m same = absurd cc

  pub declared : (maker : ℕ) → maker_of edges input.path ≡ Some maker → IsOrNeeds edges input.edge maker
      → IsUndeclared edges input → ⊥
  declared maker is needs undeclared = grind (arith, common_steps)

-- ---- one more path

module _ (g : EdgeGraph) (edge : ℕ) (before : List InputOfEdge) (paths : List (List ℕ)) (path : List ℕ) where
  abbrev own : InputOfEdge
  own = record { edge = edge; path = path }

  abbrev so_far : List (List ℕ) → List InputOfEdge
  so_far ps = before ++ inputs_of_edge edge (each_once bytes_eq ps)

  so_far-known : is_among paths path ≡ true → so_far (paths ++ path ∷ []) ≡ so_far paths
  so_far-known is = ap (λ ps. before ++ inputs_of_edge edge ps) (once-known paths path is)

  so_far-new : is_among paths path ≡ false → so_far (paths ++ path ∷ []) ≡ so_far paths ++ own ∷ []
  so_far-new is =
      ap (λ ps. before ++ inputs_of_edge edge ps) (once-new paths path is)
      ∙ ap (λ is. before ++ is) (map_push (λ p. record { edge = edge; path = p }) (each_once bytes_eq paths)
      path)
      ∙ sym (append_assoc before (inputs_of_edge edge (each_once bytes_eq paths)) (own ∷ []))

  among-last : is_among (paths ++ path ∷ []) path ≡ true
  among-last = list_any-append (bytes_eq path) paths (path ∷ [])
      ∙ ap (λ b. is_among paths path || (b || false)) ((bytes_eq-Decides path path).1 refl)
      ∙ or-true (is_among paths path)
    where
      or-true : (b : Bool) → (b || true) ≡ true
      or-true true = refl
      or-true false = refl

  among-parts : (p : List ℕ) → is_among (paths ++ path ∷ []) p ≡ true → (is_among paths p ≡ true) ⊎ (p ≡ path)
  among-parts p is = elim (or_cases (is_among paths p) (is_among (path ∷ []) p)
      (sym (list_any-append (bytes_eq p) paths (path ∷ [])) ∙ is)) [
        | inl was ↦ inl was
        | inr last ↦ inr ((bytes_eq-Decides p path).0 (or-none (bytes_eq p path) last))
      ]
    where
      or-none : (b : Bool) → (b || false) ≡ true → b ≡ true
      or-none true is = is
      or-none false is = is

  first-listed : (n : ℕ) → IsListed g edge paths n → IsListed g edge (paths ++ path ∷ []) n
  first-listed n l = grind (arith, common_steps)

  -- the files that are listed stay the same, if the last path is known or declared
  stays-listed : (is_among paths path ≡ true) ⊎ (IsUndeclared g.edges own → ⊥) → (n : ℕ)
      → IsListed g edge (paths ++ path ∷ []) n → IsListed g edge paths n
  stays-listed why n l = elim (among-parts l.path l.among) [
    | inl was ↦ record { path = l.path; file_is = l.file_is; among = was; undeclared = l.undeclared }
    | inr last ↦ record {
      path = l.path;
      file_is = l.file_is;
      among = elim why [
        | inl known ↦ ap (is_among paths) last ∙ known
        | inr not ↦ absurd (not (subst (λ p. IsUndeclared g.edges (record { edge = edge; path = p })) last
            l.undeclared))
      ];
      undeclared = l.undeclared;
    }
  ]

  module _ (f : FoundInputs) (finds : FindsAt g edge before paths f) where
    -- a path that is declared
    pub finds-declared : (IsUndeclared g.edges own → ⊥) → FindsAt g edge before (paths ++ path ∷ []) f
    finds-declared not = record {
      those = by (is_among paths path) refl;
      listed = λ n. (
        λ has. first-listed n ((finds.listed n).0 has),
        λ l. (finds.listed n).1 (stays-listed (inr not) n l),
      );
    }
      where
        by : (b : Bool) → is_among paths path ≡ b
            → AreThose (IsUndeclared g.edges) (so_far (paths ++ path ∷ []))
            (map (input_of_edge g.files) f.inputs.items)
        by true known = subst (λ is. AreThose (IsUndeclared g.edges) is
            (map (input_of_edge g.files) f.inputs.items)) (sym (so_far-known known)) finds.those
        by false new = subst (λ is. AreThose (IsUndeclared g.edges) is
            (map (input_of_edge g.files) f.inputs.items)) (sym (so_far-new new))
            (those-same (IsUndeclared g.edges) own (so_far paths) (map (input_of_edge g.files) f.inputs.items)
            finds.those not)

    -- a path that is not declared
    module _ (input : UndeclaredInput) (edge_is : input.edge.0 ≡ edge)
        (file_is : position (bytes_eq path) g.files ≡ Some input.file.0)
        (undeclared : IsUndeclared g.edges own) where
      own-is : input_of_edge g.files input ≡ own
      own-is =
          ap (λ n. record { edge = n; path = unwrap_or (slice_get g.files input.file.0) [] }) edge_is
          ∙ ap (λ o. record { edge = edge; path = unwrap_or o [] })
          (found-at path g.files input.file.0 file_is)

      same-path : (p : List ℕ) → position (bytes_eq p) g.files ≡ Some input.file.0 → p ≡ path
      same-path p is = same_Some p path (sym (found-at p g.files input.file.0 is)
          ∙ found-at path g.files input.file.0 file_is)

      listed-among : IsListed g edge paths input.file.0 → is_among paths path ≡ true
      listed-among l = ap (is_among paths) (sym (same-path l.path l.file_is)) ∙ l.among

      known : has f.files.numbers input.file.0 ≡ true → is_among paths path ≡ true
      known is = listed-among ((finds.listed input.file.0).0 (has-contains f.files.numbers input.file.0 is))

      new : has f.files.numbers input.file.0 ≡ false → is_among paths path ≡ false
      new absent = by (is_among paths path) refl
        where
          by : (b : Bool) → is_among paths path ≡ b → is_among paths path ≡ false
          by false is = is
          by true is = absurd (both_ways (has f.files.numbers input.file.0) absent
              (contains-has f.files.numbers input.file.0
              ((finds.listed input.file.0).1 (record
              { path = path; file_is = file_is; among = is; undeclared = undeclared }))))

      pub finds-undeclared : (after : FoundInputs) → AddsFile input f after
          → FindsAt g edge before (paths ++ path ∷ []) after
      finds-undeclared after adds = by (has f.files.numbers input.file.0) refl
        where
          by : (b : Bool) → has f.files.numbers input.file.0 ≡ b
              → FindsAt g edge before (paths ++ path ∷ []) after
          by true there = record {
            those = subst (λ is. AreThose (IsUndeclared g.edges) is
                (map (input_of_edge g.files) after.inputs.items)) (sym (so_far-known (known there)))
                (subst (λ is. AreThose (IsUndeclared g.edges) (so_far paths) (map (input_of_edge g.files) is))
                (sym (adds.inputs ∙ ap (λ b. cond b f.inputs.items (f.inputs.items ++ input ∷ [])) there))
                finds.those);
            listed = λ n. (
              λ has. first-listed n ((finds.listed n).0 (subst (λ ns. Contains ns n) same has)),
              λ l. subst (λ ns. Contains ns n) (sym same)
                  ((finds.listed n).1 (stays-listed (inl (known there)) n l)),
            );
          }
            where
              same : after.files.numbers ≡ f.files.numbers
              same = adds.files ∙ ap (λ b. cond b f.files.numbers (f.files.numbers ++ input.file.0 ∷ []))
                  there
          by false absent = record {
            those = subst (λ is. AreThose (IsUndeclared g.edges) is
                (map (input_of_edge g.files) after.inputs.items)) (sym (so_far-new (new absent)))
                (subst (AreThose (IsUndeclared g.edges) (so_far paths ++ own ∷ [])) (sym inputs)
                (those-more (IsUndeclared g.edges) own (so_far paths)
                (map (input_of_edge g.files) f.inputs.items) finds.those undeclared));
            listed = λ n. (
              λ has. elim (Contains-push_cases f.files.numbers input.file.0 n
                  (subst (λ ns. Contains ns n) numbers has)) [
                    | inl was ↦ first-listed n ((finds.listed n).0 was)
                    | inr now ↦ record {
                      path = path;
                      file_is = file_is ∙ ap Some now;
                      among = among-last;
                      undeclared = undeclared;
                    }
                  ],
              λ l. subst (λ ns. Contains ns n) (sym numbers) (elim (among-parts l.path l.among) [
                | inl was ↦ Contains-append_left f.files.numbers (input.file.0 ∷ []) n
                    ((finds.listed n).1 (record {
                      path = l.path;
                      file_is = l.file_is;
                      among = was;
                      undeclared = l.undeclared;
                    }))
                | inr last ↦
                    let same = same_Some input.file.0 n
                    (sym file_is ∙ ap (λ p. position (bytes_eq p) g.files) (sym last) ∙ l.file_is) in
                    subst (Contains (f.files.numbers ++ input.file.0 ∷ [])) same
                    (Contains-push f.files.numbers input.file.0)
              ]),
            );
          }
            where
              numbers : after.files.numbers ≡ f.files.numbers ++ input.file.0 ∷ []
              numbers = adds.files ∙ ap (λ b. cond b f.files.numbers (f.files.numbers ++ input.file.0 ∷ []))
                  absent

              inputs : map (input_of_edge g.files) after.inputs.items
                  ≡ map (input_of_edge g.files) f.inputs.items ++ own ∷ []
              inputs =
                  ap (map (input_of_edge g.files)) (adds.inputs
                  ∙ ap (λ b. cond b f.inputs.items (f.inputs.items ++ input ∷ [])) absent)
                  ∙ map_push (input_of_edge g.files) f.inputs.items input
                  ∙ ap (λ i. map (input_of_edge g.files) f.inputs.items ++ i ∷ []) own-is

-- ---- an edge

pub cleans-more : (paths : List (List ℕ)) (numbers : List PathNo) (i : ℕ) (d : PathNo) → i < length numbers
    → map clean_path_of (map (name_at paths) (numbers_of (take (i + 1) numbers)))
    ≡ map clean_path_of (map (name_at paths) (numbers_of (take i numbers)))
    ++ clean_path_of (name_at paths (get_or numbers i d).0) ∷ []
cleans-more paths numbers i d below = grind (arith, common_steps)

pub cleans-all : (paths : List (List ℕ)) (numbers : List PathNo) (i : ℕ) → length numbers ≤ i
    → map clean_path_of (map (name_at paths) (numbers_of (take i numbers)))
    ≡ map clean_path_of (map (name_at paths) (numbers_of numbers))
cleans-all paths numbers i past = grind (arith, common_steps)

-- the search for further inputs makes no difference
pub same-finds : (g : EdgeGraph) (edge : ℕ) (before : List InputOfEdge) (paths : List (List ℕ))
    (f other : FoundInputs) → f.inputs ≡ other.inputs → f.files ≡ other.files → FindsAt g edge before paths f
    → FindsAt g edge before paths other
same-finds g edge before paths f other inputs files finds = record {
  those = subst (λ is. AreThose (IsUndeclared g.edges)
      (before ++ inputs_of_edge edge (each_once bytes_eq paths)) (map (input_of_edge g.files) is))
      (ap (λ v. v.items) inputs) finds.those;
  listed = λ n. subst (λ (s : NumberSetModel). Contains s.numbers n ↔ IsListed g edge paths n) files
      (finds.listed n);
}

pub finds-none : (g : EdgeGraph) (edge : ℕ) (before : List InputOfEdge) (f : FoundInputs)
    → f.files.numbers ≡ [] → AreThose (IsUndeclared g.edges) before
    (map (input_of_edge g.files) f.inputs.items) → FindsAt g edge before [] f
finds-none g edge before f empty those = record {
  those = subst (λ is. AreThose (IsUndeclared g.edges) is (map (input_of_edge g.files) f.inputs.items))
      (sym (append-nil before)) those;
  listed = λ n. (
    λ has. absurd (contains-none n (subst (λ ns. Contains ns n) empty has)),
    λ l. absurd (both_ways false refl l.among),
  );
}
  where
    contains-none : (n : ℕ) → Contains [] n → ⊥
    contains-none n is = absurd (omega (arith, is.1))

-- ---- the numbers are those of the graph

pub known-added : (g : EdgeGraph) (input : UndeclaredInput) (f after : FoundInputs)
    → f.files.limit ≡ length g.files → f.search ≡ g.edges → All (IsKnownInput g) f.inputs.items
    → input.edge.0 < length g.edges → input.file.0 < length g.files → AddsFile input f after → IsFound g after
known-added g input f after limit search known edge file adds = record {
  limit = adds.limit ∙ limit;
  search = adds.search ∙ search;
  known = subst (All (IsKnownInput g)) (sym adds.inputs) (by (has f.files.numbers input.file.0));
}
  where
    by : (b : Bool) → All (IsKnownInput g) (cond b f.inputs.items (f.inputs.items ++ input ∷ []))
    by true = known
    by false = All-push (IsKnownInput g) f.inputs.items input known (edge, file)
