-- Lemmas on the files that a deps log names for edges.
use Rattle.std.proofs.lemmas.Grind.{common_steps}
use Rattle.std.proofs.Common.{◌≡◌, ◌≢◌, ◌<◌, ◌≤◌, ◌+◌, ◌||◌, ◌⊎◌, inl, inr, ℕ, zero, suc, Bool, true, false}
use Rattle.std.proofs.Common.{Option, Some, None, List, [], ◌∷◌, ◌++◌, map, length, take, get_or, bytes_eq}
use Rattle.std.proofs.Common.{nat_eq, refl, sym, ap, subst, ◌∙◌, arith}
use Rattle.std.specs.Prelude.{position, slice_index_or}
use Rattle.std.specs.List.{AllByRecursion, IsDistinct, flat_map, range_with_len}
use Rattle.std.proofs.lemmas.Bool.{eqb-true}
use Rattle.std.proofs.lemmas.Bool.Decides.{eqb_tells}
use Rattle.std.proofs.lemmas.List.{flat_map_more, get_or-map, length-map, take_all}
use Rattle.std.proofs.lemmas.Option.{get_or_from_slice_get, same_Some, slice_get-get_or, unwrap_or-slice_get}
use Rattle.std.proofs.lemmas.Slice.Eq.{bytes_eq-Decides}
use Rattle.nj_names.specs.NameTables.{is_among, name_at}
use Rattle.nj_names.specs.NumberSets.{has}
use Rattle.nj_names.proofs.NameLemmas.{found-at, found-index}
use Rattle.nj_names.proofs.NumberLemmas.{contains-has}
use Rattle.nj_cycles.proofs.Places.{contains_at}
use Rattle.nj_scope.specs.ReadingList.{ReadStatement}
use Rattle.nj_edges.specs.Edges.{EdgePaths}
use Rattle.nj_deps.specs.Logs.{LogModel, numbers_of}
use Rattle.nj_deps.specs.declared.path_no.PathNo.{PathNo}
use Rattle.nj_deps.proofs.NumberLemmas.{numbers-length}
use Rattle.nj_statements.specs.EdgeList.{edges_read, paths_of_edges}
use Rattle.nj_graph.specs.DepsLogs.{number_logged}
use Rattle.nj_graph.specs.Graph.{GraphModel, IsGraphOf, edges_of}
use Rattle.nj_graph.specs.Undeclared.{AreThose, AreUndeclared, InputOfEdge, IsUndeclared, inputs_named}
use Rattle.nj_graph.specs.Undeclared.{inputs_of_edge, paths_of_output}
use Rattle.nj_graph.specs.Inside.LogSteps.{AreNumbersLogged}
use Rattle.nj_graph.specs.Inside.UndeclaredFound.{inputs_by_number}

-- ---- numbers of paths

module _ (paths : List (List ℕ)) (distinct : IsDistinct bytes_eq paths) (path : List ℕ) where
  -- a path has only the number by which it is found
  number-is : (n : ℕ) → n < length paths → bytes_eq path (name_at paths n) ≡ true
      → position (bytes_eq path) paths ≡ Some n
  number-is n below same =
      let here = slice_get-get_or paths n [] below ∙ ap Some (sym (unwrap_or-slice_get paths n []))
      ∙ ap Some (sym ((bytes_eq-Decides path (name_at paths n)).0 same)) in
      sym (found-index path paths (Some n) distinct here)

  pub among-numbers : (wanted : ℕ) → position (bytes_eq path) paths ≡ Some wanted → (numbers : List ℕ)
      → AllByRecursion (λ n. n < length paths) numbers
      → has numbers wanted ≡ is_among (map (name_at paths) numbers) path
  among-numbers wanted is [] below = refl
  among-numbers wanted is (n ∷ numbers) below =
      ap (λ b. b || has numbers wanted) (same (eqb_tells wanted n))
      ∙ ap (λ b. bytes_eq path (name_at paths n) || b) (among-numbers wanted is numbers below.1)
    where
      same : (nat_eq wanted n ≡ true × (wanted ≡ n)) ⊎ (nat_eq wanted n ≡ false × (wanted ≢ n))
          → nat_eq wanted n ≡ bytes_eq path (name_at paths n)
      same (inl is-it) = is-it.0 ∙ sym ((bytes_eq-Decides path (name_at paths n)).1
          (sym (ap (name_at paths) (sym is-it.1) ∙ here)))
        where
          here : name_at paths wanted ≡ path
          here = unwrap_or-slice_get paths wanted []
              ∙ get_or_from_slice_get paths wanted path [] (found-at path paths wanted is)
      same (inr apart) = apart.0 ∙ sym (by (bytes_eq path (name_at paths n)) refl)
        where
          by : (b : Bool) → bytes_eq path (name_at paths n) ≡ b → b ≡ false
          by false other = refl
          by true equal = absurd (apart.1 (same_Some wanted n (sym is ∙ number-is n below.0 equal)))

  pub among-none : position (bytes_eq path) paths ≡ None → (numbers : List ℕ)
      → AllByRecursion (λ n. n < length paths) numbers → false ≡ is_among (map (name_at paths) numbers) path
  among-none absent [] below = refl
  among-none absent (n ∷ numbers) below =
      by (among-none absent numbers below.1) (bytes_eq path (name_at paths n)) refl
    where
      some-none : Some n ≡ None → ⊥
      some-none same = absurd cc

      by : false ≡ is_among (map (name_at paths) numbers) path → (b : Bool)
          → bytes_eq path (name_at paths n) ≡ b
          → false ≡ (bytes_eq path (name_at paths n) || is_among (map (name_at paths) numbers) path)
      by rest false other = rest ∙ sym (ap (λ b. b || is_among (map (name_at paths) numbers) path) other)
      by rest true equal = absurd (some-none (sym (number-is n below.0 equal) ∙ absent))

-- ---- a number among others

pub has-more : (numbers : List PathNo) (i wanted : ℕ) (d : PathNo) → i < length numbers
    → has (numbers_of (take i numbers)) wanted ≡ false → nat_eq (get_or numbers i d).0 wanted ≡ false
    → has (numbers_of (take (i + 1) numbers)) wanted ≡ false
has-more numbers i wanted d below before apart = grind (arith, common_steps)

pub has-at : (numbers : List PathNo) (i wanted : ℕ) (d : PathNo) → i < length numbers
    → nat_eq (get_or numbers i d).0 wanted ≡ true → true ≡ has (numbers_of numbers) wanted
has-at numbers i wanted d below is =
    sym (contains-has (numbers_of numbers) wanted (contains_at (numbers_of numbers) i wanted
    (subst (λ k. i < k) (sym (numbers-length numbers)) below)
    (get_or-map (λ n. n.0) numbers i d 0 below ∙ eqb-true (get_or numbers i d).0 wanted is)))

pub has-none : (numbers : List PathNo) (i wanted : ℕ) → length numbers ≤ i
    → has (numbers_of (take i numbers)) wanted ≡ false → false ≡ has (numbers_of numbers) wanted
has-none numbers i wanted past none =
    sym (sym (ap (λ ns. has (numbers_of ns) wanted) (take_all i numbers past)) ∙ none)

-- ---- edge by edge

range-more : (a n : ℕ) → range_with_len a (suc n) ≡ range_with_len a n ++ (a + n) ∷ []
range-more a zero = ap (λ k. k ∷ []) (let z : a ≡ a + 0 = omega arith in z)
range-more a (suc n) =
    ap (λ ks. a ∷ ks) (range-more (a + 1) n)
    ∙ ap (λ k. (a ∷ range_with_len (a + 1) n) ++ k ∷ [])
    (let z : a + 1 + n ≡ a + suc n = omega arith in z)

pub flat_map-range : {A : Type 0} (f : ℕ → List A) (n : ℕ)
    → flat_map f (range_with_len 0 (n + 1)) ≡ flat_map f (range_with_len 0 n) ++ f n
flat_map-range f n =
    ap (λ k. flat_map f (range_with_len 0 k)) (let z : n + 1 ≡ suc n = omega arith in z)
    ∙ ap (flat_map f) (range-more 0 n)
    ∙ sym (flat_map_more f [] (range_with_len 0 n) (0 + n))
    ∙ ap (λ k. flat_map f (range_with_len 0 n) ++ f k) (let z : 0 + n ≡ n = omega arith in z)

flat_map-agree : {A : Type 0} (f g : ℕ → List A) (a n : ℕ) → ((k : ℕ) → a + k < a + n → f (a + k) ≡ g (a + k))
    → flat_map f (range_with_len a n) ≡ flat_map g (range_with_len a n)
flat_map-agree f g a zero same = refl
flat_map-agree f g a (suc n) same =
    ap (λ xs. xs ++ flat_map f (range_with_len (a + 1) n))
    (ap f first ∙ same 0 (omega arith) ∙ ap g (sym first))
    ∙ ap (λ xs. g a ++ xs) (flat_map-agree f g (a + 1) n (λ k below.
    let next : a + 1 + k ≡ a + suc k = omega arith in
    ap f next ∙ same (suc k) (omega (arith, below)) ∙ ap g (sym next)))
  where
    first : a ≡ a + 0
    first = omega arith

pub one-edge-more : (log : LogModel) (numbers : List (Option ℕ)) (edge : ℕ) (paths : List (List ℕ))
    → paths ≡ paths_of_output log (get_or numbers edge None)
    → flat_map (λ e. inputs_of_edge e (paths_of_output log (slice_index_or numbers e None)))
    (range_with_len 0 (edge + 1))
    ≡ flat_map (λ e. inputs_of_edge e (paths_of_output log (slice_index_or numbers e None)))
    (range_with_len 0 edge) ++ inputs_of_edge edge paths
one-edge-more log numbers edge paths is =
    flat_map-range (λ e. inputs_of_edge e (paths_of_output log (slice_index_or numbers e None))) edge
    ∙ ap (λ ps. flat_map (λ e. inputs_of_edge e (paths_of_output log (slice_index_or numbers e None)))
    (range_with_len 0 edge) ++ inputs_of_edge edge ps) (sym is)

module _ (log : LogModel) (g : GraphModel) (entries : List ReadStatement) (is : IsGraphOf g entries)
    (numbers : List (Option ℕ)) (count : length numbers ≡ length (edges_of g))
    (are : AreNumbersLogged log entries numbers) where
  as-many : length numbers ≡ length (edges_read entries)
  as-many = count ∙ ap length is.built.paths ∙ length-map (edges_read entries) (λ e. e.paths)

  named : inputs_by_number log numbers ≡ inputs_named log entries
  named =
      flat_map-agree (λ edge. inputs_of_edge edge (paths_of_output log (slice_index_or numbers edge None)))
      (λ edge. inputs_of_edge edge (paths_of_output log (number_logged log entries edge))) 0
      (length numbers)
      (λ k below. ap (λ o. inputs_of_edge (0 + k) (paths_of_output log o))
      (get_or_from_slice_get numbers (0 + k) (number_logged log entries (0 + k)) None
      (are (0 + k) (omega (arith, below)))))
      ∙ ap (λ n. flat_map (λ edge. inputs_of_edge edge (paths_of_output log (number_logged log entries edge)))
      (range_with_len 0 n)) as-many

  pub are-undeclared : (inputs : List InputOfEdge)
      → AreThose (IsUndeclared (edges_of g)) (inputs_by_number log numbers) inputs
      → AreUndeclared log entries inputs
  are-undeclared inputs those =
      subst (λ items. AreThose (IsUndeclared (paths_of_edges (edges_read entries))) items inputs) named
      (subst (λ (edges : List EdgePaths). AreThose (IsUndeclared edges) (inputs_by_number log numbers) inputs)
      is.built.paths those)
