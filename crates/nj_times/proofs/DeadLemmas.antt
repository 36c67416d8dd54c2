-- Files that no edge makes or has as an input.
use Rattle.std.proofs.Common.{◌≡◌, ◌∙◌, ◌+◌, ℕ, suc, Bool, true, false, Option, Some, None, List, [], ◌∷◌}
use Rattle.std.proofs.Common.{length}
use Rattle.std.proofs.Common.{ap, ap₂, arith, cond, map, refl, sym, true≢false}
use Rattle.std.specs.Prelude.{◌&&◌, ◌||◌, ◌==◌, bytes_eq, is_none, is_some, not, option_map, position}
use Rattle.std.specs.Prelude.{slice_index_or}
use Rattle.std.specs.List.{list_any}
use Rattle.std.proofs.lemmas.Bool.{ne_eqb}
use Rattle.std.proofs.lemmas.List.{length-map}
use Rattle.std.proofs.lemmas.List.Quantifiers.{position-Some}
use Rattle.std.proofs.lemmas.Option.{unwrap_or-slice_get}
use Rattle.std.proofs.lemmas.Slice.Eq.{bytes_eq-Decides}
use Rattle.nj_names.specs.Files.{path_at}
use Rattle.nj_names.specs.declared.files.FileNo.{FileNo}
use Rattle.nj_edges.specs.declared.edges.EdgeNo.{EdgeNo}
use Rattle.nj_names.specs.NameTables.{is_among}
use Rattle.nj_edges.specs.Edges.{EdgePaths, edges_from, first_edge, inputs_of, is_named, is_used, maker_of}
use Rattle.nj_edges.specs.Edges.{outputs_of, users_of}
use Rattle.nj_times.specs.Dead.{is_dead}

-- a list of numbers is empty if no edge passes
pub none_from : {E : Type 0} (test : E → Bool) (number : ℕ) (edges : List E)
    → (length (edges_from number test edges) == 0) ≡ not (list_any test edges)
none_from test number [] = refl
none_from test number (e ∷ edges) = by (test e) refl (none_from test (number + 1) edges)
  where
    by : (b : Bool) → test e ≡ b
        → (length (edges_from (number + 1) test edges) == 0) ≡ not (list_any test edges)
        → (length (edges_from number test (e ∷ edges)) == 0) ≡ not (list_any test (e ∷ edges))
    by true is rest =
        let one : (length (edges_from number test (e ∷ edges)) == 0) ≡ false =
        ap (λ b. length (cond b (number ∷ edges_from (number + 1) test edges)
        (edges_from (number + 1) test edges))
        == 0) is ∙ ne_eqb (length (number ∷ edges_from (number + 1) test edges)) 0
        (λ none. absurd (omega (arith, none))) in
        one ∙ sym (ap (λ b. not (b || list_any test edges)) is)
    by false is rest =
        ap (λ b. length (cond b (number ∷ edges_from (number + 1) test edges)
        (edges_from (number + 1) test edges))
        == 0) is
        ∙ rest ∙ sym (ap (λ b. not (b || list_any test edges)) is)

first_none : {E : Type 0} (test : E → Bool) (edges : List E) → list_any test edges ≡ false
    → first_edge test edges ≡ None
first_none test [] none = refl
first_none test (e ∷ edges) none = by (test e) refl none (first_none test edges)
  where
    by : (b : Bool) → test e ≡ b → (b || list_any test edges) ≡ false
        → (list_any test edges ≡ false → first_edge test edges ≡ None) → first_edge test (e ∷ edges) ≡ None
    by true is or rest = absurd (true≢false or)
    by false is or rest =
        ap (λ b. cond b (Some 0) (option_map (λ n. n + 1) (first_edge test edges))) is
        ∙ ap (option_map (λ n. n + 1)) (rest or)

-- what no edge names passes none of the tests
no_test : (some : EdgePaths → Bool) (path : List ℕ) (edges : List EdgePaths)
    → ((e : EdgePaths) → (is_among (outputs_of e) path || is_among (inputs_of e) path
    || is_among e.validations path) ≡ false
    → some e ≡ false)
    → is_named edges path ≡ false → list_any some edges ≡ false
no_test some path [] each none = refl
no_test some path (e ∷ edges) each none =
    by (is_among (outputs_of e) path || is_among (inputs_of e) path || is_among e.validations path) refl none
    (no_test some path edges each)
  where
    by : (b : Bool) → (is_among (outputs_of e) path || is_among (inputs_of e) path
        || is_among e.validations path) ≡ b
        → (b || is_named edges path) ≡ false → (is_named edges path ≡ false → list_any some edges ≡ false)
        → list_any some (e ∷ edges) ≡ false
    by true is or rest = absurd (true≢false or)
    by false is or rest = ap (λ b. b || list_any some edges) (each e is) ∙ rest or

left_false : (a b c : Bool) → (a || b || c) ≡ false → a ≡ false
left_false true b c is = absurd (true≢false is)
left_false false b c is = refl

middle_false : (a b c : Bool) → (a || b || c) ≡ false → b ≡ false
middle_false true true c is = absurd (true≢false is)
middle_false true false c is = refl
middle_false false true c is = absurd (true≢false is)
middle_false false false c is = refl

pub unnamed_dead : (edges : List EdgePaths) (path : List ℕ) → is_named edges path ≡ false
    → is_dead edges path ≡ true
unnamed_dead edges path none =
    let unmade : maker_of edges path ≡ None =
    first_none (λ e. is_among (outputs_of e) path) edges
    (no_test (λ e. is_among (outputs_of e) path) path edges
    (λ e is. left_false (is_among (outputs_of e) path) (is_among (inputs_of e) path)
    (is_among e.validations path) is) none)
    in
    let unused : is_used edges path ≡ false =
    no_test (λ e. is_among (inputs_of e) path) path edges
    (λ e is. middle_false (is_among (outputs_of e) path) (is_among (inputs_of e) path)
    (is_among e.validations path) is) none
    in
    ap₂ (λ (o : Option ℕ) b. is_none o && not b) unmade unused

-- ---- a file of the graph

module _ (edges : List EdgePaths) (files : List (List ℕ)) (path : List ℕ) (file : FileNo) where
  found_path : position (bytes_eq path) files ≡ Some file.0 → path_at files file ≡ path
  found_path at =
      let there = position-Some (bytes_eq path) files file.0 [] at in
      unwrap_or-slice_get files file.0 []
      ∙ sym ((bytes_eq-Decides path (slice_index_or files file.0 [])).0 there.1)

  module _ (made : Option EdgeNo) (at : position (bytes_eq path) files ≡ Some file.0)
      (maker : option_map (λ (e : EdgeNo). e.0) made ≡ maker_of edges (path_at files file)) where
    made_is : is_none (maker_of edges path) ≡ not (is_some made)
    made_is =
        ap (λ (p : List ℕ). is_none (maker_of edges p)) (sym (found_path at))
        ∙ ap (λ (o : Option ℕ). is_none o) (sym maker) ∙ by made
      where
        by : (o : Option EdgeNo) → is_none (option_map (λ (e : EdgeNo). e.0) o) ≡ not (is_some o)
        by None = refl
        by (Some edge) = refl

    pub made_lives : is_some made ≡ true → false ≡ is_dead edges path
    made_lives is =
        sym (ap (λ b. b && not (is_used edges path)) (made_is ∙ ap not is))

    pub unmade_dead : (users : List EdgeNo) → is_some made ≡ false
        → map (λ (e : EdgeNo). e.0) users ≡ users_of edges (path_at files file)
        → (length users == 0) ≡ is_dead edges path
    unmade_dead users is are =
        ap (λ n. n == 0) (sym (length-map users (λ (e : EdgeNo). e.0)))
        ∙ ap (λ (es : List ℕ). length es == 0) (are ∙ ap (users_of edges) (found_path at))
        ∙ none_from (λ (e : EdgePaths). is_among (inputs_of e) path) 0 edges
        ∙ sym (ap (λ b. b && not (is_used edges path)) (made_is ∙ ap not is))
