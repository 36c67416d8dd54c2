-- Lemmas on the names of a rule, as an edge that is read has them.
use Rattle.std.proofs.Common.{◌≡◌, ℕ, ◌<◌, ◌==◌, Bool, true, false, if◌then◌else◌, List, [], ◌∷◌, map, length}
use Rattle.std.proofs.Common.{take, slice_get, Option, Some, None, unwrap_or, bytes_eq, All, refl, sym, ap}
use Rattle.std.proofs.Common.{subst, ◌∙◌, arith}
use Rattle.std.specs.List.{AllByRecursion}
use Rattle.std.proofs.lemmas.Bool.Decides.{Decides-eqb}
use Rattle.std.proofs.lemmas.Slice.Eq.{bytes_eq-Decides}
use Rattle.std.proofs.lemmas.List.{take-map, length-map}
use Rattle.std.proofs.lemmas.List.Elements.{All-take, All-from_recursion}
use Rattle.std.proofs.lemmas.Option.{slice_get_within}
use Rattle.nj_manifest.specs.LineSteps.{NameModel}
use Rattle.nj_manifest.specs.Statements.{LineModel, OutputsModel, InputsModel}
use Rattle.nj_scope.specs.Rules.{RuleModel, phony}
use Rattle.nj_scope.specs.Scopes.{first_given, IsScope, parent_at}
use Rattle.nj_scope.specs.Declarations.{DeclarationsModel, DeclaredBy}
use Rattle.nj_scope.specs.ReadingList.{ReadStatement, scope_of, value_after, rules, rule_in_force, rules_read}
use Rattle.nj_scope.specs.ReadingList.{pools}
use Rattle.nj_scope.proofs.InForce.{in_force, phony-there}
use Rattle.nj_names.specs.declared.files.FileNo.{FileNo}
use Rattle.nj_edges.specs.declared.edges.KindEnds.{KindEnds}
use Rattle.nj_edges.specs.Edges.{EdgePaths, inputs_of}
use Rattle.nj_edges.specs.EdgeTables.{OpenEdge, EndWithin, edge_read}
use Rattle.nj_names.specs.Files.{path_at, AreFiles}
use Rattle.nj_edges.proofs.GraphLemmas.{kinds-joined}
use Rattle.nj_edge_env.specs.declared.late_edge.LateEdge.{LateEdge}
use Rattle.nj_edge_env.specs.LateStrings.{LateNames}
use Rattle.nj_edge_env.specs.LateEdges.{late_names}
use Rattle.nj_statements.specs.EdgeList.{Block, Values, EdgeModel, line_values, loses_own, without_own}
use Rattle.nj_statements.specs.EdgeList.{edge_paths, stated_paths, build_block, edge_of_build, names_of_edge}
use Rattle.nj_statements.specs.BuildFaults.{late_fault}
use Rattle.nj_statements.specs.Inside.EdgeSteps.{names_read, SeesLate, names_fault, lines_of_rule}

-- functions with the same result everywhere are the same
pub same-everywhere : {A B : Type 0} (f g : A → B) → ((x : A) → f x ≡ g x) → f ≡ g
same-everywhere f g same = λ i. λ x. same x i

-- ---- the rule `phony`

same_truth : (a b : Bool) → (a ≡ true → b ≡ true) → (b ≡ true → a ≡ true) → a ≡ b
same_truth true b there back = sym (there refl)
same_truth false true there back = back refl
same_truth false false there back = refl

some_same : {X : Type 0} {x y : X} → Some x ≡ Some y → x ≡ y
some_same {x = x} h = ap (λ o. unwrap_or o x) h

-- the rule in force under a name is `phony` where its number is 0
pub is-phony : (entries : List ReadStatement) (scope name : List ℕ) (number : ℕ) (rule : RuleModel)
    → rule_in_force entries scope name ≡ Some number → slice_get (rules_read entries) number ≡ Some rule
    → bytes_eq rule.name phony ≡ (number == 0)
is-phony entries scope name number rule is there =
    same_truth (bytes_eq rule.name phony) (number == 0)
    (λ h. (Decides-eqb number 0).1 (some_same
    (sym is ∙ ap (λ b. if b then Some 0 else first_given (λ s. rules entries s name) scope)
    ((bytes_eq-Decides name phony).1 (sym named ∙ (bytes_eq-Decides rule.name phony).0 h)))))
    (λ h. (bytes_eq-Decides rule.name phony).1
    (ap (λ (r : RuleModel). r.name) (some_same
    (sym there ∙ ap (slice_get (rules_read entries)) ((Decides-eqb number 0).0 h)
    ∙ phony-there entries))))
  where
    named : rule.name ≡ name
    named = let (r, at, its, _) = in_force entries scope name number is in
        ap (λ (x : RuleModel). x.name) (some_same (sym there ∙ at)) ∙ its

-- an edge that loses its own outputs is still phony or not
pub kept-phony : (s : EdgePaths) → (edge_paths s).is_phony ≡ s.is_phony
kept-phony s = by (loses_own s)
  where
    by : (b : Bool) → (if b then without_own s else s).is_phony ≡ s.is_phony
    by true = refl
    by false = refl

-- ---- the names of the edge

module _ (e : ReadStatement) (entries : List ReadStatement) (outputs : OutputsModel) (rule : NameModel)
    (inputs : InputsModel) (lines : List LineModel) (number : ℕ) (text : RuleModel) (block : Block)
    (is : rule_in_force entries (scope_of e) rule.name ≡ Some number)
    (there : slice_get (rules_read entries) number ≡ Some text)
    (block_is : (name : List ℕ) → block name ≡ build_block e entries lines name) where
  abbrev file : Values
  file = value_after entries (scope_of e)

  -- its paths, where the rule has this number
  abbrev paths_by : ℕ → EdgePaths
  paths_by n = edge_paths (stated_paths (line_values e entries lines) outputs inputs (n == 0))

  abbrev names : ℕ → LateNames
  names n = record {
    inputs = (paths_by n).explicit_inputs;
    outputs = (paths_by n).explicit_outputs;
    block = build_block e entries lines;
    lines = lines_of_rule (slice_get (rules_read entries) n);
    is_phony = (paths_by n).is_phony;
    file = file;
  }

  names-read : names number ≡ names_read (paths_by number) block text file
  names-read =
      ap (λ (o : Option RuleModel). record (names number) { lines = lines_of_rule o }) there
      ∙ ap (λ (b : Bool). record (names number) { lines = text.lines; is_phony = b })
      (kept-phony (stated_paths (line_values e entries lines) outputs inputs (number == 0))
      ∙ sym (is-phony entries (scope_of e) rule.name number text is there))
      ∙ ap (λ (b : Block). record (names number)
      { lines = text.lines; is_phony = bytes_eq text.name phony; block = b })
      (sym (same-everywhere block (build_block e entries lines) block_is))

  -- the edge, to which nothing was joined
  abbrev edge : EdgeModel
  edge = edge_of_build (record e { was_joined = false; discovered = None }) entries outputs rule inputs lines

  pub names-of-edge : names_of_edge entries edge ≡ names_read (paths_by number) block text file
  names-of-edge = ap (λ (o : Option ℕ). names (unwrap_or o 0)) is ∙ names-read

  pub late-fault : names_fault e.file e.spot (pools entries) (inputs_of (paths_by number))
      (names_read (paths_by number) block text file) ≡ late_fault entries edge
  late-fault =
      ap (names_fault e.file e.spot (pools entries) (inputs_of (paths_by number))) (sym names-read)
      ∙ ap (λ (o : Option ℕ). names_fault e.file e.spot (pools entries) (inputs_of (paths_by (unwrap_or o 0)))
      (names (unwrap_or o 0))) (sym is)

-- ---- the edge that is being read

-- its inputs, of all kinds
pub inputs-read : (o : OpenEdge) (kinds : KindEnds) (is_phony : Bool) (count : ℕ)
    → EndWithin kinds count (length o.inputs) → inputs_of (edge_read o kinds is_phony) ≡ o.inputs
inputs-read o kinds is_phony count within =
    kinds-joined o.inputs kinds.explicit_inputs kinds.implicit_inputs within.explicit_inputs

-- the paths of the first files
pub paths-are : (files : List (List ℕ)) (numbers : List FileNo) (paths : List (List ℕ))
    → AreFiles files numbers paths → map (path_at files) numbers ≡ paths
paths-are files numbers paths are =
    sym (map-map numbers) ∙ ap (map (λ (o : Option (List ℕ)). unwrap_or o [])) are ∙ back paths
  where
    map-map : (ns : List FileNo) → map (λ (o : Option (List ℕ)). unwrap_or o [])
        (map (λ (f : FileNo). slice_get files f.0) ns) ≡ map (path_at files) ns
    map-map [] = refl
    map-map (n ∷ ns) = ap (λ ps. path_at files n ∷ ps) (map-map ns)

    back : (ps : List (List ℕ)) → map (λ (o : Option (List ℕ)). unwrap_or o []) (map Some ps) ≡ ps
    back [] = refl
    back (p ∷ ps) = ap (λ qs. p ∷ qs) (back ps)

pub first-paths : (files : List (List ℕ)) (numbers : List FileNo) (paths : List (List ℕ)) (count : ℕ)
    → AreFiles files numbers paths → map (path_at files) (take count numbers) ≡ take count paths
first-paths files numbers paths count are =
    sym (take-map (path_at files) count numbers) ∙ ap (take count) (paths-are files numbers paths are)

are-known : (files : List (List ℕ)) (numbers : List FileNo) (paths : List (List ℕ))
    → AreFiles files numbers paths → AllByRecursion (λ (f : FileNo). f.0 < length files) numbers
are-known files [] paths are = tt
are-known files (n ∷ ns) [] are = absurd (omega (arith, ap length are))
are-known files (n ∷ ns) (p ∷ ps) are =
    (slice_get_within files n.0 p (first-same are), are-known files ns ps (rest-same are))
  where
    first : List (Option (List ℕ)) → Option (List ℕ)
    first [] = None
    first (o ∷ os) = o

    rest : List (Option (List ℕ)) → List (Option (List ℕ))
    rest [] = []
    rest (o ∷ os) = os

    first-same : {o r : Option (List ℕ)} {os rs : List (Option (List ℕ))} → o ∷ os ≡ r ∷ rs → o ≡ r
    first-same h = ap first h

    rest-same : {o r : Option (List ℕ)} {os rs : List (Option (List ℕ))} → o ∷ os ≡ r ∷ rs → os ≡ rs
    rest-same h = ap rest h

-- the first files are known
pub first-known : (files : List (List ℕ)) (numbers : List FileNo) (paths : List (List ℕ)) (count : ℕ)
    → AreFiles files numbers paths → All (λ (f : FileNo). f.0 < length files) (take count numbers)
first-known files numbers paths count are =
    All-take (λ (f : FileNo). f.0 < length files) count numbers
    (All-from_recursion (λ (f : FileNo). f.0 < length files) numbers (are-known files numbers paths are))

-- there are as many files as paths
pub as-many : (files : List (List ℕ)) (numbers : List FileNo) (paths : List (List ℕ))
    → AreFiles files numbers paths → length numbers ≡ length paths
as-many files numbers paths are = sym (length-map numbers (λ (f : FileNo). slice_get files f.0))
    ∙ ap length are ∙ length-map paths Some

-- the names of an edge by the numbers of its files
pub names-by-numbers : (files held : List (List ℕ)) (ins outs : List FileNo) (inputs outputs : List (List ℕ))
    (i o : ℕ) (n : LateNames)
    → held ≡ files → AreFiles files ins inputs → AreFiles files outs outputs
    → record n { inputs = map (path_at held) (take i ins); outputs = map (path_at held) (take o outs) }
    ≡ record n { inputs = take i inputs; outputs = take o outputs }
names-by-numbers files held ins outs inputs outputs i o n held_is are_inputs are_outputs =
    ap (λ (fs : List (List ℕ)). record n {
      inputs = map (path_at fs) (take i ins);
      outputs =
          map (path_at fs) (take o outs);
    }) held_is
    ∙ ap (λ (ps : List (List ℕ)). record n { inputs = ps; outputs = map (path_at files) (take o outs) })
    (first-paths files ins inputs i are_inputs)
    ∙ ap (λ (ps : List (List ℕ)). record n { inputs = take i inputs; outputs = ps })
    (first-paths files outs outputs o are_outputs)

-- the dependencies of the names of the edge that is being read
pub sees-late : (edge : LateEdge) (held : DeclarationsModel) (scope : ℕ) (entries : List ReadStatement)
    (around : List ℕ) (read paths : EdgePaths) (block : Block) (rule : RuleModel)
    → edge.declarations.now ≡ held → edge.scope.0 ≡ scope
    → ((file : Values) → late_names edge file ≡ names_read read block rule file) → read ≡ paths
    → DeclaredBy held entries → IsScope (parent_at held.scopes) scope (scope ∷ around)
    → SeesLate edge entries (names_read paths block rule (value_after entries (scope ∷ around)))
sees-late edge held scope entries around read paths block rule held_is scope_is names read_is by within =
    record {
      around = around;
      declared = subst (λ h. DeclaredBy h entries) (sym held_is) by;
      within = subst (λ h. IsScope (parent_at h.scopes) edge.scope.0 (edge.scope.0 ∷ around)) (sym held_is)
          (subst (λ s. IsScope (parent_at held.scopes) s (s ∷ around)) (sym scope_is) within);
      are = sym (names (value_after entries (edge.scope.0 ∷ around))
          ∙ ap (λ p. names_read p block rule (value_after entries (edge.scope.0 ∷ around))) read_is
          ∙ ap (λ s. names_read paths block rule (value_after entries (s ∷ around))) scope_is);
    }
