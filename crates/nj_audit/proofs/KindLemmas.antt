-- Findings by their kinds, and words that name kinds.
use Rattle.std.proofs.Common.{◌≡◌, ◌++◌, ◌||◌, Bool, true, false, cond, Option, Some, None, option_map, ℕ}
use Rattle.std.proofs.Common.{List, [], ◌∷◌, map, refl, sym, ap, ◌∙◌, append-nil, append_assoc}
use Rattle.std.specs.Prelude.{find, option_and_then, slice_get, length}
use Rattle.std.specs.List.{cons_option, filter, filter_map, flat_map, list_any}
use Rattle.std.proofs.lemmas.List.Elements.{filter-append}
use Rattle.nj_faults.specs.declared.fault.Place.{Place}
use Rattle.nj_scope.specs.ReadingList.{ReadStatement}
use Rattle.nj_graph.specs.Edges.{inputs_of, is_among, outputs_of}
use Rattle.nj_graph.specs.Graph.{GraphModel, files_of}
use Rattle.nj_graph.specs.Origins.{PoolDetail, rule_place_at}
use Rattle.nj_graph.specs.Undeclared.{InputOfEdge}
use Rattle.nj_statements.specs.EdgeList.{block_names_at, edges_read}
use Rattle.nj_audit.specs.declared.kinds.Kind.{Kind}
use Rattle.nj_audit.specs.declared.kinds.Kind.TheVariants.{UnusedOutput, MissingSource, UnusedRule}
use Rattle.nj_audit.specs.declared.kinds.Kind.TheVariants.{UnusedPool, UnusedVariable, RepeatedCommand}
use Rattle.nj_audit.specs.declared.kinds.Kind.TheVariants.{DepfileWithoutDeps, RepeatedInput, UndeclaredInput}
use Rattle.nj_audit.specs.declared.kinds.Kinds.{Kinds}
use Rattle.nj_audit.specs.Findings.{FindingModel, edge_finding}
use Rattle.nj_audit.specs.Kinds.{AskFor, Selection, all_kinds, contains, is_asked_for}
use Rattle.nj_audit.specs.Inside.ByKind.{asked_of, findings_of}
use Rattle.nj_audit.specs.LoggedInputs.{AreUndeclaredFindings, finding_of_input}
use Rattle.nj_audit.specs.UnorderedFiles.{AreNamedUnordered}
use Rattle.nj_audit.specs.UnorderedFiles.AreNamedUnordered.{no_edges, one_more}
use Rattle.nj_audit.proofs.ListLemmas.{map-append}
use Rattle.nj_audit.specs.Audit.{all_findings, findings_asked_for, edge_numbers, numbers, first_output_at}
use Rattle.nj_audit.specs.Audit.{paths_at, path_of, unused_outputs, unused_outputs_at, is_unused_output}
use Rattle.nj_audit.specs.Audit.{missing_source, missing_sources, user_of_missing, is_used_rule}
use Rattle.nj_audit.specs.Audit.{rule_of_number, unused_rule, unused_rules, pools_of_edges, unused_pool}
use Rattle.nj_audit.specs.Audit.{unused_pools, is_unused_variable, unused_variables, unused_variables_at}
use Rattle.nj_audit.specs.Audit.{repeats_command, repeated_commands, has_depfile_without_deps}
use Rattle.nj_audit.specs.Audit.{depfiles_without_deps, repeated_inputs, repeated_inputs_at, repeated_paths}

-- of findings that are all of a kind, a filter by kinds keeps all or none
abbrev pub AreOf : Kind → List FindingModel → Type 0
AreOf kind found = (asked : Kind → Bool)
    → filter (λ (f : FindingModel). asked f.kind) found ≡ cond (asked kind) found []

nothing : (b : Bool) → ◌≡◌ {A = List FindingModel} [] (cond b [] [])
nothing true = refl
nothing false = refl

kept : (b : Bool) (f : FindingModel) (found rest : List FindingModel) → rest ≡ cond b found []
    → cond b (f ∷ rest) rest ≡ cond b (f ∷ found) []
kept true f found rest is = ap (λ r. f ∷ r) is
kept false f found rest is = is

both : (b : Bool) (xs ys : List FindingModel) → cond b xs [] ++ cond b ys [] ≡ cond b (xs ++ ys) []
both true xs ys = refl
both false xs ys = refl

of-more : (kind : Kind) (f : FindingModel) (found : List FindingModel) → f.kind ≡ kind → AreOf kind found
    → AreOf kind (f ∷ found)
of-more kind f found is are asked =
    let rest = filter (λ (x : FindingModel). asked x.kind) found in
    ap (λ k. cond (asked k) (f ∷ rest) rest) is ∙ kept (asked kind) f found rest (are asked)

part : (p : FindingModel → Bool) (xs ys keptxs keptys : List FindingModel) → filter p xs ≡ keptxs
    → filter p ys ≡ keptys → filter p (xs ++ ys) ≡ keptxs ++ keptys
part p xs ys keptxs keptys x y = filter-append p xs ys ∙ ap (λ t. t ++ filter p ys) x
    ∙ ap (λ t. keptxs ++ t) y

of-append : (kind : Kind) (xs ys : List FindingModel) → AreOf kind xs → AreOf kind ys → AreOf kind (xs ++ ys)
of-append kind xs ys are too asked =
    part (λ (f : FindingModel). asked f.kind) xs ys (cond (asked kind) xs []) (cond (asked kind) ys [])
    (are asked) (too asked) ∙ both (asked kind) xs ys

module _ {X : Type 0} (kind : Kind) where
  of-map : (f : X → FindingModel) → ((x : X) → (f x).kind ≡ kind) → (xs : List X) → AreOf kind (map f xs)
  of-map f is [] asked = nothing (asked kind)
  of-map f is (x ∷ xs) asked = of-more kind (f x) (map f xs) (is x) (of-map f is xs) asked

  of-flat-map : (h : X → List FindingModel) → ((x : X) → AreOf kind (h x)) → (xs : List X)
      → AreOf kind (flat_map h xs)
  of-flat-map h are [] asked = nothing (asked kind)
  of-flat-map h are (x ∷ xs) asked = of-append kind (h x) (flat_map h xs) (are x) (of-flat-map h are xs) asked

-- a finding, if any, is of a kind
abbrev IsOf : Kind → Option FindingModel → Type 0
IsOf kind None = Unit {0}
IsOf kind (Some f) = f.kind ≡ kind

of-option : (kind : Kind) (o : Option FindingModel) (found : List FindingModel) → IsOf kind o
    → AreOf kind found → AreOf kind (cons_option o found)
of-option kind None found is are = are
of-option kind (Some f) found is are = of-more kind f found is are

module _ {X : Type 0} (kind : Kind) where
  of-filter-map : (h : X → Option FindingModel) → ((x : X) → IsOf kind (h x)) → (xs : List X)
      → AreOf kind (filter_map h xs)
  of-filter-map h are [] asked = nothing (asked kind)
  of-filter-map h are (x ∷ xs) asked = of-option kind (h x) (filter_map h xs) (are x) (of-filter-map h are xs)
      asked

  some-mapped : (f : X → FindingModel) → ((x : X) → (f x).kind ≡ kind) → (o : Option X)
      → IsOf kind (option_map f o)
  some-mapped f is None = tt
  some-mapped f is (Some x) = is x

  and-then : (h : X → Option FindingModel) → ((x : X) → IsOf kind (h x)) → (o : Option X)
      → IsOf kind (option_and_then h o)
  and-then h are None = tt
  and-then h are (Some x) = are x

none-or : (kind : Kind) (b : Bool) (o : Option FindingModel) → IsOf kind o → IsOf kind (cond b None o)
none-or kind true o is = tt
none-or kind false o is = is

-- ---- the findings of each kind are of it

module _ (g : GraphModel) where
  of-outputs : AreOf UnusedOutput (unused_outputs g)
  of-outputs =
      of-flat-map UnusedOutput (unused_outputs_at g)
      (λ edge. of-map UnusedOutput (edge_finding g edge UnusedOutput) (λ path. refl)
      (filter (is_unused_output g) (outputs_of (paths_at g edge))))
      (edge_numbers g)

  of-sources : (missing serving : List Bool) → AreOf MissingSource (missing_sources g missing serving)
  of-sources missing serving =
      of-filter-map MissingSource (missing_source g missing serving)
      (λ file. some-mapped MissingSource (λ edge. edge_finding g edge MissingSource (path_of g file))
      (λ edge. refl) (user_of_missing g missing serving file))
      (numbers (length (files_of g)))

  abbrev unused-rule : ℕ → Place → FindingModel
  unused-rule rule place = record { place = place; kind = UnusedRule; name = (rule_of_number g rule).name }

  of-rules : AreOf UnusedRule (unused_rules g)
  of-rules =
      of-filter-map UnusedRule (unused_rule g)
      (λ rule. none-or UnusedRule (is_used_rule g rule)
      (option_map (unused-rule rule) (rule_place_at g.origins.rules rule))
      (some-mapped UnusedRule (unused-rule rule) (λ place. refl) (rule_place_at g.origins.rules rule)))
      (numbers (length g.declarations.rules))

  of-inputs : AreOf RepeatedInput (repeated_inputs g)
  of-inputs =
      of-flat-map RepeatedInput (repeated_inputs_at g)
      (λ edge. of-map RepeatedInput (edge_finding g edge RepeatedInput) (λ path. refl)
      (repeated_paths (inputs_of (paths_at g edge))))
      (edge_numbers g)

module _ (g : GraphModel) (entries : List ReadStatement) where
  abbrev found-pool : List ℕ → PoolDetail → FindingModel
  found-pool name p = record { place = p.place; kind = UnusedPool; name = name }

  abbrev pool-named : ℕ → List ℕ → Option FindingModel
  pool-named pool name = cond (is_among (pools_of_edges g entries) name) None
      (option_map (found-pool name) (slice_get g.origins.pools pool))

  of-pools : AreOf UnusedPool (unused_pools g entries)
  of-pools =
      of-filter-map UnusedPool (unused_pool g entries)
      (λ pool. and-then UnusedPool (pool-named pool)
      (λ name. none-or UnusedPool (is_among (pools_of_edges g entries) name)
      (option_map (found-pool name) (slice_get g.origins.pools pool))
      (some-mapped UnusedPool (found-pool name) (λ p. refl) (slice_get g.origins.pools pool)))
      (slice_get g.declarations.pools pool))
      (numbers (length g.declarations.pools))

  of-variables : AreOf UnusedVariable (unused_variables g entries)
  of-variables =
      of-flat-map UnusedVariable (unused_variables_at g entries)
      (λ edge. of-map UnusedVariable (edge_finding g edge UnusedVariable) (λ name. refl)
      (filter (is_unused_variable g edge) (block_names_at (edges_read entries) edge)))
      (edge_numbers g)

  of-commands : AreOf RepeatedCommand (repeated_commands g entries)
  of-commands =
      of-map RepeatedCommand (λ edge. edge_finding g edge RepeatedCommand (first_output_at g edge))
      (λ edge. refl)
      (filter (repeats_command g entries) (edge_numbers g))

  of-depfiles : AreOf DepfileWithoutDeps (depfiles_without_deps g entries)
  of-depfiles =
      of-map DepfileWithoutDeps (λ edge. edge_finding g edge DepfileWithoutDeps (first_output_at g edge))
      (λ edge. refl)
      (filter (has_depfile_without_deps entries) (edge_numbers g))

pub of-none : AreOf UndeclaredInput []
of-none asked = nothing (asked UndeclaredInput)

pub of-unordered : (g : GraphModel) (entries : List ReadStatement) (folder : List ℕ) {edges : List ℕ}
    {found : List FindingModel}
    → AreNamedUnordered g entries folder edges found → AreOf UndeclaredInput found
of-unordered g entries folder no_edges asked = of-none asked
of-unordered g entries folder (one_more {found = found} {edge = edge} {paths = paths} before of_edge) asked =
    of-append UndeclaredInput found (map (edge_finding g edge UndeclaredInput) paths)
    (of-unordered g entries folder before)
    (of-map UndeclaredInput (edge_finding g edge UndeclaredInput) (λ path. refl) paths) asked

pub of-undeclared : (g : GraphModel) (entries : List ReadStatement) (folder : List ℕ)
    (logged : List InputOfEdge) (found : List FindingModel)
    → AreUndeclaredFindings g entries folder logged found → AreOf UndeclaredInput found
of-undeclared g entries folder logged found are asked =
    ap (filter (λ (f : FindingModel). asked f.kind)) are.finds
    ∙ of-append UndeclaredInput are.named (map (finding_of_input g) are.others)
    (of-unordered g entries folder are.are_named)
    (of-map UndeclaredInput (finding_of_input g) (λ input. refl) are.others) asked
    ∙ ap (λ (t : List FindingModel). cond (asked UndeclaredInput) t []) (sym are.finds)

-- ---- all of them

grouped : (a b c d e f g h i : List FindingModel)
    → a ++ b ++ c ++ d ++ e ++ f ++ g ++ h ++ i
    ≡ a ++ (b ++ (c ++ (d ++ (e ++ (f ++ (g ++ (h ++ (i ++ []))))))))
grouped a b c d e f g h i = simp (append_assoc, append-nil)

nine : (asked : Kind → Bool) (of : Kind → List FindingModel) → ((kind : Kind) → AreOf kind (of kind))
    → flat_map (λ kind. cond (asked kind) (of kind) []) all_kinds
    ≡ filter (λ (f : FindingModel). asked f.kind)
    (of UnusedOutput ++ of MissingSource ++ of UnusedRule ++ of UnusedPool ++ of UnusedVariable
    ++ of RepeatedCommand
    ++ of DepfileWithoutDeps ++ of RepeatedInput ++ of UndeclaredInput)
nine asked of are =
    let p : FindingModel → Bool = λ f. asked f.kind in
    let k : Kind → List FindingModel = λ kind. cond (asked kind) (of kind) [] in
    let a = of UnusedOutput in
    let b = of MissingSource in
    let c = of UnusedRule in
    let d = of UnusedPool in
    let e = of UnusedVariable in
    let f = of RepeatedCommand in
    let g = of DepfileWithoutDeps in
    let h = of RepeatedInput in
    let i = of UndeclaredInput in
    let two = part p a b (k UnusedOutput) (k MissingSource) (are UnusedOutput asked) (are MissingSource asked)
    in
    let three = part p (a ++ b) c (k UnusedOutput ++ k MissingSource) (k UnusedRule) two
    (are UnusedRule asked) in
    let four = part p (a ++ b ++ c) d (k UnusedOutput ++ k MissingSource ++ k UnusedRule) (k UnusedPool) three
    (are UnusedPool asked) in
    let five =
    part p (a ++ b ++ c ++ d) e (k UnusedOutput ++ k MissingSource ++ k UnusedRule ++ k UnusedPool)
    (k UnusedVariable) four (are UnusedVariable asked) in
    let six =
    part p (a ++ b ++ c ++ d ++ e) f (k UnusedOutput ++ k MissingSource ++ k UnusedRule ++ k UnusedPool
    ++ k UnusedVariable) (k RepeatedCommand) five
    (are RepeatedCommand asked) in
    let seven =
    part p (a ++ b ++ c ++ d ++ e ++ f) g (k UnusedOutput ++ k MissingSource ++ k UnusedRule ++ k UnusedPool
    ++ k UnusedVariable ++ k RepeatedCommand)
    (k DepfileWithoutDeps) six (are DepfileWithoutDeps asked) in
    let eight =
    part p (a ++ b ++ c ++ d ++ e ++ f ++ g) h
    (k UnusedOutput ++ k MissingSource ++ k UnusedRule ++ k UnusedPool ++ k UnusedVariable
    ++ k RepeatedCommand ++ k DepfileWithoutDeps)
    (k RepeatedInput) seven (are RepeatedInput asked) in
    let all =
    part p (a ++ b ++ c ++ d ++ e ++ f ++ g ++ h) i
    (k UnusedOutput ++ k MissingSource ++ k UnusedRule ++ k UnusedPool ++ k UnusedVariable
    ++ k RepeatedCommand ++ k DepfileWithoutDeps ++ k RepeatedInput)
    (k UndeclaredInput) eight (are UndeclaredInput asked) in
    sym (all ∙ grouped (k UnusedOutput) (k MissingSource) (k UnusedRule) (k UnusedPool) (k UnusedVariable)
    (k RepeatedCommand) (k DepfileWithoutDeps) (k RepeatedInput)
    (k UndeclaredInput))

module _ (g : GraphModel) (entries : List ReadStatement) (missing serving : List Bool)
    (undeclared : List FindingModel) (are : AreOf UndeclaredInput undeclared) where
  of-kind : (kind : Kind) → AreOf kind (findings_of g entries missing serving undeclared kind)
  of-kind UnusedOutput = of-outputs g
  of-kind MissingSource = of-sources g missing serving
  of-kind UnusedRule = of-rules g
  of-kind UnusedPool = of-pools g entries
  of-kind UnusedVariable = of-variables g entries
  of-kind RepeatedCommand = of-commands g entries
  of-kind DepfileWithoutDeps = of-depfiles g entries
  of-kind RepeatedInput = of-inputs g
  of-kind UndeclaredInput = are

  -- kind by kind, the requested findings are a filter of all findings
  pub asked-law : (kinds : Kinds)
      → flat_map (asked_of kinds (findings_of g entries missing serving undeclared)) all_kinds
      ≡ findings_asked_for kinds (all_findings g entries missing serving undeclared)
  asked-law kinds = nine (contains kinds) (findings_of g entries missing serving undeclared) of-kind

-- ---- words

pub any-mapped : {X Y : Type 0} (f : X → Y) (p : Y → Bool) (xs : List X)
    → list_any (λ x. p (f x)) xs ≡ list_any p (map f xs)
any-mapped f p [] = refl
any-mapped f p (x ∷ xs) = ap (λ b. p (f x) || b) (any-mapped f p xs)

found-mapped : {X Y : Type 0} (f : X → Y) (b : Bool) (x : X) (o : Option X) (rest : Option Y)
    → option_map f o ≡ rest → option_map f (cond b (Some x) o) ≡ cond b (Some (f x)) rest
found-mapped f true x o rest is = refl
found-mapped f false x o rest is = is

pub find-mapped : {X Y : Type 0} (f : X → Y) (p : Y → Bool) (xs : List X)
    → option_map f (find (λ x. p (f x)) xs) ≡ find p (map f xs)
find-mapped f p [] = refl
find-mapped f p (x ∷ xs) = found-mapped f (p (f x)) x (find (λ x. p (f x)) xs) (find p (map f xs))
    (find-mapped f p xs)

plain-option : {X : Type 0} (o : Option X) → option_map (λ x. x) o ≡ o
plain-option None = refl
plain-option (Some x) = refl

-- the first item of two lists that passes by its value
pub find-in-both : {X Y : Type 0} (f : X → Y) (p : Y → Bool) (o : Option X) (xs ys : List X)
    → option_map (λ x. x) o ≡ find (λ x. p (f x)) (xs ++ ys)
    → option_map f o ≡ find p (map f xs ++ map f ys)
find-in-both f p o xs ys is =
    ap (option_map f) (sym (plain-option o) ∙ is) ∙ find-mapped f p (xs ++ ys)
    ∙ ap (find p) (map-append f xs ys)

-- flags that each match the selection
pub ask-for : (kinds : Kinds) (selection : Selection)
    → kinds.unused_output ≡ is_asked_for selection UnusedOutput
    → kinds.missing_source ≡ is_asked_for selection MissingSource
    → kinds.unused_rule ≡ is_asked_for selection UnusedRule
    → kinds.unused_pool ≡ is_asked_for selection UnusedPool
    → kinds.unused_variable ≡ is_asked_for selection UnusedVariable
    → kinds.repeated_command ≡ is_asked_for selection RepeatedCommand
    → kinds.depfile_without_deps ≡ is_asked_for selection DepfileWithoutDeps
    → kinds.repeated_input ≡ is_asked_for selection RepeatedInput
    → kinds.undeclared_input ≡ is_asked_for selection UndeclaredInput
    → AskFor kinds selection
ask-for kinds selection a b c d e f g h i UnusedOutput = a
ask-for kinds selection a b c d e f g h i MissingSource = b
ask-for kinds selection a b c d e f g h i UnusedRule = c
ask-for kinds selection a b c d e f g h i UnusedPool = d
ask-for kinds selection a b c d e f g h i UnusedVariable = e
ask-for kinds selection a b c d e f g h i RepeatedCommand = f
ask-for kinds selection a b c d e f g h i DepfileWithoutDeps = g
ask-for kinds selection a b c d e f g h i RepeatedInput = h
ask-for kinds selection a b c d e f g h i UndeclaredInput = i
