-- Two audits of one graph.
use Rattle.std.proofs.Common.{◌≡◌, ℕ, Bool, true, false, Option, Some, None, Result, Ok, Err, IfOk, IfErr}
use Rattle.std.proofs.Common.{OnOk, List, [], ◌∷◌, ◌++◌, map, length, reverse, refl, sym, ap, subst, ◌∙◌}
use Rattle.std.proofs.Common.{arith}
use Rattle.std.specs.Prelude.{slice_index_or, find, cond, not, ◌&&◌, is_some, option_map}
use Rattle.std.specs.Borrow.{Bor}
use Rattle.std.specs.List.{filter, filter_map}
use Rattle.std.proofs.Math.Path.{fun_ext}
use Rattle.std.proofs.lemmas.List.{length_push, reverse-append, reverse-reverse}
use Rattle.nj_scope.specs.ReadingList.{ReadStatement}
use Rattle.nj_graph.specs.Edges.{EdgePaths, is_among, maker_of, users_of}
use Rattle.nj_graph.specs.Graph.{GraphModel, edges_of, files_of}
use Rattle.nj_graph.specs.Undeclared.{InputOfEdge}
use Rattle.nj_audit.specs.Audit.{depfiles_without_deps, edge_numbers, is_set}
use Rattle.nj_audit.specs.Audit.{missing_sources, numbers, path_of}
use Rattle.nj_audit.specs.Audit.{repeated_commands, repeated_inputs, unused_outputs, unused_pools}
use Rattle.nj_audit.specs.Audit.{unused_rules, unused_variables}
use Rattle.nj_audit.specs.Audits.{IsAudit}
use Rattle.nj_audit.specs.Findings.{FindingModel, edge_finding}
use Rattle.nj_audit.specs.Kinds.{AskFor, Selection, contains}
use Rattle.nj_audit.specs.LoggedInputs.{AreFoundIf, finding_of_input}
use Rattle.nj_audit.specs.Serving.{AreServing}
use Rattle.nj_audit.specs.UnorderedFiles.{AreUnordered, AreNamedUnordered, IsUnordered, files_named}
use Rattle.nj_audit.specs.UnorderedFiles.AreUnordered.{none, unordered, again, ordered}
use Rattle.nj_audit.specs.UnorderedFiles.AreNamedUnordered.{no_edges, one_more}
use Rattle.nj_audit.specs.declared.kinds.Kind.{Kind}
use Rattle.nj_audit.specs.declared.kinds.Kind.TheVariants.{MissingSource, UndeclaredInput}
use Rattle.nj_audit.specs.declared.kinds.Kinds.{Kinds}
use Rattle.nj_agreement.proofs.FlagAnswers.{same-flag}
use Rattle.nj_agreement.specs.Agreement.{AgreeBoth, AgreeIfOk}
use Rattle.nj_one_answer.specs.AuditKinds.{SameKinds}
use Rattle.nj_agreement.proofs.UndeclaredAnswers.{those-agree}

-- ---- kinds

pub kinds-agree : (selection : Selection) (unknown : Option (List ℕ))
    (a b : Result Kinds (Bor (List ℕ)))
    → IfOk a (λ kinds. AskFor kinds selection) → OnOk a (unknown ≡ None)
    → IfErr a (λ word. unknown ≡ Some word.now)
    → IfOk b (λ kinds. AskFor kinds selection) → OnOk b (unknown ≡ None)
    → IfErr b (λ word. unknown ≡ Some word.now)
    → AgreeBoth SameKinds (λ one other. one.now ≡ other.now) a b
kinds-agree selection unknown (Ok a) (Ok b) is _ _ also _ _ = λ kind. is kind ∙ sym (also kind)
kinds-agree selection unknown (Ok a) (Err f) _ known _ _ _ bad = absurd (let e = sym known ∙ bad in cc)
kinds-agree selection unknown (Err e) (Ok b) _ _ bad _ known _ = absurd (let f = sym known ∙ bad in cc)
kinds-agree selection unknown (Err e) (Err f) _ _ bad _ _ bad2 =
    let words : Some e.now ≡ Some f.now = sym bad ∙ bad2 in let same : e.now ≡ f.now = cc in same

-- ---- edges that serve a command

abbrev flags : List Bool → ℕ → Bool
flags given e = slice_index_or given e false

pub serving-agree : (edges : List EdgePaths) (one other : List Bool) → AreServing edges one
    → AreServing edges other
    → flags one ≡ flags other
serving-agree edges one other is also = fun_ext (λ e. same-flag (slice_index_or one e false)
    (slice_index_or other e false) (λ h. (also e).1 ((is e).0 h)) (λ h. (is e).1 ((also e).0 h)))

-- ---- files that commands name

pub last-same : {X : Type 0} (xs ys : List X) (x y : X) → xs ++ x ∷ [] ≡ ys ++ y ∷ [] → (xs ≡ ys) × (x ≡ y)
last-same xs ys x y is =
    let turned : x ∷ reverse xs ≡ y ∷ reverse ys =
    sym (reverse-append xs (x ∷ [])) ∙ ap reverse is ∙ reverse-append ys (y ∷ []) in
    let front : reverse xs ≡ reverse ys = cc in
    (sym (reverse-reverse xs) ∙ ap reverse front ∙ reverse-reverse ys, cc)

pub last-apart : {X : Type 0} (xs : List X) (x : X) → [] ≡ xs ++ x ∷ [] → ⊥
last-apart xs x is = absurd (omega (arith, ap length is, length_push xs x))

module _ (g : GraphModel) (edge : ℕ) where
  -- whether one more file is unordered
  data Step (paths : List (List ℕ)) (file : ℕ) : List (List ℕ) → Type 0 where
    new : IsUnordered g edge (path_of g file) → is_among paths (path_of g file) ≡ false
        → Step paths file (paths ++ path_of g file ∷ [])
    known : is_among paths (path_of g file) ≡ true → Step paths file paths
    differs : ¬ IsUnordered g edge (path_of g file) → Step paths file paths

  step-agrees : (paths : List (List ℕ)) (file : ℕ) (one more : List (List ℕ)) → Step paths file one
      → Step paths file more → one ≡ more
  step-agrees paths file _ _ (new is unseen) (new is2 unseen2) = refl
  step-agrees paths file _ _ (new is unseen) (known among) = absurd (let e = sym unseen ∙ among in cc)
  step-agrees paths file _ _ (new is unseen) (differs apart) = absurd (apart is)
  step-agrees paths file _ _ (known among) (new is unseen) = absurd (let e = sym unseen ∙ among in cc)
  step-agrees paths file _ _ (known among) (known among2) = refl
  step-agrees paths file _ _ (known among) (differs apart) = refl
  step-agrees paths file _ _ (differs apart) (new is unseen) = absurd (apart is)
  step-agrees paths file _ _ (differs apart) (known among) = refl
  step-agrees paths file _ _ (differs apart) (differs apart2) = refl

  none-last : (files : List ℕ) (paths : List (List ℕ)) → AreUnordered g edge files paths → [] ≡ files
      → paths ≡ []
  none-last _ _ none same = refl
  none-last _ _ (unordered {files = fs} file are is unseen) same = absurd (last-apart fs file same)
  none-last _ _ (again {files = fs} file are is) same = absurd (last-apart fs file same)
  none-last _ _ (ordered {files = fs} file are apart) same = absurd (last-apart fs file same)

  -- without the last file, and the last file
  last-of : (fs : List ℕ) (file : ℕ) (files : List ℕ) (paths : List (List ℕ))
      → AreUnordered g edge files paths
      → fs ++ file ∷ [] ≡ files
      → (before : List (List ℕ)) × AreUnordered g edge fs before × Step before file paths
  last-of fs file _ _ none same = absurd (last-apart fs file (sym same))
  last-of fs file _ _ (unordered {files = gs} {paths = ps} file2 are is unseen) same =
      let both = last-same gs fs file2 file (sym same) in (
        ps,
        subst (λ ns. AreUnordered g edge ns ps) both.0 are,
        subst (λ n. Step ps n (ps ++ path_of g file2 ∷ [])) both.1 (new is unseen),
      )
  last-of fs file _ _ (again {files = gs} {paths = ps} file2 are is) same =
      let both = last-same gs fs file2 file (sym same) in
      (ps, subst (λ ns. AreUnordered g edge ns ps) both.0 are, subst (λ n. Step ps n ps) both.1 (known is))
  last-of fs file _ _ (ordered {files = gs} {paths = ps} file2 are apart) same =
      let both = last-same gs fs file2 file (sym same) in (
        ps,
        subst (λ ns. AreUnordered g edge ns ps) both.0 are,
        subst (λ n. Step ps n ps) both.1 (differs apart),
      )

  unordered-agree : (files files2 : List ℕ) (paths paths2 : List (List ℕ)) → files ≡ files2
      → AreUnordered g edge files paths → AreUnordered g edge files2 paths2 → paths ≡ paths2
  unordered-agree _ files2 _ paths2 same none also = sym (none-last files2 paths2 also same)
  unordered-agree _ files2 _ paths2 same (unordered {files = fs} {paths = ps} file are is unseen) also =
      let rest = last-of fs file files2 paths2 also same in
      let before = unordered-agree fs fs ps rest.0 refl are rest.1 in
      step-agrees ps file (ps ++ path_of g file ∷ []) paths2 (new is unseen)
      (subst (λ b. Step b file paths2) (sym before) rest.2)
  unordered-agree _ files2 _ paths2 same (again {files = fs} {paths = ps} file are is) also =
      let rest = last-of fs file files2 paths2 also same in
      let before = unordered-agree fs fs ps rest.0 refl are rest.1 in
      step-agrees ps file ps paths2 (known is) (subst (λ b. Step b file paths2) (sym before) rest.2)
  unordered-agree _ files2 _ paths2 same (ordered {files = fs} {paths = ps} file are apart) also =
      let rest = last-of fs file files2 paths2 also same in
      let before = unordered-agree fs fs ps rest.0 refl are rest.1 in
      step-agrees ps file ps paths2 (differs apart) (subst (λ b. Step b file paths2) (sym before) rest.2)

module _ (g : GraphModel) (entries : List ReadStatement) (folder : List ℕ) where
  abbrev at_edge : (edge : ℕ) → (paths : List (List ℕ)) → List FindingModel
  at_edge edge paths = map (edge_finding g edge UndeclaredInput) paths

  none-named : (edges : List ℕ) (found : List FindingModel) → AreNamedUnordered g entries folder edges found
      → [] ≡ edges → found ≡ []
  none-named _ _ no_edges same = refl
  none-named _ _ (one_more {edges = es} {edge = e} are more) same = absurd (last-apart es e same)

  last-named : (es : List ℕ) (e : ℕ) (edges : List ℕ) (found : List FindingModel)
      → AreNamedUnordered g entries folder edges found → es ++ e ∷ [] ≡ edges
      → (before : List FindingModel) × (paths : List (List ℕ)) × AreNamedUnordered g entries folder es before
      × AreUnordered g e (files_named g entries folder e) paths × (found ≡ before ++ at_edge e paths)
  last-named es e _ _ no_edges same = absurd (last-apart es e (sym same))
  last-named es e _ _ (one_more {edges = fs} {found = before} {edge = f} {paths = ps} are more) same =
      let both = last-same fs es f e (sym same) in (
        before,
        ps,
        subst (λ ns. AreNamedUnordered g entries folder ns before) both.0 are,
        subst (λ n. AreUnordered g n (files_named g entries folder n) ps) both.1 more,
        ap (λ n. before ++ at_edge n ps) both.1,
      )

  named-agree : (edges edges2 : List ℕ) (found found2 : List FindingModel) → edges ≡ edges2
      → AreNamedUnordered g entries folder edges found → AreNamedUnordered g entries folder edges2 found2
      → found ≡ found2
  named-agree _ edges2 _ found2 same no_edges also = sym (none-named edges2 found2 also same)
  named-agree _ edges2 _ found2 same (one_more {edges = es} {found = before} {edge = e} {paths = ps} are more)
      also =
      let rest = last-named es e edges2 found2 also same in
      let front = named-agree es es before rest.0 refl are rest.2 in
      let paths = unordered-agree g e (files_named g entries folder e) (files_named g entries folder e) ps
      rest.1 refl
      more rest.3 in
      ap (λ fs. fs ++ at_edge e ps) front ∙ ap (λ qs. rest.0 ++ at_edge e qs) paths ∙ sym rest.4

  undeclared-agree : (logged : List InputOfEdge) (asked : Bool) (one other : List FindingModel)
      → AreFoundIf asked g entries folder logged one → AreFoundIf asked g entries folder logged other
      → one ≡ other
  undeclared-agree logged false one other is also = is ∙ sym also
  undeclared-agree logged true one other is also =
      is.finds
      ∙ ap (λ fs. fs ++ map (finding_of_input g) is.others)
      (named-agree (edge_numbers g) (edge_numbers g) is.named also.named refl is.are_named also.are_named)
      ∙ ap (λ is. also.named ++ map (finding_of_input g) is)
      (those-agree logged is.others also.others is.are_others also.are_others)
      ∙ sym also.finds

-- ---- all findings

pub sources-agree : (g : GraphModel) (missing one other : List Bool)
    → flags one ≡ flags other
    → missing_sources g missing one ≡ missing_sources g missing other
sources-agree g missing one other same =
    ap (λ (s : ℕ → Bool). filter_map (λ file. option_map
    (λ edge. edge_finding g edge MissingSource (path_of g file))
    (cond (is_set missing file && not (is_some (maker_of (edges_of g) (path_of g file))))
    (find s (users_of (edges_of g) (path_of g file))) None)) (numbers (length (files_of g)))) same

-- by the same kinds
pub findings-agree : (g : GraphModel) (entries : List ReadStatement) (missing : List Bool) (folder : List ℕ)
    (logged : List InputOfEdge) (kinds kinds2 : Kinds) → contains kinds ≡ contains kinds2
    → (one other : List FindingModel) → IsAudit g entries missing folder logged kinds one
    → IsAudit g entries missing folder logged kinds2 other → one ≡ other
findings-agree g entries missing folder logged kinds kinds2 same one other is also =
    let all : (Kind → Bool) → List FindingModel → List FindingModel → List FindingModel =
    λ test sources undeclared.
    filter (λ f. test f.kind) (unused_outputs g ++ sources ++ unused_rules g ++ unused_pools g entries
    ++ unused_variables g entries ++ repeated_commands g entries ++ depfiles_without_deps g entries
    ++ repeated_inputs g ++ undeclared) in
    is.finds
    ∙ ap (λ test. all test (missing_sources g missing is.serving) is.undeclared) same
    ∙ ap (λ s. all (contains kinds2) s is.undeclared) (sources-agree g missing is.serving also.serving
    (serving-agree (edges_of g) is.serving also.serving is.are_serving also.are_serving))
    ∙ ap (all (contains kinds2) (missing_sources g missing also.serving))
    (undeclared-agree g entries folder logged
    (contains kinds2 UndeclaredInput) is.undeclared also.undeclared
    (subst (λ asked. AreFoundIf asked g entries folder logged is.undeclared)
    (ap (λ (test : Kind → Bool). test UndeclaredInput) same) is.are_undeclared) also.are_undeclared)
    ∙ sym also.finds

pub audits-agree : {E : Type 0} (g : GraphModel) (entries : List ReadStatement) (missing : List Bool)
    (folder : List ℕ)
    → (logged : List InputOfEdge) (kinds : Kinds) (a b : Result (List FindingModel) E)
    → IfOk a (IsAudit g entries missing folder logged kinds)
    → IfOk b (IsAudit g entries missing folder logged kinds)
    → AgreeIfOk (λ one other. one ≡ other) a b
audits-agree g entries missing folder logged kinds (Ok a) (Ok b) is also =
    findings-agree g entries missing folder logged kinds kinds refl a b is also
audits-agree g entries missing folder logged kinds (Ok a) (Err f) is also = tt
audits-agree g entries missing folder logged kinds (Err e) (Ok b) is also = tt
audits-agree g entries missing folder logged kinds (Err e) (Err f) is also = tt
