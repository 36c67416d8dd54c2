-- A file never has two makers.
use Rattle.std.proofs.Common.{◌≡◌, ℕ, zero, suc, ◌+◌, ◌<◌, ◌||◌, Bool, true, false, true≢false, List, [], ◌∷◌}
use Rattle.std.proofs.Common.{◌++◌, length, Option, Some, None, option_map, is_some, if◌then◌else◌, bytes_eq}
use Rattle.std.proofs.Common.{refl, sym, ap, ◌∙◌, subst, arith}
use Rattle.nj_scope.proofs.Gathering.{with_given}
use Rattle.std.specs.Option.{option_or}
use Rattle.std.specs.Prelude.{◌==◌, IsPermutation}
use Rattle.std.specs.List.{IsDistinct}
use Rattle.std.specs.Cmp.{IsEquivalence}
use Rattle.std.proofs.lemmas.List.{append_assoc, append-nil, map-append}
use Rattle.std.proofs.lemmas.List.Concat.{flat_map-append}
use Rattle.std.proofs.lemmas.List.Folds.{list_any-append}
use Rattle.std.proofs.lemmas.List.Sorted.{IsPermutation-refl, IsPermutation-append, IsPermutation-append_comm}
use Rattle.std.proofs.lemmas.Map.Keys.{IsDistinct-push, IsDistinct-IsPermutation}
use Rattle.std.proofs.lemmas.Cmp.{nat_list_eq_equiv}
use Rattle.nj_text.specs.Words.{WordModel}
use Rattle.nj_manifest.specs.Dyndeps.{EntryModel}
use Rattle.nj_manifest.specs.LineSteps.{NameModel}
use Rattle.nj_manifest.specs.Statements.{LineModel, OutputsModel, InputsModel, StatementModel, BuildModel}
use Rattle.nj_scope.specs.ReadingList.{Discovered, ReadStatement}
use Rattle.nj_edges.specs.Edges.{EdgePaths, outputs_of, is_among, maker_of}
use Rattle.nj_edges.specs.Joining.{AddedFiles, with_added, changed_at}
use Rattle.nj_statements.specs.EdgeList.{Values, EdgeModel, path_given, paths_given, line_values}
use Rattle.nj_statements.specs.EdgeList.{stated_paths, loses_own, without_own, edge_paths, with_discovered}
use Rattle.nj_statements.specs.EdgeList.{rule_number, edge_of_build, edges_read, paths_of_edges, edge_given}
use Rattle.nj_statements.specs.BuildFaults.{empty_path, two_makers, outputs_fault, inputs_fault, unknown_rule}
use Rattle.nj_statements.specs.BuildFaults.{paths_fault, late_fault, build_fault}
use Rattle.nj_statements.specs.Joining.{no_values, edge_meant, with_entry, entry_fault}
use Rattle.nj_statements.specs.Laws.{AddsToItsEdge, IsFaultless, AreFaultless, IsWithEntries, as_stated}
use Rattle.nj_statements.specs.Laws.{with_one_more, all_outputs, NoFileGetsTwoMakers}
use Rattle.nj_statements.proofs.DiscoverEdges.{or_then-none, entries_add}
use Rattle.nj_statements.proofs.DiscoverMakers.{option-none, neither-makes, added-by, within-before, after-is}
use Rattle.nj_statements.proofs.DiscoverMakers.{outputs-fine}

bytes-equivalence : IsEquivalence bytes_eq
bytes-equivalence = nat_list_eq_equiv

-- ---- the outputs of a statement

-- a file that no edge makes is not an output
no-output : (edges : List EdgePaths) (path : List ℕ) → maker_of edges path ≡ None
    → is_among (all_outputs edges) path ≡ false
no-output [] path none = refl
no-output (e ∷ edges) path none = list_any-append (bytes_eq path) (outputs_of e) (all_outputs edges)
    ∙ by (is_among (outputs_of e) path) (no-output edges path) none
  where
    by : (b : Bool) → (maker_of edges path ≡ None → is_among (all_outputs edges) path ≡ false)
        → (if b then Some 0 else option_map (λ n. n + 1) (maker_of edges path)) ≡ None
        → (b || is_among (all_outputs edges) path) ≡ false
    by true rest none = absurd (true≢false (ap is_some none))
    by false rest none = rest (option-none (maker_of edges path) none)

-- outputs that have no fault are apart from each other, and from the outputs before them
outputs-apart : (file : List ℕ) (values : Values) (edges : List EdgePaths) (left : List (List ℕ))
    (words : List WordModel) → outputs_fault file values edges left words ≡ None
    → IsDistinct bytes_eq (all_outputs edges ++ left)
    → IsDistinct bytes_eq (all_outputs edges ++ (left ++ paths_given values words))
outputs-apart file values edges left [] none apart =
    subst (λ paths. IsDistinct bytes_eq (all_outputs edges ++ paths)) (sym (append-nil left)) apart
outputs-apart file values edges left (word ∷ words) none apart =
    subst (λ paths. IsDistinct bytes_eq (all_outputs edges ++ paths))
    (append_assoc left (path ∷ []) (paths_given values words))
    (outputs-apart file values edges (left ++ path ∷ []) words parts.1
    (subst (IsDistinct bytes_eq) (append_assoc (all_outputs edges) left (path ∷ []))
    (IsDistinct-push bytes-equivalence (all_outputs edges ++ left) path apart new)))
  where
    path : List ℕ
    path = path_given values word

    parts : (option_or (empty_path file values word) (two_makers file values edges left word) ≡ None)
        × (outputs_fault file values edges (left ++ path ∷ []) words ≡ None)
    parts = or_then-none (option_or (empty_path file values word) (two_makers file values edges left word))
        (outputs_fault file values edges (left ++ path ∷ []) words) none

    neither : (maker_of edges path ≡ None) × (is_among left path ≡ false)
    neither = neither-makes file values edges left word
        (or_then-none (empty_path file values word) (two_makers file values edges left word) parts.0).1

    new : is_among (all_outputs edges ++ left) path ≡ false
    new = list_any-append (bytes_eq path) (all_outputs edges) left
        ∙ ap (λ b. b || is_among left path) (no-output edges path neither.0) ∙ neither.1

-- ---- a build statement

-- an edge that loses inputs keeps its outputs
outputs-stated : (e : EdgePaths) → outputs_of (edge_paths e) ≡ outputs_of e
outputs-stated e = by (loses_own e)
  where
    by : (b : Bool) → outputs_of (if b then without_own e else e) ≡ outputs_of e
    by true = refl
    by false = refl

module _ (e : ReadStatement) (before : List ReadStatement) (outputs : OutputsModel) (rule : NameModel)
    (inputs : InputsModel) (lines : List LineModel) (nothing : e.discovered ≡ None) where
  outputs-read : outputs_of (edge_of_build e before outputs rule inputs lines).paths
      ≡ paths_given (line_values e before lines) (outputs.explicit ++ outputs.implicit)
  outputs-read =
      ap (λ (found : Option Discovered). outputs_of (with_discovered found (edge_paths paths))) nothing
      ∙ outputs-stated paths
      ∙ sym (map-append (path_given (line_values e before lines)) outputs.explicit outputs.implicit)
    where
      paths : EdgePaths
      paths = stated_paths (line_values e before lines) outputs inputs (rule_number e before rule == 0)

  build-apart : build_fault e before outputs rule inputs lines ≡ None
      → IsDistinct bytes_eq (all_outputs (paths_of_edges (edges_read before)))
      → IsDistinct bytes_eq (all_outputs (paths_of_edges
      (edges_read before ++ edge_of_build e before outputs rule inputs lines ∷ [])))
  build-apart none apart = subst (IsDistinct bytes_eq) (sym all-is)
      (outputs-apart e.file values edges [] words fine
      (subst (IsDistinct bytes_eq) (sym (append-nil (all_outputs edges))) apart))
    where
      values : Values
      values = line_values e before lines

      edges : List EdgePaths
      edges = paths_of_edges (edges_read before)

      words : List WordModel
      words = outputs.explicit ++ outputs.implicit

      edge : EdgeModel
      edge = edge_of_build e before outputs rule inputs lines

      fine : outputs_fault e.file values edges [] words ≡ None
      fine = (or_then-none (outputs_fault e.file values edges [] words) (inputs_fault e.file values inputs)
          (or_then-none (paths_fault e.file values edges outputs inputs) (late_fault before edge)
          (or_then-none (unknown_rule e before rule)
          (option_or (paths_fault e.file values edges outputs inputs) (late_fault before edge))
          none).1).0).0

      all-is : all_outputs (paths_of_edges (edges_read before ++ edge ∷ []))
          ≡ all_outputs edges ++ paths_given values words
      all-is =
          ap all_outputs (map-append (λ (x : EdgeModel). x.paths) (edges_read before) (edge ∷ []))
          ∙ flat_map-append outputs_of edges (edge.paths ∷ [])
          ∙ ap (λ paths. all_outputs edges ++ paths) (append-nil (outputs_of edge.paths) ∙ outputs-read)

statement-apart : (e : ReadStatement) (before : List ReadStatement) (item : StatementModel)
    → IsFaultless e before item → IsDistinct bytes_eq (all_outputs (paths_of_edges (edges_read before)))
    → IsDistinct bytes_eq (all_outputs (paths_of_edges
    (with_given (edges_read before) (edge_given e before item))))
statement-apart e before (BuildModel outputs rule inputs lines) fine apart =
    build-apart e before outputs rule inputs lines fine.1 fine.0 apart
statement-apart e before item fine apart = apart

stated-apart : (stated : List ReadStatement) → AreFaultless stated
    → IsDistinct bytes_eq (all_outputs (paths_of_edges (edges_read stated)))
unfolding edges_read IsDistinct
stated-apart [] fine = tt
stated-apart (e ∷ before) fine = statement-apart e before e.item fine.0 (stated-apart before fine.1)

-- ---- an entry of a dyndep file

-- the outputs that are added to an edge, after all others
added-last : (added : AddedFiles) (edge : ℕ) (edges : List EdgePaths) → edge < length edges
    → IsPermutation (all_outputs edges ++ added.outputs)
    (all_outputs (changed_at (with_added added) edge edges))
unfolding changed_at
added-last added edge [] within = absurd (omega (arith, within))
added-last added zero (e ∷ edges) within =
    subst (λ paths. IsPermutation paths ((e.explicit_outputs ++ (e.implicit_outputs ++ added.outputs))
    ++ all_outputs edges)) (sym (append_assoc (outputs_of e) (all_outputs edges) added.outputs))
    (subst (IsPermutation (outputs_of e ++ (all_outputs edges ++ added.outputs)))
    (sym (append_assoc (outputs_of e) added.outputs (all_outputs edges))
    ∙ ap (λ paths. paths ++ all_outputs edges)
    (append_assoc e.explicit_outputs e.implicit_outputs added.outputs))
    (IsPermutation-append (outputs_of e) (outputs_of e) (all_outputs edges ++ added.outputs)
    (added.outputs ++ all_outputs edges) (IsPermutation-refl (outputs_of e))
    (IsPermutation-append_comm (all_outputs edges) added.outputs)))
added-last added (suc edge) (e ∷ edges) within =
    subst (λ paths. IsPermutation paths (outputs_of e
    ++ all_outputs (changed_at (with_added added) edge edges)))
    (sym (append_assoc (outputs_of e) (all_outputs edges) added.outputs))
    (IsPermutation-append (outputs_of e) (outputs_of e) (all_outputs edges ++ added.outputs)
    (all_outputs (changed_at (with_added added) edge edges)) (IsPermutation-refl (outputs_of e))
    (added-last added edge edges (omega (arith, within))))

entry-apart : (file : List ℕ) (stated joined : List ReadStatement) (entry : EntryModel)
    → entry_fault file stated joined entry ≡ None
    → IsDistinct bytes_eq (all_outputs (paths_of_edges (edges_read joined)))
    → IsDistinct bytes_eq (all_outputs (paths_of_edges (edges_read (with_entry stated joined entry))))
entry-apart file stated joined entry none apart =
    subst (λ es. IsDistinct bytes_eq (all_outputs es))
    (sym (after-is file stated joined entry edge none means))
    (IsDistinct-IsPermutation bytes_eq bytes-equivalence.symm (all_outputs edges ++ added.outputs)
    (all_outputs (changed_at (with_added added) edge edges))
    (added-last added edge edges (within-before file stated joined entry edge none means))
    (outputs-apart file no_values edges [] entry.outs (outputs-fine file stated joined entry edge none means)
    (subst (IsDistinct bytes_eq) (sym (append-nil (all_outputs edges))) apart)))
  where
    found : (n : ℕ) × AddsToItsEdge file stated joined entry n
    found = entries_add file stated joined entry none

    edge : ℕ
    edge = found.0

    means : edge_meant stated entry ≡ Some edge
    means = found.1.meant

    edges : List EdgePaths
    edges = paths_of_edges (edges_read joined)

    added : AddedFiles
    added = added-by file stated joined entry edge none means

joined-apart : (stated joined : List ReadStatement) → IsWithEntries stated joined
    → IsDistinct bytes_eq (all_outputs (paths_of_edges (edges_read stated)))
    → IsDistinct bytes_eq (all_outputs (paths_of_edges (edges_read joined)))
joined-apart stated _ as_stated apart = apart
joined-apart stated _ (with_one_more {joined = joined} file entry others none) apart =
    entry-apart file stated joined entry none (joined-apart stated joined others apart)

pub no_two_makers : NoFileGetsTwoMakers
no_two_makers stated joined fine by = joined-apart stated joined by (stated-apart stated fine)
