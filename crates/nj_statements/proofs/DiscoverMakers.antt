-- Which edges make files after an entry of a dyndep file.
use Rattle.std.proofs.Common.{◌≡◌, ℕ, zero, suc, ◌+◌, ◌<◌, ◌==◌, ◌||◌, Bool, true, false, true≢false, List}
use Rattle.std.proofs.Common.{[], ◌∷◌, ◌++◌, length, Option, Some, None, option_map, unwrap_or, is_some}
use Rattle.std.proofs.Common.{if◌then◌else◌, bytes_eq, refl, sym, ap, ◌∙◌, subst, arith}
use Rattle.nj_scope.specs.Scopes.{first_given}
use Rattle.nj_statements.specs.Inside.JoiningSteps.{discover_for}
use Rattle.std.specs.Bool.{then_some}
use Rattle.std.specs.Option.{option_or}
use Rattle.std.specs.List.{list_any}
use Rattle.std.proofs.lemmas.Bool.{or_parts}
use Rattle.std.proofs.lemmas.List.{length-map}
use Rattle.std.proofs.lemmas.List.Folds.{list_any-append}
use Rattle.std.proofs.lemmas.Slice.Eq.{bytes_eq-Decides}
use Rattle.nj_text.specs.Words.{WordModel}
use Rattle.nj_edges.specs.Edges.{EdgePaths, outputs_of, is_among, first_edge, maker_of}
use Rattle.nj_edges.specs.Joining.{AddedFiles, with_added, changed_at}
use Rattle.nj_faults.specs.declared.fault.GraphFault.{GraphFault}
use Rattle.nj_faults.specs.declared.fault.Cause.TheVariants.{TwoMakers}
use Rattle.nj_faults.specs.Faults.{fault_at}
use Rattle.nj_statements.specs.EdgeList.{Values, EdgeModel, path_given, paths_given, edges_read}
use Rattle.nj_statements.specs.EdgeList.{paths_of_edges, pending_read}
use Rattle.nj_statements.specs.BuildFaults.{empty_path, two_makers, outputs_fault}
use Rattle.nj_manifest.specs.Dyndeps.{EntryModel}
use Rattle.nj_scope.specs.ReadingList.{ReadStatement}
use Rattle.nj_statements.specs.Joining.{no_values, discovered_by, edge_meant, with_entry, meaning_fault}
use Rattle.nj_statements.specs.Joining.{entry_fault}
use Rattle.nj_statements.specs.Laws.{AddsToItsEdge, EdgesMakeWhatIsDiscovered}
use Rattle.nj_statements.proofs.DiscoverEdges.{or_then-none, unjoined-below, pending-within, paths-discover}
use Rattle.nj_statements.proofs.DiscoverEdges.{is_pending-from_pending, entries_add}

-- ---- the first edge that passes a test

pub option-none : (o : Option ℕ) → option_map (λ n. n + 1) o ≡ None → o ≡ None
option-none None none = refl
option-none (Some n) none = absurd (true≢false (ap is_some none))

-- a change after which one edge passes, where no edge did
passes-changed : {E : Type 0} (test : E → Bool) (f : E → E) → ((e : E) → test (f e) ≡ true)
    → (n : ℕ) (edges : List E) → n < length edges
    → first_edge test edges ≡ None → first_edge test (changed_at f n edges) ≡ Some n
unfolding changed_at
passes-changed test f passes n [] within none = absurd (omega (arith, within))
passes-changed test f passes zero (e ∷ edges) within none =
    ap (λ b. if b then Some 0 else option_map (λ n. n + 1) (first_edge test edges)) (passes e)
passes-changed test f passes (suc n) (e ∷ edges) within none =
    by (test e) (passes-changed test f passes n edges (omega (arith, within))) none
  where
    by : (b : Bool) → (first_edge test edges ≡ None → first_edge test (changed_at f n edges) ≡ Some n)
        → (if b then Some 0 else option_map (λ m. m + 1) (first_edge test edges)) ≡ None
        → (if b then Some 0 else option_map (λ m. m + 1) (first_edge test (changed_at f n edges)))
        ≡ Some (suc n)
    by true rest none = absurd (true≢false (ap is_some none))
    by false rest none = ap (option_map (λ m. m + 1)) (rest (option-none (first_edge test edges) none))
        ∙ ap Some (omega arith)

-- a change that no test sees
same-changed : {E : Type 0} (test : E → Bool) (f : E → E) → ((e : E) → test (f e) ≡ test e)
    → (n : ℕ) (edges : List E)
    → first_edge test (changed_at f n edges) ≡ first_edge test edges
unfolding changed_at
same-changed test f same n [] = refl
same-changed test f same zero (e ∷ edges) =
    ap (λ b. if b then Some 0 else option_map (λ n. n + 1) (first_edge test edges)) (same e)
same-changed test f same (suc n) (e ∷ edges) =
    ap (λ o. if test e then Some 0 else option_map (λ m. m + 1) o) (same-changed test f same n edges)

-- ---- the outputs of an edge with added files

or-assoc : (a b c : Bool) → (a || (b || c)) ≡ ((a || b) || c)
or-assoc true b c = refl
or-assoc false b c = refl

or-true : (a b : Bool) → b ≡ true → (a || b) ≡ true
or-true true b is = refl
or-true false b is = is

or-false : (a b : Bool) → b ≡ false → (a || b) ≡ a
or-false true b is = refl
or-false false b is = is

among-added : (added : AddedFiles) (e : EdgePaths) (path : List ℕ)
    → is_among (outputs_of (with_added added e)) path
    ≡ (is_among (outputs_of e) path || is_among added.outputs path)
among-added added e path =
    list_any-append (bytes_eq path) e.explicit_outputs (e.implicit_outputs ++ added.outputs)
    ∙ ap (λ b. is_among e.explicit_outputs path || b)
    (list_any-append (bytes_eq path) e.implicit_outputs added.outputs)
    ∙ or-assoc (is_among e.explicit_outputs path) (is_among e.implicit_outputs path)
    (is_among added.outputs path)
    ∙ ap (λ b. b || is_among added.outputs path)
    (sym (list_any-append (bytes_eq path) e.explicit_outputs e.implicit_outputs))

-- ---- outputs that have no fault

is_some-none : (o : Option ℕ) → is_some o ≡ false → o ≡ None
is_some-none None none = refl
is_some-none (Some n) none = absurd (true≢false none)

fault_if-not : (b : Bool) (fault : GraphFault) → then_some b fault ≡ None → b ≡ false
fault_if-not false fault none = refl
fault_if-not true fault none = absurd (true≢false (ap is_some none))

-- no edge makes an output that has no fault, and the output is not among the outputs to its left
pub neither-makes : (file : List ℕ) (values : Values) (edges : List EdgePaths) (left : List (List ℕ))
    (word : WordModel) → two_makers file values edges left word ≡ None
    → (maker_of edges (path_given values word) ≡ None) × (is_among left (path_given values word) ≡ false)
neither-makes file values edges left word none =
    (is_some-none (maker_of edges (path_given values word)) parts.0, parts.1)
  where
    parts : (is_some (maker_of edges (path_given values word)) ≡ false)
        × (is_among left (path_given values word) ≡ false)
    parts = or_parts (is_some (maker_of edges (path_given values word)))
        (is_among left (path_given values word))
        (fault_if-not (is_some (maker_of edges (path_given values word))
        || is_among left (path_given values word))
        (fault_at file word.spot (TwoMakers (path_given values word))) none)

-- no edge makes an output that has no fault
pub outputs-new : (file : List ℕ) (values : Values) (edges : List EdgePaths) (left : List (List ℕ))
    (words : List WordModel) (path : List ℕ)
    → outputs_fault file values edges left words ≡ None → is_among (paths_given values words) path ≡ true
    → maker_of edges path ≡ None
outputs-new file values edges left [] path none among = absurd (true≢false (sym among))
outputs-new file values edges left (word ∷ words) path none among =
    by (bytes_eq path (path_given values word)) (bytes_eq-Decides path (path_given values word)).0
    (outputs-new file values edges (left ++ path_given values word ∷ []) words path parts.1) among
  where
    parts : (option_or (empty_path file values word) (two_makers file values edges left word) ≡ None)
        × (outputs_fault file values edges (left ++ path_given values word ∷ []) words ≡ None)
    parts = or_then-none (option_or (empty_path file values word) (two_makers file values edges left word))
        (outputs_fault file values edges (left ++ path_given values word ∷ []) words) none

    own : maker_of edges (path_given values word) ≡ None
    own = (neither-makes file values edges left word
        (or_then-none (empty_path file values word) (two_makers file values edges left word) parts.0).1).0

    by : (b : Bool) → (b ≡ true → path ≡ path_given values word)
        → (is_among (paths_given values words) path ≡ true → maker_of edges path ≡ None)
        → (b || is_among (paths_given values words) path) ≡ true → maker_of edges path ≡ None
    by true is others among = ap (maker_of edges) (is refl) ∙ own
    by false is others among = others among

-- ---- an entry that has no fault

module _ (file : List ℕ) (stated joined : List ReadStatement) (entry : EntryModel) (edge : ℕ)
    (none : entry_fault file stated joined entry ≡ None) (means : edge_meant stated entry ≡ Some edge) where
  abbrev before : List EdgePaths
  before = paths_of_edges (edges_read joined)

  abbrev pub added-by : AddedFiles
  added-by = record { outputs = (discovered_by entry).outputs; inputs = (discovered_by entry).inputs }

  pends : list_any (λ p. p.edge == edge) (pending_read joined) ≡ true
  pends = subst (λ n. list_any (λ p. p.edge == n) (pending_read joined) ≡ true)
      (ap (λ (o : Option ℕ). unwrap_or o edge) some-is)
      (is_pending-from_pending file joined found.0 found.1.waited)
    where
      found : (n : ℕ) × AddsToItsEdge file stated joined entry n
      found = entries_add file stated joined entry none

      some-is : Some found.0 ≡ Some edge
      some-is = sym found.1.meant ∙ means

  pub within-before : edge < length before
  within-before = let count = length-map (edges_read joined) (λ (e : EdgeModel). e.paths) in
      omega (
        arith,
        count,
        unjoined-below edge (length (edges_read joined)) (pending_read joined)
            (pending-within joined) pends,
      )

  pub after-is : paths_of_edges (edges_read (with_entry stated joined entry))
      ≡ changed_at (with_added added-by) edge before
  after-is = ap (λ m. paths_of_edges (edges_read (discover_for m (discovered_by entry) joined))) means
      ∙ paths-discover edge (discovered_by entry) joined pends

  pub outputs-fine : outputs_fault file no_values before [] entry.outs ≡ None
  outputs-fine = (or_then-none (outputs_fault file no_values before [] entry.outs)
      (first_given (empty_path file no_values) entry.ins)
      (or_then-none (meaning_fault file stated joined entry)
      (option_or (outputs_fault file no_values before [] entry.outs)
      (first_given (empty_path file no_values) entry.ins))
      (or_then-none (empty_path file no_values entry.out)
      (option_or (meaning_fault file stated joined entry)
      (option_or (outputs_fault file no_values before [] entry.outs)
      (first_given (empty_path file no_values) entry.ins))) none).1).1).0

pub edges_make : EdgesMakeWhatIsDiscovered
edges_make file stated joined entry edge path none means = record {
  new = λ among. outputs-new file no_values before [] entry.outs path outputs among;
  makes = λ among.
      ap (λ es. maker_of es path) is
      ∙ passes-changed (λ (e : EdgePaths). is_among (outputs_of e) path) (with_added added)
      (λ e. among-added added e path ∙ or-true (is_among (outputs_of e) path) (is_among added.outputs path)
      among) edge before within
      (outputs-new file no_values before [] entry.outs path outputs among);
  others = λ apart.
      ap (λ es. maker_of es path) is
      ∙ same-changed (λ (e : EdgePaths). is_among (outputs_of e) path) (with_added added)
      (λ e. among-added added e path ∙ or-false (is_among (outputs_of e) path) (is_among added.outputs path)
      apart) edge before;
}
  where
    before : List EdgePaths
    before = paths_of_edges (edges_read joined)

    added : AddedFiles
    added = added-by file stated joined entry edge none means

    within : edge < length before
    within = within-before file stated joined entry edge none means

    is : paths_of_edges (edges_read (with_entry stated joined entry))
        ≡ changed_at (with_added added) edge before
    is = after-is file stated joined entry edge none means

    outputs : outputs_fault file no_values before [] entry.outs ≡ None
    outputs = outputs-fine file stated joined entry edge none means
