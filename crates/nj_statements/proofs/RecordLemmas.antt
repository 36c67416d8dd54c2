-- Lemmas on the records of edges: where there are more strings and files, in a graph, and on a cycle.
use Rattle.std.proofs.Common.{◌≡◌, ◌<◌, ◌≤◌, ◌==◌, ℕ, zero, suc, false, true≢false, is_some, List, []}
use Rattle.std.proofs.Common.{◌∷◌, map, length, slice_get, get_or, Some, None, option_map}
use Rattle.std.proofs.Common.{unwrap_or, refl, sym, ap, subst, ◌∙◌, arith}
use Rattle.std.specs.List.{AllByRecursion}
use Rattle.std.proofs.lemmas.List.{length-map, length-append}
use Rattle.std.proofs.lemmas.Option.{same_Some, slice_get-get_or, slice_get-map, get_or_from_slice_get}
use Rattle.nj_names.specs.declared.files.FileNo.{FileNo}
use Rattle.nj_names.specs.Files.{path_at, AreFiles}
use Rattle.nj_scope.specs.Readings.{IsPrefix}
use Rattle.nj_scope.specs.ReadingList.{ReadStatement}
use Rattle.nj_cycles.specs.Cycles.{IsLeastOnCycle}
use Rattle.nj_edges.specs.EdgeGraphs.{EdgeGraph}
use Rattle.nj_edges.specs.Edges.{EdgePaths, edge_at, outputs_of}
use Rattle.nj_edges.specs.Inside.EdgesHeld.{AreNumbers, paths_at}
use Rattle.nj_edges.specs.Needs.{makers_of_inputs}
use Rattle.nj_edges.proofs.EdgeLemmas.{all-of, map-same, path_at-more, paths_at-more}
use Rattle.nj_edges.proofs.GraphLemmas.{files-at}
use Rattle.nj_faults.specs.declared.fault.GraphFault.{GraphFault}
use Rattle.nj_faults.specs.declared.fault.Cause.TheVariants.{Cycle}
use Rattle.nj_faults.specs.Faults.{fault_at}
use Rattle.nj_statements.specs.declared.edge_record.Detail.{Detail}
use Rattle.nj_statements.specs.declared.records.DyndepEdge.{DyndepEdge}
use Rattle.nj_statements.specs.Built.{BuiltModel, EdgeDetail, IsCycleFault, defaults_in_force, detail_of}
use Rattle.nj_statements.specs.EdgeList.{EdgeModel, edges_read, paths_of_edges}
use Rattle.nj_statements.specs.Records.{AreOfGraph, RecordsModel, IsNumbered, assigned_named, detail_named}
use Rattle.nj_names.specs.NameTables.{name_at}
use Rattle.nj_statements.specs.Records.{numbered, numbered_at, pending_named, spot_of, with_graph}
use Rattle.nj_statements.proofs.AssignedLemmas.{numbered-longer}
use Rattle.nj_statements.proofs.Lists.{get-longer}

-- ---- more strings

module _ (strings longer : List (List ℕ)) (grows : IsPrefix strings longer) where
  pub strings-more : length strings ≤ length longer
  strings-more = omega (arith, ap length grows.1, length-append strings grows.0)

  text-same : (n : ℕ) → n < length strings → name_at longer n ≡ name_at strings n
  text-same n below =
      let at = slice_get-get_or strings n [] below in
      ap (λ o. unwrap_or o []) (ap (λ (l : List (List ℕ)). slice_get l n) grows.1
      ∙ get-longer strings grows.0 n (get_or strings n []) at ∙ sym at)

  numbered-same : (n : ℕ) → IsNumbered strings n → numbered_at longer n ≡ numbered_at strings n
  numbered-same n below = get_or_from_slice_get (numbered longer) n (numbered_at strings n) None
      (numbered-longer strings longer n (numbered_at strings n) grows
      (slice_get-get_or (numbered strings) n None below))

  numbered-more : (n : ℕ) → IsNumbered strings n → IsNumbered longer n
  numbered-more n below =
      let rises = strings-more in
      let short = length-map strings Some in
      let long = length-map longer Some in
      omega (arith, below, rises, short, long)

  detail-same : (d : Detail) → d.file < length strings → detail_named longer d ≡ detail_named strings d
  detail-same d below =
      ap (λ file. record { file = file; spot = spot_of d; scope = d.scope; rule = d.rule })
      (text-same d.file below)

  assigned-same : (d : Detail) → IsNumbered strings d.pool × IsNumbered strings d.dyndep
      → assigned_named longer d ≡ assigned_named strings d
  assigned-same d (pool, dyndep) =
      ap (λ o. record { pool = o; dyndep = numbered_at longer d.dyndep }) (numbered-same d.pool pool)
      ∙ ap (λ o. record { pool = numbered_at strings d.pool; dyndep = o }) (numbered-same d.dyndep dyndep)

  module _ (ds : List Detail) where
    pub names-more : AllByRecursion (λ (d : Detail). d.file < length strings) ds
        → AllByRecursion (λ (d : Detail). d.file < length longer) ds
    names-more = all-of (λ (d : Detail). d.file < length strings) (λ (d : Detail). d.file < length longer)
        (λ d below. let rises = strings-more in omega (arith, below, rises)) ds

    pub assigned-more : AllByRecursion (λ (d : Detail). IsNumbered strings d.pool
        × IsNumbered strings d.dyndep)
        ds → AllByRecursion (λ (d : Detail). IsNumbered longer d.pool × IsNumbered longer d.dyndep) ds
    assigned-more = all-of (λ (d : Detail). IsNumbered strings d.pool × IsNumbered strings d.dyndep)
        (λ (d : Detail). IsNumbered longer d.pool × IsNumbered longer d.dyndep)
        (λ d known. (numbered-more d.pool known.0, numbered-more d.dyndep known.1)) ds

    pub details-same : AllByRecursion (λ (d : Detail). d.file < length strings) ds
        → map (detail_named longer) ds ≡ map (detail_named strings) ds
    details-same = map-same (λ (d : Detail). d.file < length strings) (detail_named longer)
        (detail_named strings) detail-same ds

    pub all-assigned-same : AllByRecursion
        (λ (d : Detail). IsNumbered strings d.pool × IsNumbered strings d.dyndep)
        ds → map (assigned_named longer) ds ≡ map (assigned_named strings) ds
    all-assigned-same = map-same (λ (d : Detail). IsNumbered strings d.pool × IsNumbered strings d.dyndep)
        (assigned_named longer) (assigned_named strings) assigned-same ds

  -- ---- more files

  pub files-more : (ns : List FileNo) → AreNumbers (length strings) ns → AreNumbers (length longer) ns
  files-more = all-of (λ (f : FileNo). f.0 < length strings) (λ (f : FileNo). f.0 < length longer)
      (λ f below. let rises = strings-more in omega (arith, below, rises))

  pub pending-more : (ps : List DyndepEdge)
      → AllByRecursion (λ (p : DyndepEdge). p.file.0 < length strings) ps
      → AllByRecursion (λ (p : DyndepEdge). p.file.0 < length longer) ps
  pending-more = all-of (λ (p : DyndepEdge). p.file.0 < length strings)
      (λ (p : DyndepEdge). p.file.0 < length longer)
      (λ p below. let rises = strings-more in omega (arith, below, rises))

  pub paths-same : (ns : List FileNo) → AreNumbers (length strings) ns
      → paths_at longer ns ≡ paths_at strings ns
  paths-same ns known = ap (λ fs. paths_at fs ns) grows.1 ∙ paths_at-more strings grows.0 ns known

  pub pending-same : (ps : List DyndepEdge)
      → AllByRecursion (λ (p : DyndepEdge). p.file.0 < length strings) ps
      → map (pending_named longer) ps ≡ map (pending_named strings) ps
  pending-same = map-same (λ (p : DyndepEdge). p.file.0 < length strings) (pending_named longer)
      (pending_named strings) (λ p below. ap (λ path. record { edge = p.edge.0; file = path })
      (ap (λ fs. path_at fs p.file) grows.1 ∙ path_at-more strings grows.0 p.file below))

-- ---- a graph with the same edges, and with more files

module _ (graph longer : EdgeGraph) (r : RecordsModel) (are : AreOfGraph graph r)
    (files : IsPrefix graph.files longer.files) where
  pub are-longer : length longer.edges ≡ length graph.edges → AreOfGraph longer r
  are-longer count = record {
    as_many = are.as_many ∙ sym count;
    names_known = are.names_known;
    assigned_known = are.assigned_known;
    defaults_known = files-more graph.files longer.files files r.defaults are.defaults_known;
    files_known = pending-more graph.files longer.files files r.dyndeps are.files_known;
    edges_known = subst (λ n. AllByRecursion (λ (p : DyndepEdge). p.edge.0 < n) r.dyndeps) (sym count)
        are.edges_known;
  }

  pub same-longer : with_graph longer r ≡ record (with_graph graph r) { graph = longer }
  same-longer =
      ap (λ ds. record (with_graph longer r) { defaults = ds })
      (paths-same graph.files longer.files files r.defaults are.defaults_known)
      ∙ ap (λ ps. record (with_graph longer r) { defaults = paths_at graph.files r.defaults; pending = ps })
      (pending-same graph.files longer.files files r.dyndeps are.files_known)

-- ---- defaults

-- files of `default` lines are in force
pub in-force : (held built : BuiltModel) (ns defaults : List FileNo) → held ≡ built → ns ≡ defaults
    → held.defaults ≡ paths_at held.graph.files defaults → AreNumbers (length held.graph.files) defaults
    → false ≡ (length ns == 0)
    → AreFiles built.graph.files ns (defaults_in_force built.defaults built.graph.edges)
in-force held built ns defaults is same paths are some =
    subst (λ (b : BuiltModel). AreFiles b.graph.files ns (defaults_in_force b.defaults b.graph.edges)) is
    (subst (λ ps. AreFiles held.graph.files ns (defaults_in_force ps held.graph.edges))
    (sym (paths ∙ ap (paths_at held.graph.files) (sym same)))
    (by ns some (subst (AreNumbers (length held.graph.files)) (sym same) are)))
  where
    by : (fs : List FileNo) → false ≡ (length fs == 0) → AreNumbers (length held.graph.files) fs
        → AreFiles held.graph.files fs (defaults_in_force (paths_at held.graph.files fs) held.graph.edges)
    by [] some are = absurd (true≢false (sym some))
    by (f ∷ fs) some are = files-at held.graph.files (f ∷ fs) are

-- ---- a cycle

-- by the details of the edges
pub cycle-of : (r : RecordsModel) (edges : List EdgePaths) (entries : List ReadStatement) (n : ℕ) (d : Detail)
    (output : List ℕ) (fault : GraphFault)
    → map (detail_named r.names) r.details ≡ map detail_of (edges_read entries)
    → edges ≡ paths_of_edges (edges_read entries) → n < length edges → d ≡ get_or r.details n d
    → IsLeastOnCycle (makers_of_inputs edges) n → slice_get (outputs_of (edge_at edges n)) 0 ≡ Some output
    → fault ≡ fault_at (name_at r.names d.file) (spot_of d) (Cycle output)
    → IsCycleFault (edges_read entries) fault
cycle-of r edges entries n d output fault details_are edges_are below at least first is =
    let found = get-some (edges_read entries) n (omega (arith, below, count)) in
    let there : slice_get r.details n ≡ Some d =
    slice_get-get_or r.details n d (omega (arith, below, count, details)) ∙ ap Some (sym at) in
    let detail : detail_named r.names d ≡ detail_of found.0 =
    same_Some (detail_named r.names d) (detail_of found.0)
    (sym (slice_get-map (detail_named r.names) r.details n ∙ ap (option_map (detail_named r.names)) there)
    ∙ ap (λ ds. slice_get ds n) details_are ∙ slice_get-map detail_of (edges_read entries) n
    ∙ ap (option_map detail_of) found.1) in
    record {
      number = n;
      edge = found.0;
      output = output;
      edge_is = found.1;
      least = subst (λ es. IsLeastOnCycle (makers_of_inputs es) n) edges_are least;
      output_is = ap (λ (e : EdgePaths). slice_get (outputs_of e) 0)
          (sym (ap (λ es. edge_at es n) edges_are ∙ paths-at (edges_read entries) n found.0 found.1)) ∙ first;
      fault_is = is ∙ ap (λ (x : EdgeDetail). fault_at x.file x.spot (Cycle output)) detail;
    }
  where
    count : length edges ≡ length (edges_read entries)
    count = ap length edges_are ∙ length-map (edges_read entries) (λ (e : EdgeModel). e.paths)

    details : length r.details ≡ length (edges_read entries)
    details = sym (length-map r.details (detail_named r.names)) ∙ ap length details_are
        ∙ length-map (edges_read entries) detail_of

    get-some : (es : List EdgeModel) (m : ℕ) → m < length es → (e : EdgeModel) × (slice_get es m ≡ Some e)
    get-some [] m h = absurd (omega (arith, h))
    get-some (e ∷ es) zero h = (e, refl)
    get-some (e ∷ es) (suc m) h = get-some es m (omega (arith, h))

    paths-at : (es : List EdgeModel) (m : ℕ) (e : EdgeModel) → slice_get es m ≡ Some e
        → edge_at (paths_of_edges es) m ≡ e.paths
    paths-at [] m e h = absurd (true≢false (sym (ap is_some h)))
    paths-at (f ∷ es) zero e h = ap (λ (x : EdgeModel). x.paths) (same_Some f e h)
    paths-at (f ∷ es) (suc m) e h = paths-at es m e h
