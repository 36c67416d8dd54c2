-- Lemmas on the roots of a graph.
use Rattle.std.proofs.Common.{◌≡◌, ◌<◌, ◌||◌, ℕ, Bool, true, false, cond, not, List, [], ◌∷◌, map, length}
use Rattle.std.proofs.Common.{slice_get, slice_index_or, Some, bytes_eq, refl, sym, ap, subst, ◌∙◌}
use Rattle.std.specs.List.{AllByRecursion, filter, flat_map, list_any}
use Rattle.std.proofs.lemmas.List.{take-append-drop, map-append}
use Rattle.std.proofs.lemmas.List.Folds.{list_any-append}
use Rattle.nj_names.specs.declared.files.FileNo.{FileNo}
use Rattle.nj_edges.specs.declared.edges.EdgeRow.{EdgeRow}
use Rattle.nj_edges.specs.declared.edges.Span.{Span}
use Rattle.nj_edges.specs.Edges.{EdgePaths, is_among, is_used, outputs_of, inputs_of, roots_of}
use Rattle.nj_edges.specs.Inside.EdgesHeld.{Lists, paths_at, within, edge_of_row, edges_of, has_number}
use Rattle.nj_edges.specs.Inside.EdgesHeld.{table_of}
use Rattle.nj_edges.specs.Inside.EdgesHeld.{AreNumbers, RowIsWithin, EdgesAreHeld}
use Rattle.nj_edges.specs.EdgeTables.{no_files}
use Rattle.nj_names.specs.Files.{path_at, AreFiles}
use Rattle.nj_edges.specs.Inside.RootsHeld.{AreFlags}
use Rattle.nj_edges.proofs.EdgeLemmas.{get-path, has-among}
use Rattle.nj_edges.proofs.GraphLemmas.{inputs-whole, kinds-joined, outputs-whole}

-- ---- without flags

pub filter-same : (p q : FileNo → Bool) (count : ℕ) → ((f : FileNo) → f.0 < count → p f ≡ q f)
    → (ns : List FileNo) → AreNumbers count ns → filter p ns ≡ filter q ns
filter-same p q count same [] are = refl
filter-same p q count same (f ∷ ns) are =
    let here = same f are.0 in let more = filter-same p q count same ns are.1 in cc

pub flags-roots : (count : ℕ) (outputs inputs : List FileNo) (flags : List Bool) → AreFlags count inputs flags
    → AreNumbers count outputs
    → filter (λ file. not (slice_index_or flags file.0 false)) outputs
    ≡ filter (λ file. not (has_number file.0 inputs)) outputs
flags-roots count outputs inputs flags are numbers =
    filter-same (λ file. not (slice_index_or flags file.0 false)) (λ file. not (has_number file.0 inputs))
    count (λ f below. ap not (are.flags_are f.0 below)) outputs numbers

-- ---- by paths

pub among-flat : (part : EdgePaths → List (List ℕ)) (path : List ℕ) (edges : List EdgePaths)
    → is_among (flat_map part edges) path ≡ list_any (λ e. is_among (part e) path) edges
among-flat part path [] = refl
among-flat part path (e ∷ edges) = list_any-append (bytes_eq path) (part e) (flat_map part edges)
    ∙ ap (λ b. is_among (part e) path || b) (among-flat part path edges)

filter-paths : (files : List (List ℕ)) (p : FileNo → Bool) (q : List ℕ → Bool)
    → ((f : FileNo) → f.0 < length files → p f ≡ q (path_at files f)) → (ns : List FileNo)
    → AreNumbers (length files) ns → AreFiles files (filter p ns) (filter q (paths_at files ns))
filter-paths files p q same [] are = refl
filter-paths files p q same (f ∷ ns) are =
    by (p f) (q (path_at files f)) (same f are.0) (get-path files f are.0)
    (filter-paths files p q same ns are.1)
  where
    by : (b d : Bool) → b ≡ d → slice_get files f.0 ≡ Some (path_at files f)
        → AreFiles files (filter p ns) (filter q (paths_at files ns))
        → AreFiles files (cond b (f ∷ filter p ns) (filter p ns))
        (cond d (path_at files f ∷ filter q (paths_at files ns)) (filter q (paths_at files ns)))
    by true true e here rest = cc
    by true false e here rest = cc
    by false true e here rest = cc
    by false false e here rest = rest

-- ---- parts of edges

pub parts-paths : (files : List (List ℕ)) (part : EdgePaths → List (List ℕ)) (ns : List FileNo)
    (span : EdgeRow → Span) (edge : EdgeRow → EdgePaths) (P : EdgeRow → Type 0)
    → ((row : EdgeRow) → P row → part (edge row) ≡ paths_at files (within ns (span row)))
    → (rows : List EdgeRow) → AllByRecursion P rows
    → flat_map part (map edge rows) ≡ paths_at files (flat_map (within ns) (map span rows))
parts-paths files part ns span edge P same [] all = refl
parts-paths files part ns span edge P same (row ∷ rows) all =
    let first = same row all.0 in
    let more = parts-paths files part ns span edge P same rows all.1 in
    let join = map-append (path_at files) (within ns (span row)) (flat_map (within ns) (map span rows)) in
    rw (first, more) (sym join)

module _ (files : List (List ℕ)) (l : Lists) (row : EdgeRow) where
  pub outputs-joined : outputs_of (edge_of_row files l row) ≡ paths_at files (within l.outputs row.outputs)
  outputs-joined = take-append-drop row.kinds.explicit_outputs (paths_at files (within l.outputs row.outputs))

  pub inputs-joined : RowIsWithin l.starts row
      → inputs_of (edge_of_row files l row) ≡ paths_at files (within l.inputs row.inputs)
  inputs-joined inside = kinds-joined (paths_at files (within l.inputs row.inputs)) row.kinds.explicit_inputs
      row.kinds.implicit_inputs inside.kinds.explicit_inputs

module _ (files : List (List ℕ)) (l : Lists) (held : EdgesAreHeld files l)
    (closed : (table_of files l).«open» ≡ no_files) where
  outputs-flat : flat_map outputs_of (edges_of files l) ≡ paths_at files l.outputs
  outputs-flat = parts-paths files outputs_of l.outputs (λ row. row.outputs) (edge_of_row files l)
      (RowIsWithin l.starts) (λ row inside. outputs-joined files l row) l.rows held.rows_are
      ∙ ap (paths_at files) (held.outputs.joined ∙ outputs-whole files l closed)

  inputs-flat : flat_map inputs_of (edges_of files l) ≡ paths_at files l.inputs
  inputs-flat = parts-paths files inputs_of l.inputs (λ row. row.inputs) (edge_of_row files l)
      (RowIsWithin l.starts) (inputs-joined files l) l.rows held.rows_are
      ∙ ap (paths_at files) (held.inputs.joined ∙ inputs-whole files l closed)

  used-is : (f : FileNo) → f.0 < length files
      → has_number f.0 l.inputs ≡ is_used (edges_of files l) (path_at files f)
  used-is f below =
      has-among files held.distinct f.0 (path_at files f) (get-path files f below) l.inputs held.inputs.are
      ∙ ap (λ ps. is_among ps (path_at files f)) (sym inputs-flat)
      ∙ among-flat inputs_of (path_at files f) (edges_of files l)

  pub roots-held : (roots : List FileNo) → roots ≡ filter (λ f. not (has_number f.0 l.inputs)) l.outputs
      → AreFiles files roots (roots_of (edges_of files l))
  roots-held roots is =
      subst (λ ns. AreFiles files ns (roots_of (edges_of files l))) (sym is)
      (subst (λ ps. AreFiles files (filter (λ f. not (has_number f.0 l.inputs)) l.outputs)
      (filter (λ path. not (is_used (edges_of files l) path)) ps)) (sym outputs-flat)
      (filter-paths files (λ f. not (has_number f.0 l.inputs)) (λ path. not (is_used (edges_of files l) path))
      (λ f below. ap not (used-is f below)) l.outputs held.outputs.are))
