-- Lemmas on a graph of edges that is held by the numbers of files.
use Rattle.std.proofs.lemmas.Grind.{common_steps}
use Rattle.std.proofs.Common.{◌≡◌, ◌<◌, ◌≤◌, ◌+◌, ◌-◌, ℕ, zero, suc, Bool, List, [], ◌∷◌}
use Rattle.std.proofs.Common.{◌++◌, map, length, take, drop, slice_range, get_or, Option, Some}
use Rattle.std.proofs.Common.{None, is_some, refl, sym, ap, subst, ◌∙◌, true≢false}
use Rattle.std.proofs.Common.{arith, append_assoc}
use Rattle.std.specs.Prelude.{All, Contains}
use Rattle.std.specs.List.{AllByRecursion}
use Rattle.std.proofs.lemmas.List.{append-nil, drop-map, take-append-drop, take-map, length-map}
use Rattle.std.proofs.lemmas.List.Elements.{All-from_recursion, All-weaker}
use Rattle.std.proofs.lemmas.List.Folds.{drop_split}
use Rattle.std.proofs.lemmas.Option.{slice_get_within, get_or_from_slice_get}
use Rattle.std.proofs.Math.Path.{fun_ext}
use Rattle.std.proofs.Math.Seq.{take-add}
use Rattle.nj_cycles.specs.Cycles.{AreEdges, IsAcyclic, IsFirstOnCycle, IsLeastOnCycle, Needs, Chain}
use Rattle.nj_cycles.specs.Cycles.Chain.{one, more}
use Rattle.nj_names.specs.declared.files.FileNo.{FileNo}
use Rattle.nj_edges.specs.declared.edges.EdgeRow.{EdgeRow}
use Rattle.nj_edges.specs.declared.edges.KindEnds.{KindEnds}
use Rattle.nj_edges.specs.EdgeGraphs.{EdgeGraph}
use Rattle.nj_edges.specs.Edges.{EdgePaths, counted_inputs_of, edge_at, outputs_of, first_edge, maker_of}
use Rattle.nj_edges.specs.Edges.{inputs_of}
use Rattle.nj_edges.specs.Inside.EdgesHeld.{Lists, paths_at, within, edge_of_row, edges_of, table_of}
use Rattle.nj_edges.specs.Inside.EdgesHeld.{has_number}
use Rattle.nj_edges.specs.Inside.EdgesHeld.{AreNumbers, RowIsWithin, read_outputs, output_rows}
use Rattle.nj_edges.specs.Inside.EdgesHeld.{makers_in_rows}
use Rattle.nj_edges.specs.Inside.EdgesHeld.{EdgesAreHeld, HasFiles}
use Rattle.nj_edges.specs.EdgeTables.{EdgeTable, edge_read, no_files}
use Rattle.nj_names.specs.Files.{path_at, AreFiles}
use Rattle.nj_edges.specs.Graph.{IsFirstCycle}
use Rattle.nj_edges.specs.Needs.{makers_of_inputs}
use Rattle.nj_edges.proofs.EdgeLemmas.{all-drop, all-take, first-more, get-path, maker-read, within-numbers}

-- ---- no edge is being read

none-open : (files : List (List ℕ)) (ns : List FileNo) → paths_at files ns ≡ [] → ns ≡ []
none-open files [] none = refl
none-open files (f ∷ ns) none = absurd (omega (arith, ap length none))

module _ (files : List (List ℕ)) (l : Lists) (closed : (table_of files l).«open» ≡ no_files) where
  no-outputs : drop l.starts.outputs l.outputs ≡ []
  no-outputs = none-open files (drop l.starts.outputs l.outputs) (ap (λ e. e.outputs) closed)

  -- the files of the edges are all files
  pub outputs-whole : take l.starts.outputs l.outputs ≡ l.outputs
  outputs-whole = sym (append-nil (take l.starts.outputs l.outputs))
      ∙ ap (λ ns. take l.starts.outputs l.outputs ++ ns) (sym no-outputs)
      ∙ take-append-drop l.starts.outputs l.outputs

  pub inputs-whole : take l.starts.inputs l.inputs ≡ l.inputs
  inputs-whole = sym (append-nil (take l.starts.inputs l.inputs))
      ∙ ap (λ ns. take l.starts.inputs l.inputs ++ ns)
      (sym (none-open files (drop l.starts.inputs l.inputs) (ap (λ e. e.inputs) closed)))
      ∙ take-append-drop l.starts.inputs l.inputs

  pub closed-makers : (n : ℕ) → first_edge (has_number n) (output_rows l)
      ≡ first_edge (has_number n) (read_outputs l)
  closed-makers n = rw no-outputs (first-more (has_number n) (read_outputs l) [] refl)

-- ---- the makers of inputs

-- the kinds of inputs one after the other
pub kinds-joined : (paths : List (List ℕ)) (explicit implicit : ℕ) → explicit ≤ implicit
    → (take explicit paths ++ slice_range paths explicit implicit) ++ drop implicit paths ≡ paths
kinds-joined paths explicit implicit le = grind (arith, append_assoc, drop_split, take-append-drop)

-- and the inputs that are not order-only
pub counted-joined : (paths : List (List ℕ)) (explicit implicit : ℕ) → explicit ≤ implicit
    → take explicit paths ++ slice_range paths explicit implicit ≡ take implicit paths
counted-joined paths explicit implicit le =
    let whole : explicit + (implicit - explicit) ≡ implicit = omega arith in
    sym (take-add explicit (implicit - explicit) paths) ∙ ap (λ n. take n paths) whole

get-some : (makers : List (Option ℕ)) (file e : ℕ) → get_or makers file None ≡ Some e → file < length makers
get-some [] file e h = absurd (true≢false (sym (ap is_some h)))
get-some (m ∷ makers) zero e h = omega arith
get-some (m ∷ makers) (suc file) e h = grind (arith, common_steps, (get-some makers file e h))

pub first-below : {E : Type 0} (test : E → Bool) (es : List E) (n : ℕ) → first_edge test es ≡ Some n
    → n < length es
first-below test [] n h = absurd (true≢false (sym (ap is_some h)))
first-below test (e ∷ es) n h = grind (arith, common_steps, (first-below test es))

-- each edge of a list of makers is that of an element
pub made-of : {X : Type 0} (maker : X → Option ℕ) (xs : List X) (m : ℕ) → Contains (map maker xs) (Some m)
    → (x : X) × (maker x ≡ Some m)
made-of maker [] m c = absurd (omega (arith, c.1))
made-of {X = X} maker (x ∷ xs) m c = grind (arith, common_steps, (made-of maker xs m))

-- only the edges of the rows have inputs, and files have makers among them
made-in-rows : (l : Lists) (rows : List EdgeRow) (e f : ℕ)
    → Contains (makers_in_rows (record l { rows = rows }) e) (Some f)
    → (file : ℕ) × (get_or l.makers file None ≡ Some f) × (e < length rows)
made-in-rows l [] e f c = absurd (omega (arith, c.1))
made-in-rows l (row ∷ rows) zero f c = let made =
    made-of (λ (n : FileNo). get_or l.makers n.0 None) (within l.inputs row.inputs) f c in
    (made.0.0, made.1, omega arith)
made-in-rows l (row ∷ rows) (suc e) f c = let made = made-in-rows l rows e f c in
    (made.0, made.1, omega (arith, made.2))

pub rows-known : (l : Lists) → ((file e : ℕ) → get_or l.makers file None ≡ Some e → e < length l.rows)
    → AreEdges (makers_in_rows l) (length l.rows)
rows-known l known e f c = let made = made-in-rows l l.rows e f c in (made.2, known made.0 f made.1)

module _ (files : List (List ℕ)) (l : Lists) (held : EdgesAreHeld files l)
    (closed : (table_of files l).«open» ≡ no_files) where
  made-by-row : (n : ℕ) → n < length l.makers
      → get_or l.makers n None ≡ first_edge (has_number n) (read_outputs l)
  made-by-row n below = get_or_from_slice_get l.makers n (first_edge (has_number n) (output_rows l)) None
      (held.makers_are n below) ∙ closed-makers files l closed n

  pub maker-below : (file e : ℕ) → get_or l.makers file None ≡ Some e → e < length l.rows
  maker-below file e h = grind (arith, first-below, get-some, length-map, made-by-row)

  pub rows-rise : All (λ (row : EdgeRow). row.inputs.start ≤ row.inputs.end) l.rows
  rows-rise = All-weaker (RowIsWithin l.starts) (λ row. row.inputs.start ≤ row.inputs.end)
      (λ row is. is.inputs.rises) l.rows (All-from_recursion (RowIsWithin l.starts) l.rows held.rows_are)

  pub rows-end : All (λ (row : EdgeRow). row.inputs.end ≤ length l.inputs) l.rows
  rows-end = grind (arith, common_steps)

  pub inputs-below : All (λ (f : FileNo). f.0 < length l.makers) l.inputs
  inputs-below = subst (λ n. All (λ (f : FileNo). f.0 < n) l.inputs) (sym held.makers_count)
      (All-from_recursion (λ f. f.0 < length files) l.inputs held.inputs.are)

  -- the maker of a file, by its path
  pub maker-path : (f : FileNo) → f.0 < length files
      → get_or l.makers f.0 None ≡ maker_of (edges_of files l) (path_at files f)
  maker-path f below = grind (arith, get-path, made-by-row, maker-read)

  makers-paths : (ns : List FileNo) → AreNumbers (length files) ns
      → map (λ f. get_or l.makers f.0 None) ns ≡ map (maker_of (edges_of files l)) (paths_at files ns)
  makers-paths [] are = refl
  makers-paths (f ∷ ns) are = let first = maker-path f are.0 in let rest = makers-paths ns are.1 in cc

  makers-at : (rs : List EdgeRow) → AllByRecursion (RowIsWithin l.starts) rs → (e : ℕ)
      → makers_in_rows (record l { rows = rs }) e
      ≡ map (maker_of (edges_of files l)) (inputs_of (edge_at (map (edge_of_row files l) rs) e))
  makers-at [] all e = refl
  makers-at (row ∷ rs) all zero =
      makers-paths (within l.inputs row.inputs)
      (within-numbers (length files) l.inputs row.inputs held.inputs.are)
      ∙ ap (map (maker_of (edges_of files l)))
      (sym (kinds-joined (paths_at files (within l.inputs row.inputs)) row.kinds.explicit_inputs
      row.kinds.implicit_inputs all.0.kinds.explicit_inputs))
  makers-at (row ∷ rs) all (suc e) = makers-at rs all.1 e

  -- the makers of inputs, by the paths of the edges
  pub makers-by-paths : makers_in_rows l ≡ makers_of_inputs (edges_of files l)
  makers-by-paths = fun_ext (makers-at l.rows held.rows_are)

  -- the result of the check, for the edges of the table
  pub first-table : (t : EdgeTable) → table_of files l ≡ t → (found first : Option ℕ) → found ≡ first
      → IsFirstOnCycle (makers_in_rows l) (length l.rows) found
      → IsFirstOnCycle (makers_of_inputs t.edges) (length t.edges) first
  first-table t is found first same h = grind (arith, first, length-map, makers-by-paths)

-- ---- an edge on a cycle is one of the edges

some-makers : (makers : List ℕ → Option ℕ) (edges : List EdgePaths) (e k : ℕ)
    → k < length (map makers (inputs_of (edge_at edges e))) → e < length edges
some-makers makers [] e k below = absurd (omega arith)
some-makers makers (edge ∷ edges) zero k below = omega arith
some-makers makers (edge ∷ edges) (suc e) k below = grind (arith, common_steps)

needs-below : (edges : List EdgePaths) (e f : ℕ) → Needs (makers_of_inputs edges) e f → e < length edges
needs-below edges e f needs = some-makers (maker_of edges) edges e needs.0 needs.1

pub chain-below : (edges : List EdgePaths) (e f : ℕ) → Chain (Needs (makers_of_inputs edges)) e f
    → e < length edges
chain-below edges e f (one s) = needs-below edges e f s
chain-below edges e f (more {g = g} s c) = needs-below edges e g s

pub on-edge : (edges : List EdgePaths) (e : ℕ) → IsLeastOnCycle (makers_of_inputs edges) e
    → (e < length edges) × IsLeastOnCycle (makers_of_inputs edges) e
on-edge edges e least = (chain-below edges e e least.0, least)

pub acyclic-held : (files : List (List ℕ)) (l : Lists) (t : EdgeTable) → table_of files l ≡ t
    → IsFirstCycle t.edges None → IsAcyclic (makers_of_inputs (edges_of files l)) (length l.rows)
acyclic-held files l t is none = grind (arith, common_steps)

-- ---- one edge

-- numbers of files are the numbers of their paths
pub files-at : (files : List (List ℕ)) (ns : List FileNo) → AreNumbers (length files) ns
    → AreFiles files ns (paths_at files ns)
files-at files [] are = refl
files-at files (f ∷ ns) are = let first = get-path files f are.0 in let rest = files-at files ns are.1 in cc

-- and numbers that have paths are the numbers of files
pub files-numbers : (files : List (List ℕ)) (ns : List FileNo) (paths : List (List ℕ))
    → AreFiles files ns paths → AreNumbers (length files) ns
files-numbers files [] paths are = tt
files-numbers files (n ∷ ns) [] are = absurd (omega (arith, ap length are))
files-numbers files (n ∷ ns) (p ∷ paths) are =
    (slice_get_within files n.0 p (ap first are), files-numbers files ns paths (ap rest are))
  where
    first : List (Option (List ℕ)) → Option (List ℕ)
    first [] = None
    first (o ∷ os) = o

    rest : List (Option (List ℕ)) → List (Option (List ℕ))
    rest [] = []
    rest (o ∷ os) = os

pub files-known : (files : List (List ℕ)) (ns : List FileNo) (paths : List (List ℕ)) → AreFiles files ns paths
    → All (λ file. file.0 < length files) ns
files-known files ns paths are = All-from_recursion (λ (f : FileNo). f.0 < length files) ns
    (files-numbers files ns paths are)

module _ (files : List (List ℕ)) (e : EdgePaths) (outputs inputs validations : List FileNo) (kinds : KindEnds)
    (is_phony : Bool) (has : HasFiles files e outputs inputs validations kinds is_phony) where
  abbrev read : EdgePaths
  read = edge_read (record {
    outputs = paths_at files outputs;
    inputs = paths_at files inputs;
    validations = paths_at files validations;
  }) kinds is_phony

  files-are : (ns : List FileNo) (part : EdgePaths → List (List ℕ)) → AreNumbers (length files) ns
      → paths_at files ns ≡ part read → AreFiles files ns (part e)
  files-are ns part are same = subst (AreFiles files ns) (same ∙ ap part (sym has.is))
      (files-at files ns are)

  -- the first of some files, and the files after them
  first-are : (ns : List FileNo) (count : ℕ) (part : EdgePaths → List (List ℕ))
      → AreNumbers (length files) ns → take count (paths_at files ns) ≡ part read
      → AreFiles files (take count ns) (part e)
  first-are ns count part are same = files-are (take count ns) part
      (all-take (λ f. f.0 < length files) count ns are) (sym (take-map (path_at files) count ns) ∙ same)

  after-are : (ns : List FileNo) (start : ℕ) (part : EdgePaths → List (List ℕ))
      → AreNumbers (length files) ns → drop start (paths_at files ns) ≡ part read
      → AreFiles files (drop start ns) (part e)
  after-are ns start part are same = files-are (drop start ns) part
      (all-drop (λ f. f.0 < length files) start ns are) (sym (drop-map (path_at files) start ns) ∙ same)

  pub outputs-are : AreFiles files outputs (outputs_of e)
  outputs-are = files-are outputs outputs_of has.outputs_are
      (sym (take-append-drop kinds.explicit_outputs (paths_at files outputs)))

  pub inputs-are : AreFiles files inputs (inputs_of e)
  inputs-are = files-are inputs inputs_of has.inputs_are (sym (kinds-joined (paths_at files inputs)
      kinds.explicit_inputs kinds.implicit_inputs has.kinds_end.explicit_inputs))

  pub counted-are : AreFiles files (take kinds.implicit_inputs inputs) (counted_inputs_of e)
  counted-are = first-are inputs kinds.implicit_inputs counted_inputs_of has.inputs_are
      (sym (counted-joined (paths_at files inputs) kinds.explicit_inputs kinds.implicit_inputs
      has.kinds_end.explicit_inputs))

  pub explicit-outputs-are : AreFiles files (take kinds.explicit_outputs outputs) e.explicit_outputs
  explicit-outputs-are =
      first-are outputs kinds.explicit_outputs (λ x. x.explicit_outputs) has.outputs_are refl

  pub implicit-outputs-are : AreFiles files (drop kinds.explicit_outputs outputs) e.implicit_outputs
  implicit-outputs-are =
      after-are outputs kinds.explicit_outputs (λ x. x.implicit_outputs) has.outputs_are refl

  pub explicit-inputs-are : AreFiles files (take kinds.explicit_inputs inputs) e.explicit_inputs
  explicit-inputs-are = first-are inputs kinds.explicit_inputs (λ x. x.explicit_inputs) has.inputs_are refl

  pub implicit-inputs-are : AreFiles files (slice_range inputs kinds.explicit_inputs kinds.implicit_inputs)
      e.implicit_inputs
  implicit-inputs-are = first-are (drop kinds.explicit_inputs inputs)
      (kinds.implicit_inputs - kinds.explicit_inputs) (λ x. x.implicit_inputs)
      (all-drop (λ f. f.0 < length files) kinds.explicit_inputs inputs has.inputs_are)
      (ap (take (kinds.implicit_inputs - kinds.explicit_inputs))
      (sym (drop-map (path_at files) kinds.explicit_inputs inputs)))

  pub order-only-inputs-are : AreFiles files (drop kinds.implicit_inputs inputs) e.order_only_inputs
  order-only-inputs-are =
      after-are inputs kinds.implicit_inputs (λ x. x.order_only_inputs) has.inputs_are refl

  pub validations-are : AreFiles files validations e.validations
  validations-are = files-are validations (λ x. x.validations) has.validations_are refl

-- ---- a file's maker

module _ (files : List (List ℕ)) (l : Lists) (held : EdgesAreHeld files l)
    (closed : (table_of files l).«open» ≡ no_files) (g : EdgeGraph)
    (is : record { files = files; edges = edges_of files l } ≡ g) where
  pub maker-at : (f : FileNo) → f.0 < length g.files
      → get_or l.makers f.0 None ≡ maker_of g.edges (path_at g.files f)
  maker-at f below = grind (arith, maker-path)

  pub graph-makers : makers_in_rows l ≡ makers_of_inputs g.edges
  graph-makers = makers-by-paths files l held closed ∙ ap (λ (v : EdgeGraph). makers_of_inputs v.edges) is

  pub maker-edge : (n e : ℕ) → get_or l.makers n None ≡ Some e → e < length g.edges
  maker-edge n e h = grind (arith, length-map, maker-below)
