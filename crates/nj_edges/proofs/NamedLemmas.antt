-- Lemmas on the files that edges name: they are the files that are held.
use Rattle.std.proofs.Common.{◌≡◌, ◌<◌, ◌||◌, ℕ, zero, suc, Bool, true, false, List, [], ◌∷◌, map, length}
use Rattle.std.proofs.Common.{take, drop, slice_get, Some, bytes_eq, refl, sym, ap, subst, ◌∙◌}
use Rattle.std.proofs.Common.{true≢false}
use Rattle.std.specs.List.{AllByRecursion, IsDistinct, list_any}
use Rattle.std.proofs.Math.Bool.{or-false, or-true}
use Rattle.std.proofs.lemmas.List.{take-append-drop, map-append}
use Rattle.std.proofs.lemmas.List.Folds.{list_any-append}
use Rattle.std.proofs.lemmas.Option.{slice_get_within}
use Rattle.std.proofs.lemmas.Slice.Eq.{bytes_eq-Decides}
use Rattle.nj_names.proofs.ListLemmas.{among-get}
use Rattle.nj_names.specs.declared.files.FileNo.{FileNo}
use Rattle.nj_edges.specs.declared.edges.Span.{Span}
use Rattle.nj_edges.specs.declared.edges.EdgeRow.{EdgeRow}
use Rattle.nj_edges.specs.Edges.{EdgePaths, inputs_of, is_among, is_named, outputs_of}
use Rattle.nj_edges.specs.EdgeGraphs.{EdgeGraph}
use Rattle.nj_edges.specs.Inside.EdgesHeld.{Lists, paths_at, within, edge_of_row, edges_of, table_of}
use Rattle.nj_edges.specs.Inside.EdgesHeld.{has_number}
use Rattle.nj_edges.specs.Inside.EdgesHeld.{AreNumbers, AreJoined, AreNamed, RowIsWithin, EdgesAreHeld}
use Rattle.nj_edges.specs.Inside.EdgesHeld.{TableIsHeld}
use Rattle.nj_edges.specs.EdgeTables.{OpenEdge, EdgeTable, no_files, is_named_so_far}
use Rattle.nj_names.specs.Files.{AreFiles, path_at}
use Rattle.nj_edges.proofs.EdgeLemmas.{all-drop, get-path, has-among}
use Rattle.nj_edges.proofs.GraphLemmas.{files-at}
use Rattle.nj_edges.proofs.RootLemmas.{among-flat, inputs-joined, outputs-joined, parts-paths}

-- ---- tests

pub or-parts : (a b c x y z : Bool) → ((a || b || c) || (x || y || z)) ≡ ((a || x) || (b || y) || (c || z))
or-parts true b c x y z = refl
or-parts false b c true y z = or-true (b || c)
or-parts false true c false y z = refl
or-parts false false true false y z = sym (or-true y)
or-parts false false false false y z = refl

or-same : {a b c x y z : Bool} → a ≡ x → b ≡ y → c ≡ z → (a || b || c) ≡ (x || y || z)
or-same {b = b} {c = c} {x = x} {y = y} p q r =
    ap (λ t. t || b || c) p ∙ ap (λ t. x || t || c) q ∙ ap (λ t. x || y || t) r

any-parts : {E : Type 0} (p q r : E → Bool) (es : List E)
    → list_any (λ e. p e || q e || r e) es ≡ (list_any p es || list_any q es || list_any r es)
any-parts p q r [] = refl
any-parts p q r (e ∷ es) = ap (λ b. (p e || q e || r e) || b) (any-parts p q r es)
    ∙ or-parts (p e) (q e) (r e) (list_any p es) (list_any q es) (list_any r es)

-- ---- numbers

-- a path that is among them has a position
found-get : (path : List ℕ) (files : List (List ℕ)) → list_any (bytes_eq path) files ≡ true
    → (n : ℕ) × (slice_get files n ≡ Some path)
found-get path [] h = absurd (true≢false (sym h))
found-get path (p ∷ files) h = by (bytes_eq path p) refl h (found-get path files)
  where
    by : (b : Bool) → bytes_eq path p ≡ b → (b || list_any (bytes_eq path) files) ≡ true
        → (list_any (bytes_eq path) files ≡ true → (n : ℕ) × (slice_get files n ≡ Some path))
        → (n : ℕ) × (slice_get (p ∷ files) n ≡ Some path)
    by true e h' more = (zero, ap Some (sym ((bytes_eq-Decides path p).0 e)))
    by false e h' more = let rest = more h' in (suc rest.0, rest.1)

pub none-among : (files : List (List ℕ)) (path : List ℕ) → list_any (bytes_eq path) files ≡ false
    → (ns : List FileNo) → AreNumbers (length files) ns → is_among (paths_at files ns) path ≡ false
none-among files path absent [] are = refl
none-among files path absent (f ∷ ns) are =
    by (bytes_eq path (path_at files f)) refl (none-among files path absent ns are.1)
  where
    by : (b : Bool) → bytes_eq path (path_at files f) ≡ b → is_among (paths_at files ns) path ≡ false
        → is_among (paths_at files (f ∷ ns)) path ≡ false
    by true e more = absurd (true≢false (sym
        (among-get files f.0 path (get-path files f are.0
        ∙ ap Some (sym ((bytes_eq-Decides path (path_at files f)).0 e)))) ∙ absent))
    by false e more = ap (λ b. b || is_among (paths_at files ns) path) e ∙ more

-- ---- parts of edges

among-parts : (files : List (List ℕ)) (part : EdgePaths → List (List ℕ)) (ns : List FileNo)
    (span : EdgeRow → Span) (edge : EdgeRow → EdgePaths) (P : EdgeRow → Type 0)
    → ((row : EdgeRow) → P row → part (edge row) ≡ paths_at files (within ns (span row)))
    → (rows : List EdgeRow) → AllByRecursion P rows
    → (start : ℕ) → AreJoined (map span rows) start ns → (path : List ℕ)
    → is_among (paths_at files ns) path ≡ (list_any (λ e. is_among (part e) path) (map edge rows)
    || is_among (paths_at files (drop start ns)) path)
among-parts files part ns span edge P same rows all start joined path =
    ap (λ xs. is_among (paths_at files xs) path) (sym (take-append-drop start ns))
    ∙ ap (λ ps. is_among ps path) (map-append (path_at files) (take start ns) (drop start ns))
    ∙ list_any-append (bytes_eq path) (paths_at files (take start ns)) (paths_at files (drop start ns))
    ∙ ap (λ b. b || is_among (paths_at files (drop start ns)) path)
    (ap (λ xs. is_among (paths_at files xs) path) (sym joined)
    ∙ ap (λ ps. is_among ps path) (sym (parts-paths files part ns span edge P same rows all))
    ∙ among-flat part path (map edge rows))

module _ (files : List (List ℕ)) (l : Lists) (held : EdgesAreHeld files l) (path : List ℕ) where
  abbrev Inside : EdgeRow → Type 0
  Inside = RowIsWithin l.starts

  -- whether a path is among the files of one kind
  abbrev among : List FileNo → Bool
  among ns = is_among (paths_at files ns) path

  abbrev among_edges : (part : EdgePaths → List (List ℕ)) → Bool
  among_edges part = list_any (λ e. is_among (part e) path) (edges_of files l)

  at-numbers : AreNamed (length files) l
      → list_any (bytes_eq path) files ≡ (among l.outputs || among l.inputs || among l.validations)
  at-numbers named = by (list_any (bytes_eq path) files) refl
    where
      by : (b : Bool) → list_any (bytes_eq path) files ≡ b
          → b ≡ (among l.outputs || among l.inputs || among l.validations)
      by true e =
          let n = found-get path files e in
          sym (named n.0 (slice_get_within files n.0 path n.1))
          ∙ or-same (has-among files held.distinct n.0 path n.1 l.outputs held.outputs.are)
          (has-among files held.distinct n.0 path n.1 l.inputs held.inputs.are)
          (has-among files held.distinct n.0 path n.1 l.validations held.validations.are)
      by false e = sym (or-same (none-among files path e l.outputs held.outputs.are)
          (none-among files path e l.inputs held.inputs.are)
          (none-among files path e l.validations held.validations.are))

  outputs-among : among l.outputs ≡ (among_edges outputs_of || among (drop l.starts.outputs l.outputs))
  outputs-among = among-parts files outputs_of l.outputs (λ row. row.outputs) (edge_of_row files l) Inside
      (λ row inside. outputs-joined files l row) l.rows held.rows_are l.starts.outputs held.outputs.joined
      path

  inputs-among : among l.inputs ≡ (among_edges inputs_of || among (drop l.starts.inputs l.inputs))
  inputs-among = among-parts files inputs_of l.inputs (λ row. row.inputs) (edge_of_row files l) Inside
      (inputs-joined files l) l.rows held.rows_are l.starts.inputs held.inputs.joined path

  validations-among : among l.validations
      ≡ (among_edges (λ e. e.validations) || among (drop l.starts.validations l.validations))
  validations-among = among-parts files (λ e. e.validations) l.validations (λ row. row.validations)
      (edge_of_row files l) Inside (λ row inside. refl) l.rows held.rows_are l.starts.validations
      held.validations.joined path

  numbers-named : (among l.outputs || among l.inputs || among l.validations)
      ≡ is_named_so_far (table_of files l) path
  numbers-named =
      or-same outputs-among inputs-among validations-among
      ∙ sym (or-parts (among_edges outputs_of) (among_edges inputs_of) (among_edges (λ e. e.validations))
      (among (drop l.starts.outputs l.outputs)) (among (drop l.starts.inputs l.inputs))
      (among (drop l.starts.validations l.validations)))
      ∙ ap (λ b. b || (among (drop l.starts.outputs l.outputs) || among (drop l.starts.inputs l.inputs)
      || among (drop l.starts.validations l.validations)))
      (sym (any-parts (λ e. is_among (outputs_of e) path) (λ e. is_among (inputs_of e) path)
      (λ (e : EdgePaths). is_among e.validations path) (edges_of files l)))

  -- a file that edges name is held
  pub named-number : (n : ℕ) → slice_get files n ≡ Some path
      → is_named_so_far (table_of files l) path ≡ true
      → (has_number n l.outputs || has_number n l.inputs || has_number n l.validations) ≡ true
  named-number n here is =
      or-same (has-among files held.distinct n path here l.outputs held.outputs.are)
      (has-among files held.distinct n path here l.inputs held.inputs.are)
      (has-among files held.distinct n path here l.validations held.validations.are)
      ∙ numbers-named ∙ is

-- where no edge is being read
pub closed-named : (t : EdgeTable) (path : List ℕ) → t.«open» ≡ no_files
    → is_named_so_far t path ≡ is_named t.edges path
closed-named t path none = ap (λ (o : OpenEdge). is_named t.edges path ||
    (is_among o.outputs path || is_among o.inputs path || is_among o.validations path)) none
    ∙ or-false (is_named t.edges path)

pub table-files : (files : List (List ℕ)) (l : Lists) → TableIsHeld files l → (t : EdgeTable)
    → table_of files l ≡ t → (path : List ℕ) → list_any (bytes_eq path) t.files ≡ is_named_so_far t path
table-files files l held t is path =
    subst (λ u. list_any (bytes_eq path) u.files ≡ is_named_so_far u path) is
    (at-numbers files l held.edges_are path held.named ∙ numbers-named files l held.edges_are path)

pub graph-files : (files : List (List ℕ)) (l : Lists) → TableIsHeld files l
    → (table_of files l).«open» ≡ no_files → (g : EdgeGraph)
    → record { files = files; edges = edges_of files l } ≡ g
    → (path : List ℕ) → list_any (bytes_eq path) g.files ≡ is_named g.edges path
graph-files files l held closed g is path =
    subst (λ (h : EdgeGraph). list_any (bytes_eq path) h.files ≡ is_named h.edges path) is
    (table-files files l held (table_of files l) refl path ∙ closed-named (table_of files l) path closed)

-- ---- the files of the edge that is being read

pub open-files : (files : List (List ℕ)) (ns : List FileNo) (start : ℕ) → AreNumbers (length files) ns
    → AreFiles files (drop start ns) (paths_at files (drop start ns))
open-files files ns start are = files-at files (drop start ns)
    (all-drop (λ f. f.0 < length files) start ns are)

pub open-has : (files : List (List ℕ)) (ns : List FileNo) (start : ℕ) → IsDistinct bytes_eq files
    → AreNumbers (length files) ns → (n : ℕ) (path : List ℕ) → slice_get files n ≡ Some path
    → has_number n (drop start ns) ≡ is_among (paths_at files (drop start ns)) path
open-has files ns start distinct are n path here =
    has-among files distinct n path here (drop start ns) (all-drop (λ f. f.0 < length files) start ns are)

pub open-none : (files : List (List ℕ)) (ns : List FileNo) (start : ℕ) → AreNumbers (length files) ns
    → (path : List ℕ) → list_any (bytes_eq path) files ≡ false
    → is_among (paths_at files (drop start ns)) path ≡ false
open-none files ns start are path absent =
    none-among files path absent (drop start ns) (all-drop (λ f. f.0 < length files) start ns are)
