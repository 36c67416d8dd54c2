-- Lemmas on the users of the files of a graph.
use Rattle.std.proofs.lemmas.Grind.{common_steps}
use Rattle.std.proofs.Common.{◌≡◌, ◌<◌, ◌≤◌, ◌+◌, ◌-◌, ℕ, Bool, true, false, cond, List, [], ◌∷◌, map, length}
use Rattle.std.proofs.Common.{take, refl, sym, ap, subst, ◌∙◌, arith}
use Rattle.std.specs.List.{All, AllByRecursion}
use Rattle.std.proofs.lemmas.List.{take-map}
use Rattle.std.proofs.lemmas.List.Elements.{All-from_recursion}
use Rattle.nj_names.specs.declared.files.FileNo.{FileNo}
use Rattle.nj_edges.specs.declared.edges.EdgeNo.{EdgeNo}
use Rattle.nj_edges.specs.declared.edges.EdgeRow.{EdgeRow}
use Rattle.nj_edges.specs.declared.users.RowPart.{RowPart}
use Rattle.nj_edges.specs.declared.users.Users.{Users}
use Rattle.nj_edges.specs.declared.users.RowPart.TheVariants.{CountedInputs, Inputs, Outputs, Validations}
use Rattle.nj_edges.specs.EdgeGraphs.{EdgeGraph}
use Rattle.nj_edges.specs.Edges.{edges_from, is_among}
use Rattle.nj_edges.specs.Inside.DirtyHeld.{HaveUsersIn, paths_in, users_in}
use Rattle.nj_edges.specs.Inside.EdgesHeld.{Lists, has_number, paths_at, within, edge_of_row, edges_of}
use Rattle.nj_edges.specs.Inside.EdgesHeld.{AreNumbers}
use Rattle.nj_edges.specs.Inside.EdgesHeld.{EdgesAreHeld, IsWithin, RowIsWithin}
use Rattle.nj_names.specs.Files.{path_at}
use Rattle.nj_edges.specs.Inside.UsersHeld.{AreParts, HaveUsers, IsPart, numbers_of, span_of}
use Rattle.nj_edges.specs.Inside.UsersHeld.{using_edges}
use Rattle.nj_edges.proofs.EdgeLemmas.{all-of, get-path, has-among, within-numbers}
use Rattle.nj_edges.proofs.GraphLemmas.{counted-joined}
use Rattle.nj_edges.proofs.RootLemmas.{inputs-joined, outputs-joined}

pub edges-map : {E F : Type 0} (k : ℕ) (test : F → Bool) (f : E → F) (es : List E)
    → edges_from k test (map f es) ≡ edges_from k (λ e. test (f e)) es
edges-map k test f [] = refl
edges-map k test f (e ∷ es) = ap (λ xs. cond (test (f e)) (k ∷ xs) xs) (edges-map (k + 1) test f es)

pub edges-same : {E : Type 0} (k : ℕ) (t u : E → Bool) (P : E → Type 0) → ((e : E) → P e → t e ≡ u e)
    → (es : List E) → AllByRecursion P es → edges_from k t es ≡ edges_from k u es
edges-same k t u P same [] all = refl
edges-same k t u P same (e ∷ es) all = grind (arith, common_steps, (edges-same (k + 1) t u P same es all.1))

edges-below : {E : Type 0} (k : ℕ) (test : E → Bool) (es : List E)
    → AllByRecursion (λ n. n < k + length es) (edges_from k test es)
edges-below k test [] = tt
edges-below k test (e ∷ es) = by (test e)
    (all-of (λ n. n < (k + 1) + length es) (λ n. n < k + length (e ∷ es)) (λ n below. omega arith)
    (edges_from (k + 1) test es) (edges-below (k + 1) test es))
  where
    by : (b : Bool) → AllByRecursion (λ n. n < k + length (e ∷ es)) (edges_from (k + 1) test es)
        → AllByRecursion (λ n. n < k + length (e ∷ es))
        (cond b (k ∷ edges_from (k + 1) test es) (edges_from (k + 1) test es))
    by true rest = (omega arith, rest)
    by false rest = rest

all-numbers : (count : ℕ) (edges : List EdgeNo) → AllByRecursion (λ n. n < count) (numbers_of edges)
    → AllByRecursion (λ e. e.0 < count) edges
all-numbers count [] all = tt
all-numbers count (e ∷ edges) all = (all.0, all-numbers count edges all.1)

pub users-known : {E : Type 0} (test : E → Bool) (es : List E) (found : List EdgeNo)
    → numbers_of found ≡ edges_from 0 test es → All (λ e. e.0 < length es) found
users-known test es found is = All-from_recursion (λ (e : EdgeNo). e.0 < length es) found
    (all-numbers (length es) found (subst (AllByRecursion (λ n. n < length es)) (sym is)
    (all-of (λ n. n < 0 + length es) (λ n. n < length es) (λ n below. omega arith) (edges_from 0 test es)
    (edges-below 0 test es))))

-- ---- the users by a part of the edges

counted-range : (inputs : List FileNo) (row : EdgeRow)
    → row.kinds.implicit_inputs ≤ row.inputs.end - row.inputs.start
    → within inputs (span_of CountedInputs row) ≡ take row.kinds.implicit_inputs (within inputs row.inputs)
counted-range inputs row le = grind (arith, common_steps)

-- the files of this part of all edges
abbrev pub part_of : RowPart → Lists → List FileNo
part_of Inputs l = l.inputs
part_of CountedInputs l = l.inputs
part_of Outputs l = l.outputs
part_of Validations l = l.validations

module _ (files : List (List ℕ)) (l : Lists) (held : EdgesAreHeld files l) where
  pub part-numbers : (part : RowPart) → AreNumbers (length files) (part_of part l)
  part-numbers Inputs = held.inputs.are
  part-numbers CountedInputs = held.inputs.are
  part-numbers Outputs = held.outputs.are
  part-numbers Validations = held.validations.are

  row-within : (part : RowPart) (row : EdgeRow) → RowIsWithin l.starts row
      → IsWithin (span_of part row) (length (part_of part l))
  row-within Inputs row inside = grind (arith, common_steps)
  row-within CountedInputs row inside = grind (arith, common_steps)
  row-within Outputs row inside = grind (arith, common_steps)
  row-within Validations row inside = grind (arith, common_steps)

  pub part-within : (part : RowPart)
      → AllByRecursion (λ row. IsWithin (span_of part row) (length (part_of part l))) l.rows
  part-within part = all-of (RowIsWithin l.starts)
      (λ row. IsWithin (span_of part row) (length (part_of part l))) (row-within part) l.rows held.rows_are

  part-paths : (part : RowPart) (row : EdgeRow) → RowIsWithin l.starts row
      → paths_at files (within (part_of part l) (span_of part row)) ≡ paths_in part (edge_of_row files l row)
  part-paths Inputs row inside = sym (inputs-joined files l row inside)
  part-paths CountedInputs row inside = grind (arith, counted-joined, counted-range, take-map)
  part-paths Outputs row inside = sym (outputs-joined files l row)
  part-paths Validations row inside = refl

  module _ (g : EdgeGraph) (is : record { files = files; edges = edges_of files l } ≡ g) (part : RowPart)
    where
      -- the users of a file, by paths
      pub users-paths : (f : FileNo) → f.0 < length g.files
          → using_edges (part_of part l) part 0 l.rows f.0 ≡ users_in part g f.0
      users-paths f below' =
          edges-same 0 (λ row. has_number f.0 (within (part_of part l) (span_of part row)))
          (λ row. is_among (paths_in part (edge_of_row files l row)) path) (RowIsWithin l.starts)
          (λ row inside. has-among files held.distinct f.0 path (get-path files f below)
          (within (part_of part l) (span_of part row))
          (within-numbers (length files) (part_of part l) (span_of part row) (part-numbers part))
          ∙ ap (λ ps. is_among ps path) (part-paths part row inside)) l.rows held.rows_are
          ∙ sym (edges-map 0 (λ e. is_among (paths_in part e) path) (edge_of_row files l) l.rows)
          ∙ ap (λ (v : EdgeGraph). users_in part v f.0) is
        where
          path : List ℕ
          path = path_at files f

          below : f.0 < length files
          below = subst (λ (v : EdgeGraph). f.0 < length v.files) (sym is) below'

      pub have-users : (users : Users)
          → HaveUsers (length files) users.starts.items (numbers_of users.edges.items)
          (using_edges (part_of part l) part 0 l.rows) → HaveUsersIn part g users
      have-users users have = record {
        count_is = have.count_is ∙ count;
        parts_are = λ n below. subst (IsPart (numbers_of users.edges.items) _ _)
            (users-paths (record { 0 = n }) (omega (arith, below, have.count_is, count)))
            (have.parts_are n below);
      }
        where
          count : length files + 1 ≡ length g.files + 1
          count = ap (λ (v : EdgeGraph). length v.files + 1) is

      pub starts-below : (f : FileNo) → f.0 < length g.files → (starts numbers : List ℕ) (uses : ℕ → List ℕ)
          → HaveUsers (length files) starts numbers uses → f.0 + 1 < length starts
      starts-below f below starts numbers uses users =
          omega (arith, below, users.count_is, ap (λ (v : EdgeGraph). length v.files) is)

-- the parts, as borrowed
pub parts-lent : (count : ℕ) (starts ss : List ℕ) (edges es : List EdgeNo) (uses : ℕ → List ℕ) → ss ≡ starts
    → es ≡ edges → HaveUsers count starts (numbers_of edges) uses → AreParts ss (numbers_of es) uses
parts-lent count starts ss edges es uses s e held = rw (s, e) held.parts_are

pub held-users : (count n : ℕ) (starts numbers : List ℕ) (part : RowPart) (fs files : List FileNo)
    (rows : List EdgeRow) → count ≡ n → fs ≡ files
    → HaveUsers count starts numbers (using_edges fs part 0 rows)
    → HaveUsers n starts numbers (using_edges files part 0 rows)
held-users count n starts numbers part fs files rows c f held = rw (← c, ← f) held
