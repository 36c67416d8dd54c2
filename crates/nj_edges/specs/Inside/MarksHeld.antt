-- How inputs that are added to edges are distinguished from existing inputs. Nothing here has to be believed.
use Rattle.std.specs.Prelude.{◌≡◌, ℕ, ◌<◌, ◌≤◌, Bool, true, false, if◌then◌else◌, Option, Some, None, List, length, slice_index_or, bytes_eq}
use Rattle.std.specs.List.{IsDistinct}
use Rattle.nj_names.specs.declared.files.FileNo.{FileNo}
use Rattle.nj_edges.specs.Edges.{counted_inputs_of, edge_at, is_among}
use Rattle.nj_edges.specs.Inside.EdgesHeld.{has_number, is_edge, AreNumbers}
use Rattle.nj_names.specs.Files.{AreFiles, path_at}
use Rattle.nj_edges.specs.Joining.{JoinTable, is_joined}
use Rattle.nj_edges.specs.MoreInputs.{InputTable, inputs_so_far}

-- whether the file with the given number is marked with an edge
abbrev pub is_marked : (marks : List (Option ℕ)) → (file edge : ℕ) → Bool
is_marked marks file edge = is_edge (slice_index_or marks file None) edge

-- Files are marked with the edges that have them as explicit or implicit inputs. The edge to which inputs are added marks the inputs that it has so far, and
-- no file is marked with a later edge. No inputs were added to that edge or to later edges.
pub record AreMarked (t : InputTable) (marks : List (Option ℕ)) : Type 0 where
  pub distinct : IsDistinct bytes_eq t.table.files
  pub count : length marks ≡ length t.table.files
  pub tell : (f : FileNo) → f.0 < length t.table.files → is_marked marks f.0 t.edge ≡ is_among (inputs_so_far t) (path_at t.table.files f)
  pub known : (path : List ℕ) → is_among (inputs_so_far t) path ≡ true → is_among t.table.files path ≡ true
  pub later : (n edge : ℕ) → t.edge < edge → is_marked marks n edge ≡ false
  pub not_joined : (edge : ℕ) → t.edge ≤ edge → is_joined t.table edge ≡ false

-- the files are marked with the edge, and the other files as before
abbrev pub MarksFiles : List FileNo → (edge : ℕ) → (old new : List (Option ℕ)) → Type 0
MarksFiles files edge old new =
    (length new ≡ length old)
    × ((n : ℕ) → slice_index_or new n None ≡ (if has_number n files then Some edge else slice_index_or old n None))

-- the explicit and the implicit inputs of the edge with the given number, if any, are marked with it
pub record MarksInputs (table : JoinTable) (edge : ℕ) (old new : List (Option ℕ)) : Type 0 where
  pub files : List FileNo
  pub are : AreFiles table.files files (counted_inputs_of (edge_at table.stated edge))
  pub known : AreNumbers (length table.files) files
  pub marked : MarksFiles files edge old new
