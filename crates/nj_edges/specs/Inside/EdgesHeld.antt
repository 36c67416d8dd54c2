-- How the edges of a graph are held: by the numbers of files.
use Rattle.std.specs.Prelude.{◌≡◌, ℕ, ◌<◌, ◌≤◌, ◌-◌, ◌==◌, ◌||◌, if◌then◌else◌, Bool, true, false, Option, None, Some, List, []}
use Rattle.std.specs.Prelude.{◌∷◌, ◌++◌, map, length, take, drop, slice_get, slice_index_or, slice_range, bytes_eq}
use Rattle.std.specs.List.{list_any, flat_map, AllByRecursion, IsDistinct}
use Rattle.nj_names.specs.declared.files.FileNo.{FileNo}
use Rattle.nj_edges.specs.declared.edge_lists.EdgeLists.{EdgeLists}
use Rattle.nj_edges.specs.declared.edges.Span.{Span}
use Rattle.nj_edges.specs.declared.edges.EdgeRow.{EdgeRow}
use Rattle.nj_edges.specs.declared.edges.KindEnds.{KindEnds}
use Rattle.nj_edges.specs.declared.edges.OpenStarts.{OpenStarts}
use Rattle.nj_edges.specs.Edges.{EdgePaths, first_edge}
use Rattle.nj_names.specs.Files.{path_at}
use Rattle.nj_names.specs.NameTables.{with_name}
use Rattle.nj_edges.specs.EdgeTables.{EdgeTable, EndWithin, edge_read}

-- ---- by numbers

abbrev pub paths_at : (files : List (List ℕ)) → List FileNo → List (List ℕ)
paths_at files numbers = map (path_at files) numbers

abbrev pub within : {A : Type 0} → List A → Span → List A
within items span = slice_range items span.start span.end

-- the lists of the edges: the maker of each file, the concatenated files of all edges, and the row of each edge. The files from the
-- starts on belong to the edge that is being read.
pub record Lists : Type 0 where
  pub makers : List (Option ℕ)
  pub outputs : List FileNo
  pub inputs : List FileNo
  pub validations : List FileNo
  pub rows : List EdgeRow
  pub starts : OpenStarts

abbrev pub lists_of : EdgeLists → Lists
lists_of l = record {
  makers = l.makers;
  outputs = l.outputs.items;
  inputs = l.inputs.items;
  validations = l.validations.items;
  rows = l.rows;
  starts = l.starts;
}

-- no edges, and the given makers of files
abbrev pub no_lists : (makers : List (Option ℕ)) → Lists
no_lists makers = record {
  makers = makers;
  outputs = [];
  inputs = [];
  validations = [];
  rows = [];
  starts = record { outputs = 0; inputs = 0; validations = 0 };
}

abbrev pub edge_of_row : (files : List (List ℕ)) → Lists → EdgeRow → EdgePaths
edge_of_row files l row =
    edge_read (record {
      outputs = paths_at files (within l.outputs row.outputs);
      inputs = paths_at files (within l.inputs row.inputs);
      validations = paths_at files (within l.validations row.validations);
    }) row.kinds row.is_phony

abbrev pub edges_of : (files : List (List ℕ)) → Lists → List EdgePaths
edges_of files l = map (edge_of_row files l) l.rows

abbrev pub row_between : (starts ends : OpenStarts) → KindEnds → Bool → EdgeRow
row_between starts ends kinds is_phony = record {
  outputs = record { start = starts.outputs; end = ends.outputs };
  inputs = record { start = starts.inputs; end = ends.inputs };
  validations = record { start = starts.validations; end = ends.validations };
  kinds = kinds;
  is_phony = is_phony;
}

-- where the next edge starts
abbrev pub ends_of : Lists → OpenStarts
ends_of l = record { outputs = length l.outputs; inputs = length l.inputs; validations = length l.validations }

-- the edge that is being read has ended, with the given ends of its kinds
abbrev pub with_row : Lists → KindEnds → Bool → Lists
with_row l kinds is_phony = record l { rows = l.rows ++ row_between l.starts (ends_of l) kinds is_phony ∷ []; starts = ends_of l }

-- the table that the lists hold
abbrev pub table_of : (files : List (List ℕ)) → Lists → EdgeTable
table_of files l = record {
  files = files;
  edges = edges_of files l;
  «open» = record {
    outputs = paths_at files (drop l.starts.outputs l.outputs);
    inputs = paths_at files (drop l.starts.inputs l.inputs);
    validations = paths_at files (drop l.starts.validations l.validations);
  };
}

-- whether the file with the given number is among the given files
abbrev pub has_number : ℕ → List FileNo → Bool
has_number n numbers = list_any (λ f. n == f.0) numbers

-- all numbers are numbers of files
abbrev pub AreNumbers : (count : ℕ) → List FileNo → Type 0
AreNumbers count numbers = AllByRecursion (λ f. f.0 < count) numbers

pub record IsWithin (span : Span) (end : ℕ) : Type 0 where
  pub rises : span.start ≤ span.end
  pub ends : span.end ≤ end

-- the parts joined in order are the list up to an index
abbrev pub AreJoined : List Span → (end : ℕ) → List FileNo → Type 0
AreJoined spans end files = flat_map (within files) spans ≡ take end files

-- the files of an edge come before the files of the edge that is being read
pub record RowIsWithin (starts : OpenStarts) (row : EdgeRow) : Type 0 where
  pub outputs : IsWithin row.outputs starts.outputs
  pub inputs : IsWithin row.inputs starts.inputs
  pub validations : IsWithin row.validations starts.validations
  pub kinds : EndWithin row.kinds (row.outputs.end - row.outputs.start) (row.inputs.end - row.inputs.start)

-- the outputs by edge
abbrev pub read_outputs : Lists → List (List FileNo)
read_outputs l = map (λ row. within l.outputs row.outputs) l.rows

-- and the outputs of the edge that is being read
abbrev pub output_rows : Lists → List (List FileNo)
output_rows l = read_outputs l ++ drop l.starts.outputs l.outputs ∷ []

-- the maker of each file: the first edge that has it as an output
abbrev pub HaveMakers : (output_rows : List (List FileNo)) → (makers : List (Option ℕ)) → Type 0
HaveMakers rows makers = (n : ℕ) → n < length makers → slice_get makers n ≡ Some (first_edge (has_number n) rows)

-- the makers of the files after a path is named: a new file has no maker
abbrev pub with_maker : (files : List (List ℕ)) → (path : List ℕ) → (makers : List (Option ℕ)) → List (Option ℕ)
with_maker files path makers = if list_any (bytes_eq path) files then makers else makers ++ None ∷ []

-- a path has a number from now on: the number of the given file
pub record IsNamed (files : List (List ℕ)) (makers : List (Option ℕ)) (path : List ℕ) (new_files : List (List ℕ))
    (new_makers : List (Option ℕ)) (file : FileNo) : Type 0 where
  pub files_are : new_files ≡ with_name files path
  pub makers_are : new_makers ≡ with_maker files path makers
  pub distinct : IsDistinct bytes_eq new_files
  pub number : slice_get new_files file.0 ≡ Some path

abbrev pub is_edge : Option ℕ → (edge : ℕ) → Bool
is_edge None edge = false
is_edge (Some maker) edge = maker == edge

-- whether an edge is the maker of a file
abbrev pub is_made_by : (makers : List (Option ℕ)) → (file edge : ℕ) → Bool
is_made_by makers file edge = is_edge (slice_index_or makers file None) edge

-- the makers of the inputs of the edge with the given number, by its row
abbrev pub makers_in_rows : Lists → (edge : ℕ) → List (Option ℕ)
makers_in_rows l edge =
    slice_index_or (map (λ (row : EdgeRow). map (λ f. slice_index_or l.makers f.0 None) (within l.inputs row.inputs)) l.rows) edge []

-- the outputs, the inputs or the validations of all edges: the files of the edges that were read are stored one after
-- another
pub record PartsAreHeld (count : ℕ) (spans : List Span) (start : ℕ) (numbers : List FileNo) : Type 0 where
  pub are : AreNumbers count numbers
  pub joined : AreJoined spans start numbers
  pub starts : start ≤ length numbers

pub record EdgesAreHeld (files : List (List ℕ)) (l : Lists) : Type 0 where
  pub distinct : IsDistinct bytes_eq files
  pub makers_count : length l.makers ≡ length files
  pub makers_are : HaveMakers (output_rows l) l.makers
  pub rows_are : AllByRecursion (RowIsWithin l.starts) l.rows
  pub outputs : PartsAreHeld (length files) (map (λ row. row.outputs) l.rows) l.starts.outputs l.outputs
  pub inputs : PartsAreHeld (length files) (map (λ row. row.inputs) l.rows) l.starts.inputs l.inputs
  pub validations : PartsAreHeld (length files) (map (λ row. row.validations) l.rows) l.starts.validations l.validations

-- an edge has the files with the given numbers, divided into the given kinds
pub record HasFiles (files : List (List ℕ)) (e : EdgePaths) (outputs inputs validations : List FileNo) (kinds : KindEnds)
    (is_phony : Bool) : Type 0 where
  pub is : e ≡ edge_read (record {
    outputs = paths_at files outputs;
    inputs = paths_at files inputs;
    validations = paths_at files validations;
  }) kinds is_phony
  pub outputs_are : AreNumbers (length files) outputs
  pub inputs_are : AreNumbers (length files) inputs
  pub validations_are : AreNumbers (length files) validations
  pub kinds_end : EndWithin kinds (length outputs) (length inputs)

-- no other edge makes an output of the edge that is being read
abbrev pub OpenAreNew : Lists → Type 0
OpenAreNew l =
    (n : ℕ) → has_number n (drop l.starts.outputs l.outputs) ≡ true → first_edge (has_number n) (read_outputs l) ≡ None

-- each file is named by some edge
abbrev pub AreNamed : (count : ℕ) → Lists → Type 0
AreNamed count l =
    (n : ℕ) → n < count → (has_number n l.outputs || has_number n l.inputs || has_number n l.validations) ≡ true

pub record TableIsHeld (files : List (List ℕ)) (l : Lists) : Type 0 where
  pub edges_are : EdgesAreHeld files l
  pub open_are_new : OpenAreNew l
  pub named : AreNamed (length files) l
