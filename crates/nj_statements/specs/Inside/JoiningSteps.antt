-- How the code joins the discoveries of dyndep files, step by step.
use Rattle.std.specs.Prelude.{◌≡◌, ℕ, ◌+◌, ◌<◌, ◌==◌, Bool, true, false, ◌||◌, not, if◌then◌else◌, Option, Some, None, option_map, unwrap_or, IfSome}
use Rattle.std.specs.Bool.{then_some}
use Rattle.std.specs.Prelude.{List, [], ◌∷◌, ◌++◌, filter, length, set, slice_index_or}
use Rattle.nj_text.specs.Words.{WordModel}
use Rattle.nj_names.specs.declared.files.FileNo.{FileNo}
use Rattle.nj_edges.specs.Edges.{EdgePaths, first_output, maker_of}
use Rattle.nj_names.specs.Files.{path_at}
use Rattle.nj_edges.specs.Joining.{changed_at, JoinTable, with_added_output, with_added_input, is_joined}
use Rattle.nj_faults.specs.declared.fault.GraphFault.{GraphFault}
use Rattle.nj_faults.specs.declared.fault.Cause.TheVariants.{DyndepExtra, DyndepTwice, DyndepNoStatement}
use Rattle.nj_faults.specs.Faults.{fault_at}
use Rattle.nj_statements.specs.declared.edge_record.Detail.{Detail}
use Rattle.nj_statements.specs.declared.records.DyndepEdge.{DyndepEdge}
use Rattle.nj_statements.specs.EdgeList.{path_given}
use Rattle.nj_statements.specs.Built.{EdgeDetail}
use Rattle.nj_statements.specs.Records.{RecordsModel}
use Rattle.nj_statements.specs.Joining.{no_values, discover}
use Rattle.nj_scope.specs.ReadingList.{Discovered, ReadStatement}

abbrev pub discover_for : Option ℕ → Discovered → List ReadStatement → List ReadStatement
discover_for edge found joined = unwrap_or (option_map (λ edge. discover edge found joined) edge) joined

-- the edge, if any, is bound to the given file
abbrev pub is_bound_to : Option DyndepEdge → FileNo → Bool
is_bound_to (Some bound) file = bound.file.0 == file.0
is_bound_to None file = false

abbrev pub one_if : Bool → ℕ
one_if true = 1
one_if false = 0

-- how many of the given edges are pending on a file
abbrev pub count_pending : FileNo → (unjoined : List (Option DyndepEdge)) → ℕ
count_pending file [] = 0
count_pending file (w ∷ unjoined) = one_if (is_bound_to w file) + count_pending file unjoined

-- how many of the given edges are bound to a file
abbrev pub count_bound : FileNo → List DyndepEdge → ℕ
count_bound file [] = 0
count_bound file (d ∷ dyndeps) = one_if (d.file.0 == file.0) + count_bound file dyndeps

-- the given edges are bound to their files, each at the index of its number
abbrev pub bind_all : List DyndepEdge → (bound : List (Option DyndepEdge)) → List (Option DyndepEdge)
bind_all [] bound = bound
bind_all (d ∷ dyndeps) bound = bind_all dyndeps (set bound d.edge.0 (Some d))

-- each edge is at the index of its number
abbrev pub AreByNumber : (bound : List (Option DyndepEdge)) → Type 0
AreByNumber bound = (number : ℕ) → IfSome (slice_index_or bound number None) (λ d. d.edge.0 ≡ number)

-- for each file, the first of the given edges that are bound to it
abbrev pub first_edges : List DyndepEdge → List DyndepEdge
first_edges [] = []
first_edges (d ∷ others) = d ∷ filter (λ other. not (other.file.0 == d.file.0)) (first_edges others)

-- the edges, without the empty places
abbrev pub edge_if : Option DyndepEdge → List DyndepEdge
edge_if (Some d) = d ∷ []
edge_if None = []

abbrev pub edges_in : (bound : List (Option DyndepEdge)) → List DyndepEdge
edges_in [] = []
edges_in (b ∷ bound) = edge_if b ++ edges_in bound

-- the path of the file to which an edge is bound
abbrev pub file_named : (files : List (List ℕ)) → Option DyndepEdge → Option (List ℕ)
file_named files bound = option_map (λ d. path_at files d.file) bound

-- the edge, if it is bound to a file
abbrev pub if_bound : (bound : List (Option DyndepEdge)) → FileNo → Option ℕ → Option ℕ
if_bound bound file None = None
if_bound bound file (Some edge) = if is_bound_to (slice_index_or bound edge None) file then Some edge else None

abbrev pub maker_fault : (name : List ℕ) → WordModel → JoinTable → Option ℕ → Option GraphFault
maker_fault name word table None = Some (fault_at name word.spot (DyndepExtra (path_given no_values word)))
maker_fault name word table (Some edge) =
    then_some (is_joined table edge) (fault_at name word.spot (DyndepTwice (path_given no_values word)))

-- the edge that makes the file of a word, if the edge is bound to the given dyndep file
abbrev pub edge_bound : JoinTable → (bound : List (Option DyndepEdge)) → FileNo → WordModel → Option ℕ
edge_bound table bound file word = if_bound bound file (maker_of table.stated (path_given no_values word))

-- the given edge, to which nothing was joined yet
pub record IsMeant (table : JoinTable) (bound : List (Option DyndepEdge)) (file : FileNo) (word : WordModel) (edge : ℕ) : Type 0 where
  pub is : edge_bound table bound file word ≡ Some edge
  pub known : edge < length table.stated
  pub first : is_joined table edge ≡ false

-- the fault of an edge that is still pending on a file at the end of that file
abbrev pub fault_of_pending : (path : List ℕ) → EdgeDetail → EdgePaths → GraphFault
fault_of_pending path detail e =
    fault_at detail.file detail.spot (DyndepNoStatement (unwrap_or (first_output e) []) path)

-- the same edge, with whether a dyndep file binds `restat` for it
abbrev pub also_restat : Bool → Detail → Detail
also_restat restat d = record d { restat = d.restat || restat }

-- the records, with whether a dyndep file binds `restat` for the given edge
abbrev pub with_restat : Bool → (edge : ℕ) → RecordsModel → RecordsModel
with_restat restat edge r = record r { details = changed_at (also_restat restat) edge r.details }

abbrev pub with_added_outputs : JoinTable → (paths : List (List ℕ)) → JoinTable
with_added_outputs t [] = t
with_added_outputs t (path ∷ paths) = with_added_outputs (with_added_output t path) paths

abbrev pub with_added_inputs : JoinTable → (paths : List (List ℕ)) → JoinTable
with_added_inputs t [] = t
with_added_inputs t (path ∷ paths) = with_added_inputs (with_added_input t path) paths
