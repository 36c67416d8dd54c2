-- How the edges of a graph, and the files that are added to them, are held. Nothing here has to be believed.
use Rattle.std.specs.Prelude.{◌≡◌, ℕ, ◌≤◌, Option, Some, None, is_some, List, [], ◌∷◌, ◌++◌, map, length, take, drop}
use Rattle.std.specs.List.{AllByRecursion, list_any}
use Rattle.nj_edges.specs.declared.edges.Span.{Span}
use Rattle.nj_edges.specs.declared.joined_edges.AddedSpans.{AddedSpans}
use Rattle.nj_edges.specs.Edges.{EdgePaths, is_among}
use Rattle.nj_edges.specs.EdgeTables.{EdgeTable, OpenEdge, no_files}
use Rattle.nj_edges.specs.Inside.EdgesHeld.{IsWithin, within}
use Rattle.nj_edges.specs.Joining.{AddedFiles, JoinTable, with_added}

-- ---- the additions: parts of the files of the edge that is being read

-- where the additions to an edge are; an empty span if the edge was not joined
abbrev pub spans_of : Option AddedSpans → AddedSpans
spans_of None = record { outputs = record { start = 0; end = 0 }; inputs = record { start = 0; end = 0 } }
spans_of (Some spans) = spans

abbrev pub output_spans : List (Option AddedSpans) → List Span
output_spans added = map (λ found. (spans_of found).outputs) added

abbrev pub input_spans : List (Option AddedSpans) → List Span
input_spans added = map (λ found. (spans_of found).inputs) added

abbrev pub added_at : OpenEdge → AddedSpans → AddedFiles
added_at all spans = record { outputs = within all.outputs spans.outputs; inputs = within all.inputs spans.inputs }

-- an edge with its additions
abbrev pub joined_edge : OpenEdge → AddedSpans → EdgePaths → EdgePaths
joined_edge all spans e = with_added (added_at all spans) e

-- the edges with the additions to each
abbrev pub joined_by : OpenEdge → List EdgePaths → List (Option AddedSpans) → List EdgePaths
joined_by all [] added = []
joined_by all (e ∷ edges) [] = []
joined_by all (e ∷ edges) (found ∷ added) = joined_edge all (spans_of found) e ∷ joined_by all edges added

-- the table that the fields hold
abbrev pub join_held : EdgeTable → List (Option AddedSpans) → (open_outputs open_inputs : ℕ) → JoinTable
join_held t added open_outputs open_inputs = record {
  files = t.files;
  stated = t.edges;
  joined = joined_by t.«open» t.edges added;
  was_joined = map is_some added;
  «open» = record { outputs = drop open_outputs t.«open».outputs; inputs = drop open_inputs t.«open».inputs };
}

-- the parts of a list together have the same paths as the list up to an index
pub record ArePartsOf (paths : List (List ℕ)) (end : ℕ) (spans : List Span) : Type 0 where
  pub ends : end ≤ length paths
  pub spans_within : AllByRecursion (λ span. IsWithin span end) spans
  pub whole : (path : List ℕ) → list_any (λ span. is_among (within paths span) path) spans ≡ is_among (take end paths) path

pub record JoinIsHeld (t : EdgeTable) (added : List (Option AddedSpans)) (open_outputs open_inputs : ℕ) : Type 0 where
  pub count : length added ≡ length t.edges
  pub outputs : ArePartsOf t.«open».outputs open_outputs (output_spans added)
  pub inputs : ArePartsOf t.«open».inputs open_inputs (input_spans added)
  pub validations : t.«open».validations ≡ []

-- ---- the edges with their additions

-- the table of the first edges with their additions
abbrev pub joined_up_to : EdgeTable → List (Option AddedSpans) → (count : ℕ) → EdgeTable
joined_up_to t added count = record { files = t.files; edges = take count (joined_by t.«open» t.edges added); «open» = no_files }

-- the table of all edges with their additions
abbrev pub all_joined : EdgeTable → List (Option AddedSpans) → EdgeTable
all_joined t added = record { files = t.files; edges = joined_by t.«open» t.edges added; «open» = no_files }

-- the table with one more edge, after which another edge is read
abbrev pub with_edge : EdgeTable → EdgePaths → EdgeTable
with_edge t e = record { files = t.files; edges = t.edges ++ e ∷ []; «open» = no_files }

abbrev pub plus_outputs : EdgeTable → (paths : List (List ℕ)) → EdgeTable
plus_outputs t paths = record t { «open» = record t.«open» { outputs = t.«open».outputs ++ paths } }

abbrev pub plus_inputs : EdgeTable → (paths : List (List ℕ)) → EdgeTable
plus_inputs t paths = record t { «open» = record t.«open» { inputs = t.«open».inputs ++ paths } }

abbrev pub plus_validations : EdgeTable → (paths : List (List ℕ)) → EdgeTable
plus_validations t paths = record t { «open» = record t.«open» { validations = t.«open».validations ++ paths } }
