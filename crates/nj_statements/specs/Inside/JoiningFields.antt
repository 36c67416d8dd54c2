-- The meaning of the fields of the edges to which dyndep files are joined.
use Rattle.std.specs.Prelude.{◌≡◌, ℕ, ◌<◌, ◌≤◌, false, Option, IfSome, List, map, length, slice_get, slice_index_or, bytes_eq}
use Rattle.std.specs.List.{AllByRecursion, IsDistinct}
use Rattle.nj_names.specs.declared.files.FileNo.{FileNo}
use Rattle.nj_edges.specs.EdgeGraphs.{EdgeGraph}
use Rattle.nj_edges.specs.Joining.{JoinTable, is_joined}
use Rattle.nj_statements.specs.declared.dyndep_entries.Joining.TheInside.{Inside}
use Rattle.nj_statements.specs.declared.records.DyndepEdge.{DyndepEdge}
use Rattle.nj_statements.specs.Records.{AreOfGraph, RecordsModel, pending_named, with_graph}
use Rattle.nj_statements.specs.JoiningHeld.{JoiningModel, still_pending}
use Rattle.nj_statements.specs.Inside.JoiningSteps.{AreByNumber, count_pending, file_named}

-- the fields, without the spare capacity of their lists
pub record JoiningFields : Type 0 where
  pub table : JoinTable
  pub records : RecordsModel
  pub dyndep_files : List DyndepEdge
  pub bound : List (Option DyndepEdge)
  pub unjoined : List ℕ

abbrev pub fields_of : Inside → JoiningFields
fields_of j = record {
  table = j.edges;
  records = j.records;
  dyndep_files = j.dyndep_files.items;
  bound = j.bound.items;
  unjoined = j.unjoined.items;
}

-- the edges as they were read
abbrev pub graph_stated : JoinTable → EdgeGraph
graph_stated table = record { files = table.files; edges = table.stated }

abbrev pub joining_of : JoiningFields → JoiningModel
joining_of j =
    let built = with_graph (graph_stated j.table) j.records in
    record {
      table = j.table;
      blocks = built.blocks;
      details = built.details;
      defaults = built.defaults;
      dyndep_files = map (pending_named j.table.files) j.dyndep_files;
      bound = map (file_named j.table.files) j.bound;
      assigned = built.assigned;
      restats = built.restats;
    }

-- The records are those of the edges as they were read. All numbers are numbers of files and edges. For each file at
-- most the counted number of edges is pending.
pub record JoiningIsHeld (j : JoiningFields) : Type 0 where
  pub each_path_once : IsDistinct bytes_eq j.table.files
  pub as_many_joined : length j.table.joined ≡ length j.table.stated
  pub as_many_was : length j.table.was_joined ≡ length j.table.stated
  pub as_many_bound : length j.bound ≡ length j.table.stated
  pub unchanged : (edge : ℕ) → is_joined j.table edge ≡ false → slice_get j.table.joined edge ≡ slice_get j.table.stated edge
  pub fits : AreOfGraph (graph_stated j.table) j.records
  pub dyndep_files_known : AllByRecursion (λ d. d.file.0 < length j.table.files) j.dyndep_files
  pub dyndep_edges_known : AllByRecursion (λ d. d.edge.0 < length j.table.stated) j.dyndep_files
  pub bound_by_number : AreByNumber j.bound
  pub bound_known : AllByRecursion (λ b. IfSome b (λ d. d.file.0 < length j.unjoined)) j.bound
  pub pending_known : length j.unjoined ≤ length j.table.files
  pub enough_pending : (file : FileNo)
      → count_pending file (still_pending j.bound j.table.was_joined) ≤ slice_index_or j.unjoined file.0 0
