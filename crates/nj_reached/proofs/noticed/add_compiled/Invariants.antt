use Rattle.std.proofs.Common.{List, ◌++◌, map}
use Rattle.std.specs.List.{filter}
use Rattle.nj_changes.specs.Tables.{SameNames}
use Rattle.nj_graph.specs.Files.{path_at}
use Rattle.nj_graph.specs.Graph.{IsGraphOf, edges_of, files_of}
use Rattle.nj_graph.specs.ReadingList.{ReadStatement}
use Rattle.nj_reached.specs.GraphChanges.{full_paths, is_compiled}
use Rattle.nj_reached.specs.Inside.Handles.{AreIn, full_compiled}
use Rattle.nj_reached.proofs.noticed.add_compiled.Given as goal

abbrev pub invariant-files : goal.invariant-files
invariant-files l = record {
  of : AreIn l.graph l.file-iterator;
  names : (entries : List ReadStatement) → IsGraphOf l.graph entries
      → SameNames (l.names ++ full_compiled l.graph entries l.folder l.file-iterator)
      (l.fn.names ++ full_paths l.folder (filter (is_compiled entries (edges_of l.graph))
      (map (path_at (files_of l.graph)) l.files)));
}
