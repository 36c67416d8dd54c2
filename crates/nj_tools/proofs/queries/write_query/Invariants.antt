use Rattle.std.proofs.Common.{List, map}
use Rattle.nj_scope.specs.ReadingList.{ReadStatement}
use Rattle.nj_names.specs.Files.{path_at}
use Rattle.nj_graph.specs.Graph.{IsGraphOf, files_of}
use Rattle.nj_tools.specs.Inside.Outputs.{IsSame, LeavesEach}
use Rattle.nj_tools.specs.Inside.Pieces.{query_of_file}
use Rattle.nj_tools.specs.Queries.{query_text}
use Rattle.nj_tools.proofs.queries.write_query.Given as goal

abbrev pub invariant-files : goal.invariant-files
invariant-files g l = record {
  same : IsSame l.initial.output l.output;
  left : (entries : List ReadStatement) → IsGraphOf l.graph entries
      → LeavesEach g.S.Sink.state (query_of_file entries) (λ file. IsGraphOf file.graph entries)
      l.initial.output
      l.output (query_text entries (map (path_at (files_of l.graph)) l.files)) l.file-iterator;
}
