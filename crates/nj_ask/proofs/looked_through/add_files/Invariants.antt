use Rattle.std.proofs.Common.{◌≡◌, ◌<◌, All, map, take}
use Rattle.std.specs.Prelude.{fold}
use Rattle.nj_names.specs.NameTables.{with_name}
use Rattle.nj_graph.specs.Files.{path_at}
use Rattle.nj_ask.specs.Inside.FilesFound.{paths_found}
use Rattle.nj_ask.proofs.looked_through.add_files.Given as goal

abbrev pub invariant-files : goal.invariant-files
invariant-files l = record {
  limit : l.found.limit ≡ l.fn.found.limit;
  known : All (λ n. n < l.found.limit) l.found.numbers;
  found : paths_found l.graph.files l.found
      ≡ fold with_name (paths_found l.graph.files l.fn.found)
      (map (path_at l.graph.files) (take l.file-index l.files));
}
