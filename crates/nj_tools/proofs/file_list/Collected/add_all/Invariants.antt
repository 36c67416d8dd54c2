use Rattle.std.proofs.Common.{◌≡◌, All, map}
use Rattle.nj_tools.specs.Inside.Collections.{with_paths}
use Rattle.nj_tools.proofs.file_list.Collected.add_all.Given as goal

abbrev pub invariant-files : goal.invariant-files
invariant-files l = record {
  graph : l.self.graph ≡ l.fn.self.graph;
  all : All (λ file. file.graph ≡ l.fn.self.graph) l.file-iterator;
  paths : with_paths l.self.paths (map (λ file. file.path) l.file-iterator)
      ≡ with_paths l.fn.self.paths (map (λ file. file.path) l.fn.files);
}
