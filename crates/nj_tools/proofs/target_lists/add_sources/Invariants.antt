use Rattle.std.proofs.Common.{◌≡◌, All}
use Rattle.nj_tools.specs.Inside.Collections.{sources_among, with_paths}
use Rattle.nj_tools.proofs.target_lists.add_sources.Given as goal

abbrev pub invariant-files : goal.invariant-files
invariant-files l = record {
  graph : l.sources.graph ≡ l.fn.sources.graph;
  all : All (λ file. file.graph ≡ l.fn.sources.graph) l.file-iterator;
  paths : with_paths l.sources.paths (sources_among l.file-iterator)
      ≡ with_paths l.fn.sources.paths (sources_among l.fn.files);
}
