use Rattle.std.proofs.Common.{◌≡◌, ◌<◌, All, is_some, length, map, take}
use Rattle.std.specs.List.{filter}
use Rattle.nj_names.specs.Files.{path_at}
use Rattle.nj_edges.specs.Edges.{maker_of}
use Rattle.nj_ask.proofs.missing.made_files.Given as goal

abbrev pub invariant-files : goal.invariant-files
invariant-files l = record {
  paths : map (path_at l.graph.files) l.made.items
      ≡ filter (λ path. is_some (maker_of l.graph.edges path))
      (map (path_at l.graph.files) (take l.file-index l.files));
  known : All (λ file. file.0 < length l.graph.files) l.made.items;
}
