use Rattle.std.proofs.Common.{◌≡◌, ◌<◌, All, length, map}
use Rattle.std.specs.List.{flat_map, range_with_len}
use Rattle.nj_names.specs.Files.{path_at}
use Rattle.nj_ask.specs.MissingSources.{stated_edge}
use Rattle.nj_ask.specs.Inside.StaleParts.{named_paths}
use Rattle.nj_ask.proofs.stated.stated_files.Given as goal

abbrev pub invariant-edges : goal.invariant-edges
invariant-edges l = record {
  paths : map (path_at l.graph.files) l.files.items
      ≡ flat_map named_paths (map (stated_edge l.graph.edges l.stated) (range_with_len 0 l.number));
  known : All (λ file. file.0 < length l.graph.files) l.files.items;
}
