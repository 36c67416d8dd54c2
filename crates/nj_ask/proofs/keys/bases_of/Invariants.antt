use Rattle.std.proofs.Common.{◌≡◌, drop, map, take}
use Rattle.std.specs.Prelude.{string_bytes}
use Rattle.nj_text.specs.Paths.{clean_path_of}
use Rattle.nj_ask.specs.Given.{base_misuse}
use Rattle.nj_ask.proofs.keys.bases_of.Given as goal

abbrev pub invariant-paths : goal.invariant-paths
invariant-paths l = record {
  bases : l.bases ≡ map clean_path_of (map string_bytes (take l.path-index l.paths));
  rest : base_misuse (map string_bytes (drop l.path-index l.paths)) ≡ base_misuse (map string_bytes l.paths);
}
