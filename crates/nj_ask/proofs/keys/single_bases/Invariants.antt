use Rattle.std.proofs.Common.{◌≡◌, map, take}
use Rattle.std.specs.Prelude.{string_bytes}
use Rattle.nj_ask.specs.Answers.{single_base}
use Rattle.nj_ask.proofs.keys.single_bases.Given as goal

abbrev pub invariant-paths : goal.invariant-paths
invariant-paths l = l.bases.items ≡ map single_base (map string_bytes (take l.path-index l.paths))
