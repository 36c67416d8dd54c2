use Rattle.std.proofs.Common.{◌≡◌, map, take}
use Rattle.nj_text.specs.Words.{part_model}
use Rattle.nj_manifest.specs.Expansion.{expanded, no_values}
use Rattle.nj_manifest.proofs.entries.value_bytes.Given as goal

abbrev pub invariant-parts : goal.invariant-parts
invariant-parts l = l.bytes.items ≡ expanded no_values (map part_model (take l.part-index l.parts))
