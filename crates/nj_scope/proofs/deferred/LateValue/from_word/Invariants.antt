use Rattle.std.proofs.Common.{◌≡◌, take, map}
use Rattle.nj_text.specs.Words.{part_model}
use Rattle.nj_scope.proofs.deferred.LateValue.from_word.Given as goal

abbrev pub invariant-parts : goal.invariant-parts
invariant-parts l = l.value ≡ map part_model (take l.part-index l.part-items)
