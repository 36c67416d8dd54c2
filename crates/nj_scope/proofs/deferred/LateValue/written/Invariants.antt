use Rattle.std.proofs.Common.{◌≡◌, take}
use Rattle.nj_scope.specs.Late.{parts_written}
use Rattle.nj_scope.proofs.deferred.LateValue.written.Given as goal

abbrev pub invariant-parts : goal.invariant-parts
invariant-parts l = l.text.items ≡ parts_written (take l.index l.self)
