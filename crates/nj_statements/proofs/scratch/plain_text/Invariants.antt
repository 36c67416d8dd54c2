use Rattle.std.proofs.Common.{◌≡◌, ◌++◌, drop, map}
use Rattle.nj_text.specs.Words.{part_model}
use Rattle.nj_scope.specs.Scopes.{expanded}
use Rattle.nj_statements.specs.Joining.{no_values}
use Rattle.nj_statements.proofs.scratch.plain_text.Given as goal

abbrev pub invariant-parts : goal.invariant-parts
invariant-parts l = l.text.items ++ expanded no_values (map part_model (drop l.part-index l.part-items))
    ≡ expanded no_values (map part_model l.part-items)
