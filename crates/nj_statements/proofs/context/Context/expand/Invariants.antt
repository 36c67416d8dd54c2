use Rattle.std.proofs.Common.{◌≡◌, ◌++◌, drop, map}
use Rattle.nj_text.specs.Words.{part_model}
use Rattle.nj_scope.specs.Scopes.{expanded}
use Rattle.nj_statements.specs.EdgeList.{Values}
use Rattle.nj_statements.specs.Inside.EdgeSteps.{SeesNames}
use Rattle.nj_statements.proofs.context.Context.expand.Given as goal

abbrev pub invariant-parts : goal.invariant-parts
invariant-parts l =
    (values : Values) → SeesNames l.self values
    → l.text.items ++ expanded values (map part_model (drop l.part-index l.part-items))
    ≡ expanded values (map part_model l.part-items)
