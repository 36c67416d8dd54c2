use Rattle.std.proofs.Common.{◌++◌, take}
use Rattle.nj_audit.specs.Audit.{names_in}
use Rattle.nj_audit.proofs.NameLemmas.{AreNames}
use Rattle.nj_audit.proofs.variables.add_references.Given as goal

abbrev pub invariant-parts : goal.invariant-parts
invariant-parts l = AreNames l.references (l.fn.references ++ names_in (take l.index l.value))
