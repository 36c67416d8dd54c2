use Rattle.std.proofs.Common.{take}
use Rattle.std.specs.List.{flat_map}
use Rattle.nj_audit.specs.Audit.{names_in}
use Rattle.nj_audit.proofs.NameLemmas.{AreNames}
use Rattle.nj_audit.proofs.variables.references_of.Given as goal

abbrev pub invariant-lines : goal.invariant-lines
invariant-lines l = AreNames l.references (flat_map (λ line. names_in line.value) (take l.index l.rule.lines))
