use Rattle.std.proofs.Common.{take}
use Rattle.std.specs.List.{AllZip}
use Rattle.nj_audit.specs.Inside.References.{HasReferences}
use Rattle.nj_audit.proofs.variables.references_of_rules.Given as goal

abbrev pub invariant-rules : goal.invariant-rules
invariant-rules l = AllZip HasReferences l.references.items (take l.rule-index l.rules)
