use Rattle.std.proofs.Common.{◌≡◌, ◌++◌, drop}
use Rattle.std.specs.List.{flat_map}
use Rattle.nj_audit.specs.Kinds.{all_kinds}
use Rattle.nj_ask.specs.Audits.{kind_line, kind_lines}
use Rattle.nj_ask.proofs.finding_lines.kind_lines.Given as goal

abbrev pub invariant-all : goal.invariant-all
invariant-all l = l.lines.items ++ flat_map kind_line (drop l.kind-index all_kinds) ≡ kind_lines
