use Rattle.std.proofs.Common.{◌≡◌, codes, map, take}
use Rattle.std.specs.List.{flat_map}
use Rattle.nj_audit.specs.Findings.{finding_model}
use Rattle.nj_ask.specs.Audits.{line_about}
use Rattle.nj_ask.proofs.finding_lines.lookup_lines.Given as goal

abbrev pub invariant-findings : goal.invariant-findings
invariant-findings l =
    l.lines.items ≡ flat_map (line_about (codes "cannot look up source"))
    (map finding_model (take l.finding-index l.finding-items))
