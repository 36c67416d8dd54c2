use Rattle.std.proofs.Common.{◌≡◌, map, take}
use Rattle.std.specs.List.{flat_map}
use Rattle.nj_audit.specs.Findings.{finding_model}
use Rattle.nj_ask.specs.Audits.{finding_line}
use Rattle.nj_ask.proofs.finding_lines.finding_lines.Given as goal

abbrev pub invariant-findings : goal.invariant-findings
invariant-findings l =
    l.lines.items ≡ flat_map (finding_line l.is_json)
    (map finding_model (take l.finding-index l.finding-items))
