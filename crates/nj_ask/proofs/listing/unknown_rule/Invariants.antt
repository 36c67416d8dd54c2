use Rattle.std.proofs.Common.{◌≡◌, drop, map, string_bytes}
use Rattle.nj_ask.specs.Affected.{unknown_rule}
use Rattle.nj_ask.proofs.listing.unknown_rule.Given as goal

abbrev pub invariant-names : goal.invariant-names
invariant-names l = unknown_rule l.fn.graph (map string_bytes (drop l.name-index l.names))
    ≡ unknown_rule l.fn.graph (map string_bytes l.names)
