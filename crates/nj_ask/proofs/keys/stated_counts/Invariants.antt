use Rattle.std.proofs.Common.{◌≡◌, map, take}
use Rattle.nj_tools.specs.declared.EdgeDiscovery.{EdgeDiscovery}
use Rattle.nj_ask.proofs.keys.stated_counts.Given as goal

abbrev pub invariant-edges : goal.invariant-edges
invariant-edges l =
    l.counts.items ≡ map (λ (d : EdgeDiscovery). d.stated_inputs) (take l.discovery-index l.discoveries)
