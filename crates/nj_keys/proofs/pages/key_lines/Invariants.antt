use Rattle.std.proofs.Common.{◌≡◌, take}
use Rattle.std.specs.List.{flat_map}
use Rattle.nj_graph.specs.Graph.{edges_of}
use Rattle.nj_keys.specs.Keys.{line}
use Rattle.nj_keys.specs.declared.pages.EdgeKey.{EdgeKey}
use Rattle.nj_keys.proofs.pages.key_lines.Given as goal

abbrev pub invariant-keys : goal.invariant-keys
invariant-keys l =
    let texts = flat_map (λ (n : EdgeKey). line (edges_of l.graph) n.edge.0 n.key) in
    l.lines.items ≡ texts (take l.next-index l.keys)
