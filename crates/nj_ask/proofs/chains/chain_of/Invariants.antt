use Rattle.std.proofs.Common.{◌≡◌, ◌++◌, drop}
use Rattle.nj_graph.specs.Handles.{file_of}
use Rattle.nj_ask.specs.Chains.{chain_lines}
use Rattle.nj_ask.proofs.chains.chain_of.Given as goal

abbrev pub invariant-steps : goal.invariant-steps
invariant-steps l =
    let rest = chain_lines l.graph l.discoveries in
    l.lines.items ++ rest (file_of l.user).path (drop l.step-index l.step-items)
    ≡ rest (file_of l.from).path l.step-items
