use Rattle.std.proofs.Common.{◌≡◌, ◌<◌, ℕ, List, true, false}
use Rattle.std.specs.Prelude.{slice_index_or}
use Rattle.nj_graph.specs.ReadingList.{ReadStatement}
use Rattle.nj_graph.specs.Graph.{IsGraphOf}
use Rattle.nj_ask.specs.Inside.Reached.{edge_numbers}
use Rattle.nj_ask.specs.Settled.{IsSettledEdge}
use Rattle.nj_ask.proofs.settled.are_settled.Given as goal

abbrev pub invariant-edges : goal.invariant-edges
invariant-edges g l = (entries : List ReadStatement) → IsGraphOf l.known.graph entries → (edge : ℕ)
    → edge < l.number → slice_index_or l.flags edge false ≡ true
    → IsSettledEdge l.known entries (g.T.FileTimes.times l.times) (edge_numbers l.commands) edge true
