use Rattle.std.proofs.Common.{◌≢◌, Bool, arith, rules, ap}
use Rattle.std.proofs.lemmas.Result.{IfOk-weaker}
use Rattle.nj_edges.specs.Changes.{IsOrNeeds}
use Rattle.nj_edges.specs.Inside.NeedsSearched.{Finds, Tells}
use Rattle.nj_edges.proofs.NeedsLemmas.{tells-needed}
use Rattle.nj_edges.proofs.search_state.SearchState.is_or_needs.Goals as goal

pub returns-clause-tells : goal.returns-clause-tells
returns-clause-tells c =
    let edges = c.args.graph.now.edges in
    let apart : c.args.edge ≢ c.args.other = first_of (search rules, grind arith) in
    IfOk-weaker c.finds.result
    (λ (answer : Bool). Finds edges c.args.other.0 c.start_at.new.self c.finds.new.self answer)
    (λ (answer : Bool). Tells answer (IsOrNeeds edges c.args.edge.0 c.args.other.0))
    (λ answer found. tells-needed edges c.start_at.new.self.starts.items c.args.edge.0 c.args.other.0
    (λ is. apart (ap (λ n. record { 0 = n }) is)) c.in_ok-start_at.ensures.starts_are answer found.tells)
    c.finds.ensures
