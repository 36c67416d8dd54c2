use Rattle.std.proofs.Common.{◌≡◌, Option, unwrap_or, sym, ap, subst, ◌∙◌}
use Rattle.nj_graph.specs.Graph.{GraphModel}
use Rattle.nj_c.specs.DiscoveredInputs.{JoinsFound}
use Rattle.nj_c.proofs.DiscoveredLemmas.{found-taken}
use Rattle.nj_c.proofs.discovered_inputs.join_log.Goals as goal

pub returns-in-Some : goal.returns-in-Some
returns-in-Some c g was =
    let before = c.args.kept.now in let after = c.join_to.new.kept in let graph = c.in-Some.graph in
    let log = c.args.given.now.log in let read = c.args.given.now.read in let times = c.args.times.now in
    let status = c.join_to.result in
    let is : graph ≡ g = ap (λ o. unwrap_or o graph) (sym c.in-Some.is ∙ c.take.ensures.value ∙ was) in
    subst (λ (x : GraphModel). JoinsFound x before after log read times status) is
    (found-taken graph before after log read times status
    (subst (λ (o : Option GraphModel). JoinsFound graph (record before { graph = o }) after log read times
    status) c.take.ensures.after c.join_to.ensures))
