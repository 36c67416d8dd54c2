use Rattle.std.proofs.Common.{List, Option, ◌∙◌, map, option_map, subst}
use Rattle.std.proofs.lemmas.List.{length-map}
use Rattle.nj_edges.specs.EdgeGraphs.{EdgeGraph}
use Rattle.nj_graph.specs.Undeclared.{AreThose, IsUndeclared, input_of_edge}
use Rattle.nj_deps.specs.declared.path_no.PathNo.{PathNo}
use Rattle.nj_graph.specs.Inside.LogSteps.{numbers_if_any}
use Rattle.nj_graph.specs.Inside.UndeclaredFound.{inputs_by_number}
use Rattle.nj_graph.proofs.UndeclaredLemmas.{are-undeclared}
use Rattle.nj_graph.proofs.undeclared.undeclared_inputs.Goals as goal

pub returns-clause-undeclared : goal.returns-clause-undeclared
returns-clause-undeclared c = λ entries is.
    let log = c.args.log.now in
    let numbers = numbers_if_any c.in_ok-numbers.numbers.items in
    let inputs = c.add_edges.new.found.inputs.items in
    let graph = c.deref-graph.result.now in
    let by_numbers = subst (λ (ns : List (Option PathNo)). AreThose (IsUndeclared graph.edges)
    (inputs_by_number log (numbers_if_any ns)) (map (input_of_edge graph.files) inputs)) c.deref.ensures.value
    c.in_ok-add_edges.ensures.undeclared in
    are-undeclared log c.args.graph.now entries is numbers
    (length-map c.in_ok-numbers.numbers.items (option_map (λ n. n.0)) ∙ c.in_ok-numbers.ensures.count)
    (c.in_ok-numbers.ensures.numbers entries is) _
    (subst (λ (g : EdgeGraph). AreThose (IsUndeclared g.edges) (inputs_by_number log numbers)
    (map (input_of_edge g.files) inputs)) c.deref-graph.ensures by_numbers)
