use Rattle.std.proofs.Common.{map, take, ap, sym, ◌∙◌}
use Rattle.std.proofs.lemmas.List.{take_all, take_min}
use Rattle.std.specs.List.{take-map}
use Rattle.nj_ask.specs.Inside.NodeLists.{node_model}
use Rattle.nj_ask.proofs.mentions.first_nodes.Goals as goal

pub returns : goal.returns
returns c =
    let all = c.nodes-all.result.now in
    c.nodes.invariant
    ∙ ap (map node_model) (take_all c.nodes.node-index (take c.min.result all) c.nodes-test.false
    ∙ ap (λ n. take n all) c.min.ensures ∙ take_min c.args.limit all)
    ∙ sym (take-map node_model c.args.limit all) ∙ ap (take c.args.limit) c.nodes-all.ensures
