use Rattle.std.proofs.Common.{◌<◌, ◌∙◌, List, ap, map, reverse}
use Rattle.std.proofs.lemmas.List.Elements.{All-same}
use Rattle.std.proofs.lemmas.List.Sorted.{All-permutation}
use Rattle.nj_edges.specs.declared.edges.EdgeNo.{EdgeNo}
use Rattle.nj_times.proofs.SlowestLemmas.{reversed_numbers}
use Rattle.nj_times.proofs.reports.reversed.Goals as goal

pub returns-clause-turned : goal.returns-clause-turned
returns-clause-turned c =
    ap (map (λ (edge : EdgeNo). edge.0))
    (c.reverse.ensures.items ∙ ap (λ (es : List EdgeNo). reverse es) c.in_ok-turned.ensures.items)
    ∙ reversed_numbers c.args.edges.now

pub returns-clause-known : goal.returns-clause-known
returns-clause-known c = λ limit all.
    let P = λ (edge : EdgeNo). edge.0 < limit in
    All-permutation P c.in_ok-turned.turned.items c.reverse.new.self.items c.reverse.ensures.permutation
    (All-same P c.in_ok-turned.turned.items c.args.edges.now c.in_ok-turned.ensures.items all)
