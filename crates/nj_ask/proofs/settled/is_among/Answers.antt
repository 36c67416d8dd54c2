use Rattle.std.proofs.Common.{rules, tests, ◌≡◌, ◌∙◌}
use Rattle.std.specs.Prelude.{◌==◌}
use Rattle.std.specs.List.{list_any}
use Rattle.std.proofs.lemmas.Iterator.{YieldsList-from_slice}
use Rattle.std.proofs.lemmas.Iterator.Search.{any_from_yields_List}
use Rattle.nj_graph.specs.declared.EdgeNo.{EdgeNo}
use Rattle.nj_ask.proofs.FlagLemmas.{any-map}
use Rattle.nj_ask.proofs.settled.is_among.Goals as goal

pub returns : goal.returns
returns c =
    let e : c.any.result ≡ list_any (λ (other : EdgeNo). c.args.edge.0 == other.0) c.args.edges.now =
    any_from_yields_List (λ (other : EdgeNo). c.args.edge.0 == other.0) _ _ c.any.result
    c.any.ensures.ran (YieldsList-from_slice c.args.edges.now cc) (λ x b q k. search (rules, tests)) in
    e ∙ any-map (λ n. c.args.edge.0 == n) (λ (other : EdgeNo). other.0) c.args.edges.now
