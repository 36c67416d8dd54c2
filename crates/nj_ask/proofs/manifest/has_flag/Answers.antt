use Rattle.std.proofs.Common.{rules, tests, ◌≡◌, false, ◌∙◌, slice_index_or}
use Rattle.std.specs.List.{list_any}
use Rattle.std.proofs.lemmas.Iterator.{YieldsList-from_slice}
use Rattle.std.proofs.lemmas.Iterator.Search.{any_from_yields_List}
use Rattle.nj_graph.specs.declared.EdgeNo.{EdgeNo}
use Rattle.nj_ask.proofs.FlagLemmas.{any-map}
use Rattle.nj_ask.proofs.manifest.has_flag.Goals as goal

pub returns : goal.returns
returns c =
    let e : c.any.result ≡ list_any (λ (edge : EdgeNo). slice_index_or c.args.flags.now edge.0 false)
    c.args.edges.now =
    any_from_yields_List (λ (edge : EdgeNo). slice_index_or c.args.flags.now edge.0 false) _ _ c.any.result
    c.any.ensures.ran (YieldsList-from_slice c.args.edges.now cc) (λ x b q k. search (rules, tests)) in
    e ∙ any-map (λ edge. slice_index_or c.args.flags.now edge false) (λ (edge : EdgeNo). edge.0)
    c.args.edges.now
