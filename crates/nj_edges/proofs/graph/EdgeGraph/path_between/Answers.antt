use Rattle.std.proofs.Common.{◌≢◌, ◌<◌, All, Option, length, option_map, arith, rules, ap, sym, ◌∙◌}
use Rattle.std.specs.Prelude.{IfSome}
use Rattle.std.specs.Global.{Vec}
use Rattle.std.proofs.lemmas.Result.{IfOk-weaker}
use Rattle.nj_edges.specs.declared.chains.Step.{Step}
use Rattle.nj_edges.specs.Chains.{PathIs}
use Rattle.nj_names.specs.Files.{path_at}
use Rattle.nj_edges.specs.Inside.ChainsHeld.{ChainIs}
use Rattle.nj_edges.proofs.ChainLemmas.{path-edges, path-files, path-is}
use Rattle.nj_edges.proofs.graph.EdgeGraph.path_between.Goals as goal

pub returns-in-Some-clause-path : goal.returns-in-Some-clause-path
returns-in-Some-clause-path c =
    let g = c.args.self.now in
    let apart : c.args.from ≢ c.args.to = first_of (search rules, grind arith) in
    IfOk-weaker c.chain_from.result
    (λ (path : Option (Vec Step)). ChainIs g c.args.kinds c.in-Some.edge.0
    (path_at g.files c.args.to) (option_map (λ steps. steps.items) path))
    (λ (path : Option (Vec Step)). PathIs g c.args.kinds c.args.from c.args.to
    (option_map (λ steps. steps.items) path))
    (λ path chain. path-is g c.args.kinds c.args.from c.args.to c.in-Some.edge.0
    (option_map (λ steps. steps.items) path) apart
    (sym c.maker.ensures.maker ∙ ap (option_map (λ e. e.0)) c.in-Some.is) chain)
    c.chain_from.ensures

pub returns-in-Some-clause-edges_known : goal.returns-in-Some-clause-edges_known
returns-in-Some-clause-edges_known c =
    let g = c.args.self.now in
    IfOk-weaker c.chain_from.result
    (λ (path : Option (Vec Step)). ChainIs g c.args.kinds c.in-Some.edge.0
    (path_at g.files c.args.to) (option_map (λ steps. steps.items) path))
    (λ (path : Option (Vec Step)). IfSome path
    (λ steps. All (λ (s : Step). s.edge.0 < length g.edges) steps.items))
    (λ path chain. path-edges g c.args.kinds (path_at g.files c.args.from) c.in-Some.edge.0
    (path_at g.files c.args.to) path (sym c.maker.ensures.maker ∙ ap (option_map (λ e. e.0)) c.in-Some.is)
    chain)
    c.chain_from.ensures

pub returns-in-Some-clause-files_known : goal.returns-in-Some-clause-files_known
returns-in-Some-clause-files_known c =
    let g = c.args.self.now in
    IfOk-weaker c.chain_from.result
    (λ (path : Option (Vec Step)). ChainIs g c.args.kinds c.in-Some.edge.0
    (path_at g.files c.args.to) (option_map (λ steps. steps.items) path))
    (λ (path : Option (Vec Step)). IfSome path
    (λ steps. All (λ (s : Step). s.file.0 < length g.files) steps.items))
    (λ path chain. path-files g c.args.kinds (path_at g.files c.args.from) c.in-Some.edge.0
    (path_at g.files c.args.to) path (sym c.maker.ensures.maker ∙ ap (option_map (λ e. e.0)) c.in-Some.is)
    chain)
    c.chain_from.ensures
