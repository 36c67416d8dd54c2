use Rattle.std.proofs.Common.{◌≡◌, length, ap, ◌∙◌}
use Rattle.nj_graph.specs.Graph.{GraphModel}
use Rattle.nj_graph.specs.Origins.{OriginsModel, main_of}
use Rattle.nj_graph.proofs.OriginLemmas.{openings-count}
use Rattle.nj_graph.proofs.graph.Graph.opening_count.Goals as goal

pub returns-clause-stated : goal.returns-clause-stated
returns-clause-stated c entries is =
    let inside : c.self.inside.declared.origins ≡ c.args.self.now.origins =
    ap (λ (x : GraphModel). x.origins) c.self.view_is in
    c.opening_count.ensures ∙ ap (λ (o : OriginsModel). length o.openings) (inside ∙ is.origins)
    ∙ openings-count (main_of c.args.self.now.origins) entries
