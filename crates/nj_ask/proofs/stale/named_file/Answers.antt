use Rattle.std.proofs.Common.{◌≡◌, option_map, subst}
use Rattle.std.specs.Prelude.{bytes_eq, is_some, position}
use Rattle.nj_edges.specs.Edges.{is_named}
use Rattle.nj_edges.specs.EdgeGraphs.{EdgeGraph}
use Rattle.nj_ask.proofs.StaleLemmas.{named-path}
use Rattle.nj_ask.proofs.stale.named_file.Goals as goal

pub returns-clause-path : goal.returns-clause-path
returns-clause-path c =
    let found = c.file_named.result in
    let path = c.args.path.now in
    named-path c.args.graph.now path found
    (subst (λ (v : EdgeGraph). option_map (λ f. f.0) found ≡ position (bytes_eq path) v.files) c.deref.ensures
    c.file_named.ensures.index)
    (subst (λ (v : EdgeGraph). is_some found ≡ is_named v.edges path) c.deref.ensures
    c.file_named.ensures.named)
