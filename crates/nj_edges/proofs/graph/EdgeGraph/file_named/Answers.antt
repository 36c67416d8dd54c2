use Rattle.std.proofs.Common.{◌∙◌, ap, bytes_eq}
use Rattle.std.specs.List.{list_any}
use Rattle.nj_edges.proofs.NamedLemmas.{graph-files}
use Rattle.nj_edges.proofs.graph.EdgeGraph.file_named.Goals as goal

pub returns-clause-named : goal.returns-clause-named
returns-clause-named c =
    c.number.ensures.known ∙ ap (λ g. list_any (bytes_eq c.args.path.now) g.files) c.self.view_is
    ∙ graph-files _ _ c.self.invariant.table c.self.invariant.closed c.args.self.now c.self.view_is
    c.args.path.now
