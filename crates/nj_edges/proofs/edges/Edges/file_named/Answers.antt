use Rattle.std.proofs.Common.{◌∙◌, ap, bytes_eq}
use Rattle.std.specs.List.{list_any}
use Rattle.nj_edges.proofs.NamedLemmas.{closed-named, table-files}
use Rattle.nj_edges.proofs.edges.Edges.file_named.Goals as goal

pub returns-clause-named : goal.returns-clause-named
returns-clause-named c = λ none.
    c.number.ensures.known ∙ ap (λ t. list_any (bytes_eq c.args.path.now) t.files) c.self.view_is
    ∙ table-files _ _ c.self.invariant c.args.self.now c.self.view_is c.args.path.now
    ∙ closed-named c.args.self.now c.args.path.now none
