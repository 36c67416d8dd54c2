use Rattle.std.proofs.Common.{ap, ◌∙◌}
use Rattle.nj_graph.specs.Edges.{is_among}
use Rattle.nj_audit.proofs.NameLemmas.{found-is}
use Rattle.nj_audit.proofs.names.Names.has.Goals as goal

pub returns : goal.returns
returns c =
    c.contains.ensures ∙ found-is (λ name. name.items) c.self.inside.names.keys c.args.name.now
    ∙ ap (λ names. is_among names c.args.name.now) c.self.view_is
