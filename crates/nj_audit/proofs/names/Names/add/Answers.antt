use Rattle.std.proofs.Common.{◌||◌, not, bytes_eq, map, ap, ◌∙◌}
use Rattle.nj_graph.specs.Edges.{is_among}
use Rattle.nj_audit.proofs.NameLemmas.{found-is, put-is}
use Rattle.nj_audit.proofs.names.Names.add.Goals as goal

pub returns-clause-new : goal.returns-clause-new
returns-clause-new c =
    c.in_ok-is_new.ensures.added
    ∙ ap not (found-is (λ name. name.items) c.self.inside.names.keys c.in_ok-name.name.items
    ∙ ap (λ names. is_among names c.in_ok-name.name.items) c.self.view_is
    ∙ ap (is_among c.args.self.now) c.in_ok-name.ensures.items)

pub returns-clause-names : goal.returns-clause-names
returns-clause-names c other =
    ap (λ keys. is_among (map (λ name. name.items) keys) other) c.in_ok-is_new.ensures.keys
    ∙ put-is (λ name. name.items) c.self.inside.names.keys c.in_ok-name.name other
    ∙ ap (λ name. bytes_eq other name || is_among (map (λ name. name.items) c.self.inside.names.keys) other)
    c.in_ok-name.ensures.items
    ∙ ap (λ names. bytes_eq other c.args.name.now || is_among names other) c.self.view_is
