use Rattle.std.proofs.Common.{◌||◌, bytes_eq, sym, ap, ◌∙◌}
use Rattle.std.specs.List.{list_any}
use Rattle.nj_scope.proofs.RuleLemmas.{among-text}
use Rattle.nj_scope.proofs.pools.Pools.has.Goals as goal

pub returns-else-eq : goal.returns-else-eq
returns-else-eq c =
    c.contains.ensures ∙ sym (among-text c.self.inside.names.keys c.args.name.now)
    ∙ ap (λ ks. list_any (bytes_eq c.args.name.now) ks) c.self.view_is
    ∙ ap (λ b. b || list_any (bytes_eq c.args.name.now) c.args.self.now)
    (c.if-eq.ensures ∙ ap (bytes_eq c.args.name.now) c.as_slice.ensures)
