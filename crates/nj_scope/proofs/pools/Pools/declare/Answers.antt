use Rattle.std.proofs.Common.{◌++◌, ◌∷◌, [], sym, ap, ◌∙◌}
use Rattle.nj_scope.proofs.RuleLemmas.{key-pushed, none-declared}
use Rattle.nj_scope.proofs.pools.Pools.declare.Goals as goal

pub returns-clause-declared : goal.returns-clause-declared
returns-clause-declared c =
    key-pushed c.self.inside.names.keys c.insert.new.self.keys c.in_ok-name.name
    (none-declared c.self.inside.names.keys c.args.self.now c.args.name.now c.in_ok-name.name.items
    c.self.view_is c.in_ok-name.ensures.items (sym c.has.ensures ∙ c.if-has.false))
    c.in_ok-insert.ensures.keys
    ∙ ap (λ ks. ks ++ c.in_ok-name.name.items ∷ []) c.self.view_is
    ∙ ap (λ k. c.args.self.now ++ k ∷ []) c.in_ok-name.ensures.items
