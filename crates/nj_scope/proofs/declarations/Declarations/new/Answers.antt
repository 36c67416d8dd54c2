use Rattle.std.proofs.Common.{[], ◌∷◌, ◌++◌, ap, ◌∙◌}
use Rattle.nj_scope.specs.Rules.{phony}
use Rattle.nj_scope.proofs.DeclarationLemmas.{declared_by-nothing}
use Rattle.nj_scope.proofs.declarations.Declarations.new.Goals as goal

pub returns-clause-nothing : goal.returns-clause-nothing
returns-clause-nothing c =
    declared_by-nothing (record {
      scopes = c.in_ok-scopes.scopes;
      rules = c.push.new.self.items;
      pools =
          c.new-3.result;
    }) c.in_ok-scopes.ensures.nothing c.in_ok-scopes.ensures.no_rule
    c.in_ok-scopes.ensures.count
    (c.in_ok-push.ensures.items ∙ ap (λ rs. rs ++ c.in_ok-phony.phony ∷ []) c.new-rules.ensures.items
    ∙ ap (λ scope. record {
      scope = scope;
      name = c.in_ok-phony.phony.name;
      lines =
          c.in_ok-phony.phony.lines;
    } ∷ []) c.in_ok-phony.ensures.scope
    ∙ ap (λ name. record { scope = 0; name = name; lines = c.in_ok-phony.phony.lines } ∷ [])
    c.in_ok-phony.ensures.name
    ∙ ap (λ lines. record { scope = 0; name = phony; lines = lines } ∷ []) c.in_ok-phony.ensures.lines)
    c.new-3.ensures
