use Rattle.std.proofs.Common.{false, ◌≡◌, List, [], ◌∷◌, ◌++◌, ◌&&◌, ◌==◌, if◌then◌else◌, Some, None, map}
use Rattle.std.proofs.Common.{length, bytes_eq, ap, ◌∙◌, subst, sym, refl, arith}
use Rattle.nj_manifest.specs.Statements.{RuleModel}
use Rattle.nj_manifest.specs.Contents.{line_model, lines_model}
use Rattle.nj_manifest.specs.declared.statement.Line.{Line}
use Rattle.nj_scope.specs.Scopes.{rule_at}
use Rattle.nj_scope.specs.Rules.{line_kept}
use Rattle.nj_scope.specs.Declarations.{DeclaredBy}
use Rattle.nj_scope.proofs.DeclarationLemmas.{with-rule}
use Rattle.nj_scope.proofs.declarations.Declarations.declare_rule.Goals as goal
use Rattle.std.proofs.lemmas.Grind.{common_steps}

kept-twice : (lines : List Line) → map (λ l. line_kept (line_model l)) lines
    ≡ map line_kept (lines_model lines)
kept-twice [] = refl
kept-twice (l ∷ lines) = ap (λ ls. line_kept (line_model l) ∷ ls) (kept-twice lines)

pub returns-clause-declared : goal.returns-clause-declared
returns-clause-declared c = λ around spot new entries file at depth by.
    with-rule (record {
      scopes = c.self.inside.scopes;
      rules = c.self.inside.rules.items;
      pools =
          c.self.inside.pools;
    }) (record {
      scopes = c.declare.new.self;
      rules = c.push.new.self.items;
      pools =
          c.self.inside.pools;
    })
    entries (record {
      file = file;
      spot = at;
      depth = depth;
      scope = c.args.scope.0;
      around = around;
      item =
          RuleModel (record { spot = spot; name = c.args.name.now }) (lines_model c.args.lines.now);
      was_joined = false;
      discovered = None;
    })
    (record { spot = spot; name = c.args.name.now }) (lines_model c.args.lines.now)
    (subst (λ held. DeclaredBy held entries) (sym c.self.view_is) by)
    (λ n x.
    c.in_default.ensures.declared n x
    ∙ ap (λ k. if n == c.args.scope.0 && bytes_eq x c.args.name.now then Some k else rule_at
    c.self.inside.scopes n x) (let e : c.len.result ≡ length c.self.inside.rules.items =
    grind (arith, common_steps) in e)) c.declare.ensures.bound c.declare.ensures.count
    (c.in_ok-push.ensures.items
    ∙ ap (λ scope. c.self.inside.rules.items
    ++ record { scope = scope; name = c.in_ok-new.field-0.name; lines = c.in_ok-new.field-0.lines } ∷ [])
    c.in_ok-new.ensures.scope
    ∙ ap (λ name. c.self.inside.rules.items
    ++ record { scope = c.args.scope.0; name = name; lines = c.in_ok-new.field-0.lines } ∷ [])
    c.in_ok-new.ensures.name
    ∙ ap (λ lines. c.self.inside.rules.items
    ++ record { scope = c.args.scope.0; name = c.args.name.now; lines = lines } ∷ [])
    (c.in_ok-new.ensures.lines ∙ kept-twice c.args.lines.now)) refl
