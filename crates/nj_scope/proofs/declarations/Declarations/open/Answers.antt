use Rattle.std.proofs.Common.{false, None, subst, sym, refl}
use Rattle.nj_manifest.specs.Statements.{SubninjaModel}
use Rattle.nj_scope.specs.Declarations.{DeclaredBy}
use Rattle.nj_scope.proofs.DeclarationLemmas.{with-subninja, at_ok}
use Rattle.nj_scope.proofs.declarations.Declarations.open.Goals as goal

pub returns-clause-opened : goal.returns-clause-opened
returns-clause-opened c = λ around word. at_ok c.open.result c.open.ensures.count
    (λ count entries file spot depth by.
    with-subninja (record {
      scopes = c.self.inside.scopes;
      rules = c.self.inside.rules.items;
      pools =
          c.self.inside.pools;
    }) (record {
      scopes = c.open.new.self;
      rules = c.self.inside.rules.items;
      pools =
          c.self.inside.pools;
    })
    entries (record {
      file = file;
      spot = spot;
      depth = depth;
      scope = c.args.parent.0;
      around = around;
      item = SubninjaModel word;
      was_joined = false;
      discovered = None;
    })
    word (subst (λ held. DeclaredBy held entries) (sym c.self.view_is) by) c.open.ensures.bound
    c.open.ensures.rules count refl refl)
