use Rattle.std.proofs.Common.{false, None, [], ◌∷◌, ◌++◌, if◌then◌else◌, ap, ◌∙◌, subst, sym, refl}
use Rattle.nj_manifest.specs.Statements.{PoolModel}
use Rattle.nj_scope.specs.Declarations.{DeclaredBy}
use Rattle.nj_scope.proofs.DeclarationLemmas.{with-pool, if_ok}
use Rattle.nj_scope.proofs.declarations.Declarations.declare_pool.Goals as goal

pub returns-clause-declared : goal.returns-clause-declared
returns-clause-declared c = λ number around spot lines. if_ok c.declare.result c.declare.ensures.declared
    (λ is_new declared new entries file at depth by.
    with-pool (record {
      scopes = c.self.inside.scopes;
      rules = c.self.inside.rules.items;
      pools =
          c.self.inside.pools;
    }) (record {
      scopes = c.self.inside.scopes;
      rules = c.self.inside.rules.items;
      pools = c.declare.new.self;
    })
    entries (record {
      file = file;
      spot = at;
      depth = depth;
      scope = number;
      around = around;
      item =
          PoolModel (record { spot = spot; name = c.args.name.now }) lines;
      was_joined = false;
      discovered =
          None;
    })
    (record { spot = spot; name = c.args.name.now }) lines
    (subst (λ held. DeclaredBy held entries) (sym c.self.view_is) by)
    refl refl (declared ∙ ap (λ b. if b then c.self.inside.pools
    ++ c.args.name.now ∷ [] else c.self.inside.pools) new))
