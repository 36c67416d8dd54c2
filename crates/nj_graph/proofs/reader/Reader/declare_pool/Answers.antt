use Rattle.std.proofs.Common.{◌≡◌, ℕ, None, true, [], ◌∷◌, ◌++◌, refl, sym, ap, subst, ◌∙◌}
use Rattle.nj_manifest.specs.LineSteps.{NameModel}
use Rattle.nj_manifest.specs.Statements.{PoolModel}
use Rattle.nj_manifest.specs.Contents.{lines_model}
use Rattle.nj_scope.specs.ReadingList.{ReadStatement}
use Rattle.nj_faults.specs.declared.fault.Place.{Place}
use Rattle.nj_faults.specs.Faults.{IsFault}
use Rattle.nj_graph.specs.declared.reader.Reader.{Reader}
use Rattle.nj_manifest.proofs.Handed.{handed}
use Rattle.nj_statements.proofs.Holding.{kept-other}
use Rattle.nj_graph.specs.Origins.{OriginsModel, depth_of}
use Rattle.nj_graph.specs.Reading.{entry_at, depth_fault, own_fault}
use Rattle.nj_graph.specs.Inside.ReaderContracts.{site_of, site_scope}
use Rattle.nj_graph.proofs.Holding.{has-next, pool-new, depths-same, depth-same, same-grows, placed-text}
use Rattle.nj_graph.proofs.OpenScopes.{open-grown}
use Rattle.nj_graph.proofs.reader.Reader.declare_pool.Goals as goal

pub returns-in_err-depth-clause-declares : goal.returns-in_err-depth-clause-declares
returns-in_err-depth-clause-declares c = λ main entries around depth has inside.
    let site = site_of c.args.file around depth in
    let name : NameModel = record { spot = c.args.pool.now.name_spot; name = c.args.pool.now.name.now } in
    let lines = lines_model c.args.pool.now.lines.items in
    let e : ReadStatement = entry_at site (record { spot = c.args.spot; item = PoolModel name lines }) in
    let scope = site_scope site in
    let fault = c.in_err-depth.field-0.0 in
    let is_new : c.in_ok-declare_pool.field-0 ≡ true = c.if-not-branch.false in
    let declares = c.in_ok-declare_pool.ensures.declared c.args.file.scope.0 around c.args.pool.now.name_spot
    lines is_new entries site.file c.args.spot depth has.declares in
    let there = open-grown c.args.self.now.declarations.scopes c.declare_pool.new.self.scopes
    c.args.file.scope.0 around (same-grows c.args.self.now.declarations c.declare_pool.new.self
    c.in_ok-declare_pool.ensures.scopes) inside in
    let own : own_fault e entries ≡ depth_fault site.file scope (e ∷ entries) lines =
    pool-new main c.args.self.now entries site.file scope name lines has
    (sym is_new ∙ c.in_ok-declare_pool.ensures.is_new)
    ∙ sym (depths-same site.file e entries (λ value x. refl) scope lines) in
    rw (handed fault c.from_residual-in_err-depth.result c.from_residual-in_err-depth.ensures)
    (subst (λ expected. IsFault expected fault) (sym own)
    (subst (λ depths. IsFault (depth_fault site.file scope (e ∷ entries) (lines_model depths)) fault)
    c.deref.ensures.value (c.in_err-depth.ensures.fault (e ∷ entries) around declares there)))

pub returns-clause-declares : goal.returns-clause-declares
returns-clause-declares c = λ main entries around depth has inside.
    let site = site_of c.args.file around depth in
    let name : NameModel = record { spot = c.args.pool.now.name_spot; name = c.args.pool.now.name.now } in
    let lines = lines_model c.args.pool.now.lines.items in
    let e : ReadStatement = entry_at site (record { spot = c.args.spot; item = PoolModel name lines }) in
    let scope = site_scope site in
    let held : Reader = record {
      declarations = c.declare_pool.new.self;
      building = c.args.self.now.building;
      files = c.args.self.now.files;
      origins = c.add_pool.new.self;
    } in
    let old : OriginsModel = c.args.self.now.origins in
    let is_new : c.in_ok-declare_pool.field-0 ≡ true = c.if-not-branch.false in
    let declares = c.in_ok-declare_pool.ensures.declared c.args.file.scope.0 around c.args.pool.now.name_spot
    lines is_new entries site.file c.args.spot depth has.declares in
    let grows = same-grows c.args.self.now.declarations c.declare_pool.new.self
    c.in_ok-declare_pool.ensures.scopes in
    let there = open-grown c.args.self.now.declarations.scopes c.declare_pool.new.self.scopes
    c.args.file.scope.0 around grows inside in
    let own : own_fault e entries ≡ depth_fault site.file scope (e ∷ entries) lines =
    pool-new main c.args.self.now entries site.file scope name lines has
    (sym is_new ∙ c.in_ok-declare_pool.ensures.is_new)
    ∙ sym (depths-same site.file e entries (λ value x. refl) scope lines) in
    let checked = subst (λ depths. depth_fault site.file scope (e ∷ entries) (lines_model depths) ≡ None)
    c.deref.ensures.value (c.in_ok-depth.ensures.fault (e ∷ entries) around declares there) in
    let gives : c.in_ok-depth.depth ≡ depth_of scope entries lines =
    subst (λ depths. c.in_ok-depth.depth ≡ depth_of scope (e ∷ entries) (lines_model depths))
    c.deref.ensures.value (c.in_ok-depth.ensures.depth (e ∷ entries) around declares there)
    ∙ depth-same e entries (λ value x. refl) scope lines in
    let origins =
    c.in_ok-add_pool.ensures
    ∙ ap (λ (place : Place). record old {
      pools =
          old.pools ++ record { place = place; depth = c.in_ok-depth.depth } ∷ [];
    })
    (placed-text c.place.result site.file c.args.spot c.place.ensures.file c.place.ensures.spot)
    ∙ ap (λ (n : ℕ). record old {
      pools = old.pools
          ++ record { place = record { file = site.file; spot = c.args.spot }; depth = n } ∷ [];
    }) gives in (
      own ∙ checked,
      has-next main c.args.self.now held entries e has declares origins refl refl
          (kept-other c.args.self.now.building e entries refl has.edges) grows inside,
    )
