use Rattle.std.proofs.Common.{List, [], ◌∷◌, ◌++◌, Some, refl, sym, ap, subst, ◌∙◌}
use Rattle.nj_manifest.specs.declared.statement.Line.{Line}
use Rattle.nj_manifest.specs.LineSteps.{NameModel}
use Rattle.nj_manifest.specs.Statements.{RuleModel}
use Rattle.nj_manifest.specs.Contents.{lines_model}
use Rattle.nj_scope.specs.Declarations.{DeclaredBy}
use Rattle.nj_scope.specs.ReadingList.{ReadStatement}
use Rattle.nj_faults.specs.declared.fault.Place.{Place}
use Rattle.nj_statements.proofs.Holding.{kept-other}
use Rattle.nj_graph.specs.Origins.{OriginsModel}
use Rattle.nj_graph.specs.Reading.{entry_at}
use Rattle.nj_graph.specs.Inside.ReaderContracts.{site_of}
use Rattle.nj_graph.proofs.Holding.{has-next, same-grows, rule-new, placed-text}
use Rattle.nj_graph.proofs.reader.Reader.declare_rule.Goals as goal

pub returns-then-branch-clause-declares : goal.returns-then-branch-clause-declares
returns-then-branch-clause-declares c = λ main entries around depth has inside.
    let site = site_of c.args.file around depth in
    let start = c.args.spot in
    let name : NameModel = record { spot = c.args.rule.now.name_spot; name = c.args.rule.now.name.now } in
    let at : List Line → ReadStatement = λ lines. entry_at site
    (record { spot = start; item = RuleModel name (lines_model lines) }) in
    let e = at c.args.rule.now.lines.items in
    let old : OriginsModel = c.args.self.now.origins in
    let declared = subst (λ lines. DeclaredBy c.declare_rule.new.self (at lines ∷ entries))
    c.deref.ensures.value (c.in_ok-declare_rule.ensures.declared around c.args.rule.now.name_spot
    c.if-branch.true entries site.file start depth has.declares) in
    let origins = c.in_ok-add_rule.ensures
    ∙ ap (λ (place : Place). record old { rules = old.rules ++ Some place ∷ [] })
    (placed-text c.place.result site.file start c.place.ensures.file c.place.ensures.spot) in (
      rule-new main c.args.self.now entries site.file site.scope name has
          (sym c.if-branch.true ∙ c.in_ok-declare_rule.ensures.is_new),
      has-next main c.args.self.now (record {
        declarations = c.declare_rule.new.self;
        building = c.args.self.now.building;
        files =
            c.args.self.now.files;
        origins = c.add_rule.new.self;
      }) entries
          e has
          declared origins refl refl
          (kept-other c.args.self.now.building e entries refl has.edges)
          (same-grows c.args.self.now.declarations c.declare_rule.new.self
          c.in_ok-declare_rule.ensures.scopes) inside,
    )
