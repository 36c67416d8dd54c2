use Rattle.std.specs.Prelude.{codes, ◌&&◌}
use Rattle.std.specs.Bool.{then_some}
use Rattle.std.proofs.Common.{Some, [], ◌∷◌, bytes_eq, refl, sym, ap, subst, ◌∙◌}
use Rattle.nj_text.specs.Words.{word_model}
use Rattle.nj_manifest.specs.Statements.{BindingModel}
use Rattle.nj_scope.specs.ReadingList.{ReadStatement}
use Rattle.nj_scope.proofs.ValueLaws.{last_counts}
use Rattle.nj_faults.specs.Versions.{is_newer}
use Rattle.nj_faults.specs.declared.fault.Cause.TheVariants.{VersionTooNew}
use Rattle.nj_faults.specs.Faults.{IsFault, fault_at}
use Rattle.nj_graph.specs.declared.reader.Reader.{Reader}
use Rattle.nj_statements.proofs.Holding.{kept-other}
use Rattle.nj_graph.specs.Reading.{entry_at}
use Rattle.nj_graph.specs.Inside.ReaderContracts.{site_of}
use Rattle.nj_graph.proofs.Holding.{has-next, same-grows, version-accepted, version-refused, name-is-other}
use Rattle.nj_graph.proofs.OpenScopes.{open-grown}
use Rattle.nj_graph.proofs.reader.Reader.bind.Goals as goal
use Rattle.nj_graph.proofs.reader.Reader.bind.Goals.{then-eq+else-is_newer, else-eq}

pub returns-clause-declares : goal.returns-clause-declares
returns-clause-declares c = λ main entries around depth has inside.
    let word = word_model c.args.value.now in
    let name = c.args.name.now in
    let e : ReadStatement = entry_at (site_of c.args.file around depth)
    (record { spot = c.args.spot; item = BindingModel name word }) in
    let held : Reader = record {
      declarations = c.bind.new.self;
      building = c.args.self.now.building;
      files =
          c.args.self.now.files;
      origins = c.args.self.now.origins;
    } in
    let takes = c.in_ok-bind.ensures.bound around inside.within entries c.args.file.name.now c.args.spot depth
    has.declares in
    let grows = same-grows c.args.self.now.declarations held.declarations c.in_ok-bind.ensures.scopes in
    let there = open-grown c.args.self.now.declarations.scopes held.declarations.scopes c.args.file.scope.0
    around grows inside in (
      elim c.if-eq.branch [
        | then-eq+else-is_newer w ↦
            version-accepted _ _ _ (sym (w.is_newer.ensures
            ∙ ap is_newer (w.value-version.ensures (e ∷ entries) around takes there.within
            ∙ last_counts [] entries e name word refl tt)) ∙ w.if-is_newer.false)
        | else-eq w ↦ name-is-other _ _ _ (ap (bytes_eq name) (sym c.as_slice.ensures) ∙ sym w.if-eq.ensures)
      ],
      has-next main c.args.self.now held entries e has takes refl refl refl
          (kept-other c.args.self.now.building e entries refl has.edges) grows inside,
    )

pub returns-then-is_newer-clause-declares : goal.returns-then-is_newer-clause-declares
returns-then-is_newer-clause-declares c = λ main entries around depth has inside.
    let word = word_model c.args.value.now in
    let name = c.args.name.now in
    let file = c.args.file.name.now in
    let e : ReadStatement = entry_at (site_of c.args.file around depth)
    (record { spot = c.args.spot; item = BindingModel name word }) in
    let takes = c.in_ok-bind.ensures.bound around inside.within entries file c.args.spot depth has.declares in
    let there = open-grown c.args.self.now.declarations.scopes c.bind.new.self.scopes c.args.file.scope.0
    around (same-grows c.args.self.now.declarations c.bind.new.self c.in_ok-bind.ensures.scopes) inside in
    let version = c.value-version.ensures (e ∷ entries) around takes there.within
    ∙ last_counts [] entries e name word refl tt in
    let own =
    ap (λ text. then_some (bytes_eq name (codes "ninja_required_version") && is_newer text)
    (fault_at file c.args.spot (VersionTooNew text))) (sym version)
    ∙ version-refused _ _ (fault_at file c.args.spot (VersionTooNew c.value-version.result.now))
    (ap (bytes_eq name) (sym c.as_slice.ensures) ∙ sym c.if-eq.ensures)
    (sym c.is_newer.ensures ∙ c.if-is_newer.true)
    ∙ ap (λ text. Some (fault_at file c.args.spot (VersionTooNew text))) (sym c.in_ok-new.ensures) in
    subst (λ expected. IsFault expected c.fault.result) (sym own) c.fault.ensures
