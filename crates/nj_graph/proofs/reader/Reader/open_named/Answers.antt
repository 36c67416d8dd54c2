use Rattle.std.proofs.Common.{◌≡◌, ℕ, Some, List, [], ◌∷◌, ◌++◌, refl, sym, ap, subst, ◌∙◌}
use Rattle.nj_text.specs.Words.{word_model}
use Rattle.nj_scope.specs.Declarations.{DeclaredBy}
use Rattle.nj_scope.specs.ReadingList.{ReadStatement}
use Rattle.nj_faults.specs.declared.fault.Place.{Place}
use Rattle.nj_faults.specs.Faults.{IsFault, no_memory}
use Rattle.nj_graph.specs.Reading.{Site, entry_at, expanded_in, opened_in, statement_read}
use Rattle.nj_graph.specs.Inside.ReaderContracts.{site_scope}
use Rattle.nj_graph.specs.declared.reader.Reader.{Reader}
use Rattle.nj_graph.specs.Graph.{IsOpenScope}
use Rattle.nj_graph.specs.Origins.{OriginsModel, place_of, place_text}
use Rattle.nj_graph.specs.Inside.ReaderContracts.{Grows, site_of, place_in, named_item, named_site}
use Rattle.nj_manifest.proofs.Handed.{handed, handed-as}
use Rattle.nj_graph.proofs.Holding.{placed-text}
use Rattle.nj_graph.proofs.Naming.{stops-own, stops-same, stops-open, opens-file, named-fault, named-path}
use Rattle.nj_graph.proofs.Naming.{named-file, named-origins, named-builds, named-read}
use Rattle.nj_graph.proofs.reader.Reader.open_named.Goals as goal

pub returns-in_err-path-clause-opens : goal.returns-in_err-path-clause-opens
returns-in_err-path-clause-opens g c = λ main entries around depth has inside.
    let start = c.args.spot in
    let site = site_of c.args.file around depth in
    let word = word_model c.args.word.now in
    let e : ReadStatement = entry_at site (record { spot = start; item = named_item c.args.naming word }) in
    let fault = c.in_err-path.field-0.0 in
    let source = g.S.FileSource.state c.args.source.now in
    rw (handed fault c.from_residual.result c.from_residual.ensures)
    (stops-own main source source c.args.self.now entries has refl c.args.file.left e fault
    (subst (λ expected. IsFault expected fault) (sym (named-fault c.args.naming site start entries word))
    (c.in_err-path.ensures main entries around depth has inside)))

pub returns-in_err-text-clause-opens : goal.returns-in_err-text-clause-opens
returns-in_err-text-clause-opens g c = λ main entries around depth has inside.
    let start = c.args.spot in
    let site = site_of c.args.file around depth in
    let word = word_model c.args.word.now in
    let e : ReadStatement = entry_at site (record { spot = start; item = named_item c.args.naming word }) in
    let inner : Site = named_site c.args.naming e entries word in
    let path = c.in_ok-path.ensures main entries around depth has inside in
    let is : expanded_in (site_scope site) entries word ≡ c.deref.result.now = sym (c.deref.ensures ∙ path.1)
    in
    let fault = c.in_err-text.field-0.0 in
    let before = g.S.FileSource.state c.args.source.now in
    let after = g.S.FileSource.state c.open_file.new.source in
    rw (handed fault c.from_residual-in_err-text.result c.from_residual-in_err-text.ensures)
    (stops-same main before after c.args.self.now.files
    (λ all. opened_in all c.args.file.left inner (place_in c.args.file c.args.word.now.spot) e entries)
    (λ all. statement_read (opened_in all c.args.file.left) e entries) fault
    (λ all. named-read c.args.naming site start entries word path.0 (opened_in all c.args.file.left))
    (c.in_err-text.ensures.opens main entries has inner e
    (named-file c.args.naming site start entries word ∙ is)
    (named-path c.args.naming site start entries word ∙ ap Some is)))

pub returns-in_err-scope-clause-opens : goal.returns-in_err-scope-clause-opens
returns-in_err-scope-clause-opens g c = λ main entries around depth has inside.
    let start = c.args.spot in
    let site = site_of c.args.file around depth in
    let word = word_model c.args.word.now in
    let e : ReadStatement = entry_at site (record { spot = start; item = named_item c.args.naming word }) in
    let inner : Site = named_site c.args.naming e entries word in
    let path = c.in_ok-path.ensures main entries around depth has inside in
    let is : expanded_in (site_scope site) entries word ≡ c.deref.result.now = sym (c.deref.ensures ∙ path.1)
    in
    let before = g.S.FileSource.state c.args.source.now in
    let after = g.S.FileSource.state c.open_file.new.source in
    let fault = handed-as (λ f. f ≡ no_memory) c.from_residual-in_err-scope.result
    c.from_residual-in_err-scope.ensures in
    rw fault.1
    (stops-open main before after c.args.self.now c.open_file.new.self c.open_file.new.self c.args.file.left
    (place_in c.args.file c.args.word.now.spot) c.deref.result.now e entries _
    inner fault.0 has (c.in_ok-text.ensures.opens main entries has)
    (named-file c.args.naming site start entries word ∙ is)
    (named-path c.args.naming site start entries word ∙ ap Some is)
    (named-read c.args.naming site start entries word path.0) fault.2)

pub returns-in_err-add_opening-clause-opens : goal.returns-in_err-add_opening-clause-opens
returns-in_err-add_opening-clause-opens g c = λ main entries around depth has inside.
    let start = c.args.spot in
    let site = site_of c.args.file around depth in
    let word = word_model c.args.word.now in
    let e : ReadStatement = entry_at site (record { spot = start; item = named_item c.args.naming word }) in
    let inner : Site = named_site c.args.naming e entries word in
    let path = c.in_ok-path.ensures main entries around depth has inside in
    let is : expanded_in (site_scope site) entries word ≡ c.deref.result.now = sym (c.deref.ensures ∙ path.1)
    in
    let before = g.S.FileSource.state c.args.source.now in
    let after = g.S.FileSource.state c.open_file.new.source in
    let fault = handed-as (λ f. f ≡ no_memory) c.from_residual-in_err-add_opening.result
    c.from_residual-in_err-add_opening.ensures in
    rw fault.1
    (stops-open main before after c.args.self.now c.open_file.new.self c.open_file.new.self c.args.file.left
    (place_in c.args.file c.args.word.now.spot) c.deref.result.now e entries _
    inner fault.0 has (c.in_ok-text.ensures.opens main entries has)
    (named-file c.args.naming site start entries word ∙ is)
    (named-path c.args.naming site start entries word ∙ ap Some is)
    (named-read c.args.naming site start entries word path.0) fault.2)

pub returns-clause-opens : goal.returns-clause-opens
returns-clause-opens g c = λ main entries around depth has inside.
    let start = c.args.spot in
    let site = site_of c.args.file around depth in
    let word = word_model c.args.word.now in
    let e : ReadStatement = entry_at site (record { spot = start; item = named_item c.args.naming word }) in
    let inner : Site = named_site c.args.naming e entries word in
    let path = c.in_ok-path.ensures main entries around depth has inside in
    let is : expanded_in (site_scope site) entries word ≡ c.deref.result.now = sym (c.deref.ensures ∙ path.1)
    in
    let before = g.S.FileSource.state c.args.source.now in
    let after = g.S.FileSource.state c.open_file.new.source in
    let old : OriginsModel = c.args.self.now.origins in
    let held : Reader = record {
      declarations = c.scope_for.new.self.declarations;
      building =
          c.scope_for.new.self.building;
      files = c.scope_for.new.self.files;
      origins = c.add_opening.new.self;
    }
    in
    let number = c.in_ok-scope.scope.0 in
    let same : c.open_file.new.self.declarations ≡ c.args.self.now.declarations =
    c.in_ok-text.ensures.declarations in
    let enters = c.in_ok-scope.ensures.enters start word entries around depth
    (subst (λ d. DeclaredBy d entries) (sym same) has.declares)
    (subst (λ d. IsOpenScope d.scopes c.args.file.scope.0 around) (sym same) inside) in
    let origins =
    c.in_ok-add_opening.ensures
    ∙ ap (λ (o : OriginsModel). record o {
      openings =
          o.openings ++ record {
            path = c.deref-2.result.now;
            named_at = Some (place_text c.place.result);
            scope =
                number;
          } ∷ [];
    }) (c.in_ok-scope.ensures.origins ∙ c.in_ok-text.ensures.origins)
    ∙ ap (λ (place : Place). record old {
      openings =
          old.openings ++ record { path = c.deref-2.result.now; named_at = Some place; scope = number } ∷ [];
    })
    (placed-text c.place.result site.file start c.place.ensures.file c.place.ensures.spot)
    ∙ ap (λ (path : List ℕ). record old {
      openings =
          old.openings ++ record { path = path; named_at = Some (place_of e); scope = number } ∷ [];
    })
    (c.deref-2.ensures ∙ path.1)
    ∙ ap (λ (n : ℕ). record old {
      openings =
          old.openings ++ record {
            path = expanded_in (site_scope site) entries word;
            named_at = Some (place_of e);
            scope = n;
          } ∷ [];
    }) (sym enters.number_is)
    ∙ sym (named-origins c.args.naming site start entries word old) in (
      inner,
      record {
        file = named-file c.args.naming site start entries word ∙ sym path.1;
        number =
            enters.number_is;
        scope = enters.scope;
      },
      opens-file main before after c.args.self.now c.open_file.new.self held c.args.file.left
          (place_in c.args.file c.args.word.now.spot) c.deref.result.now e entries _
          inner has (c.in_ok-text.ensures.opens main entries has) c.in_ok-scope.ensures.files origins
          (c.in_ok-scope.ensures.building ∙ c.in_ok-text.ensures.building)
          (named-builds c.args.naming site start entries word)
          (subst (λ d. Grows d.scopes c.scope_for.new.self.declarations.scopes) same
          c.in_ok-scope.ensures.grows) inside
          enters.declares (named-file c.args.naming site start entries word ∙ is)
          (named-path c.args.naming site start entries word ∙ ap Some is)
          (named-read c.args.naming site start entries word path.0),
    )
