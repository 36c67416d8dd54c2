use Rattle.std.proofs.Common.{refl, subst}
use Rattle.nj_manifest.specs.Contents.{words_model}
use Rattle.nj_manifest.specs.Statements.{DefaultModel}
use Rattle.nj_scope.specs.ReadingList.{ReadStatement}
use Rattle.nj_scope.proofs.DeclarationLemmas.{takes-default}
use Rattle.nj_statements.specs.BuildFaults.{default_fault}
use Rattle.nj_statements.specs.Answers.{ReadsStatement}
use Rattle.nj_graph.specs.declared.reader.Reader.{Reader}
use Rattle.nj_graph.specs.Reading.{entry_at}
use Rattle.nj_graph.specs.Inside.ReaderContracts.{site_of}
use Rattle.nj_graph.proofs.OpenScopes.{grows-self}
use Rattle.nj_graph.proofs.Holding.{built-declares, placed-entry}
use Rattle.nj_graph.proofs.reader.Reader.add_defaults.Goals as goal

pub returns-clause-declares : goal.returns-clause-declares
returns-clause-declares c = λ main entries around depth has inside.
    let words = words_model c.args.words.now in
    let e : ReadStatement = entry_at (site_of c.args.file around depth)
    (record { spot = c.args.spot; item = DefaultModel words }) in
    let held : Reader = record {
      declarations = c.args.self.now.declarations;
      building =
          c.read_default.new.self;
      files = c.args.self.now.files;
      origins = c.args.self.now.origins;
    } in
    let takes = takes-default c.args.self.now.declarations c.args.file.scope.0 around words entries
    c.args.file.name.now c.args.spot depth has.declares in
    built-declares main c.args.self.now held entries e c.read_default.result has takes refl refl refl
    (grows-self c.args.self.now.declarations.scopes) inside
    (subst (λ x. ReadsStatement c.read_default.new.self (default_fault x entries words) x entries
    c.read_default.result)
    (placed-entry c.args.file c.place-place.result c.args.spot around depth (DefaultModel words)
    c.place-place.ensures.file c.place-place.ensures.spot)
    (c.read_default.ensures.reads entries around depth has.declares inside.within has.edges))
