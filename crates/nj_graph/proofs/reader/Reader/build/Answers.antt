use Rattle.std.proofs.Common.{refl, subst}
use Rattle.nj_manifest.specs.Contents.{outputs_model, used_rule, inputs_model, lines_model, build_model}
use Rattle.nj_scope.specs.ReadingList.{ReadStatement}
use Rattle.nj_scope.proofs.DeclarationLemmas.{takes-build}
use Rattle.nj_statements.specs.BuildFaults.{build_fault}
use Rattle.nj_statements.specs.Answers.{ReadsStatement}
use Rattle.nj_graph.specs.declared.reader.Reader.{Reader}
use Rattle.nj_graph.specs.Reading.{entry_at}
use Rattle.nj_graph.specs.Inside.ReaderContracts.{site_of}
use Rattle.nj_graph.proofs.OpenScopes.{grows-self}
use Rattle.nj_graph.proofs.Holding.{built-declares, placed-entry}
use Rattle.nj_graph.proofs.reader.Reader.build.Goals as goal

pub returns-clause-declares : goal.returns-clause-declares
returns-clause-declares c = λ main entries around depth has inside.
    let b = c.args.build.now in
    let e : ReadStatement = entry_at (site_of c.args.file around depth)
    (record { spot = c.args.spot; item = build_model b }) in
    let held : Reader = record {
      declarations = c.args.self.now.declarations;
      building =
          c.read_build.new.self;
      files = c.args.self.now.files;
      origins = c.args.self.now.origins;
    } in
    let takes = takes-build c.args.self.now.declarations c.args.file.scope.0 around (outputs_model b)
    (used_rule b) (inputs_model b) (lines_model b.lines.items) entries c.args.file.name.now c.args.spot
    depth has.declares in
    built-declares main c.args.self.now held entries e c.read_build.result has takes refl refl refl
    (grows-self c.args.self.now.declarations.scopes) inside
    (subst (λ x. ReadsStatement c.read_build.new.self
    (build_fault x entries (outputs_model b) (used_rule b) (inputs_model b) (lines_model b.lines.items)) x
    entries c.read_build.result)
    (placed-entry c.args.file c.place-place.result c.args.spot around depth (build_model b)
    c.place-place.ensures.file c.place-place.ensures.spot)
    (c.read_build.ensures.reads entries around depth has.declares inside.within has.edges))
