use Rattle.std.proofs.Common.{[], sym, subst, refl}
use Rattle.std.specs.Rc.{rc_slice_items}
use Rattle.nj_text.specs.declared.spot.Spot.{Spot}
use Rattle.nj_scope.specs.Readings.{EachPathOnce}
use Rattle.nj_graph.specs.declared.reader.Reader.{Reader}
use Rattle.nj_faults.specs.Limits.{most_within}
use Rattle.nj_graph.specs.Reading.{opened_in, text_read, main_site, main_place}
use Rattle.nj_graph.specs.Inside.ReaderContracts.{ReadsOrStops}
use Rattle.nj_graph.proofs.Found.{outcomes-named, found-text, unfound}
use Rattle.nj_manifest.proofs.Handed.{handed}
use Rattle.nj_graph.proofs.MainFiles.{main-fault, main-placed, main-has, main-reads}
use Rattle.nj_graph.proofs.reader.Reader.read_main.Goals as goal

pub returns-in_err-text-clause-reads : goal.returns-in_err-text-clause-reads
returns-in_err-text-clause-reads g c =
    let before = g.S.FileSource.state c.args.source.now in
    let after = g.S.FileSource.state c.text_at.new.source in
    let front : Spot = record { line = 1; column = 1 } in
    rw (handed c.in_err-text.field-0.0 c.from_residual.result c.from_residual.ensures)
    (main-fault c.args.main.now before after c.in_err-text.field-0.0 c.args.self.now.files c.requires.files
    (unfound before after c.args.self.now.files c.text_at.new.files c.args.main.now
    (subst EachPathOnce (sym c.requires.files) tt) (main_place c.args.main.now) c.in_err-text.field-0.0
    (outcomes-named before after c.args.self.now.files c.text_at.new.files c.as_bytes.result.now
    c.args.main.now front front c.args.main.now c.in_err-text.field-0.0 c.as_bytes.ensures.value refl
    c.in_err-text.ensures)))

pub returns-clause-reads : goal.returns-clause-reads
returns-clause-reads g c =
    let main = c.args.main.now in
    let before = g.S.FileSource.state c.args.source.now in
    let mid = g.S.FileSource.state c.text_at.new.source in
    let after = g.S.FileSource.state c.read_text.new.source in
    let opened : Reader = record {
      declarations = c.args.self.now.declarations;
      building =
          c.args.self.now.building;
      files = c.text_at.new.files;
      origins = c.args.self.now.origins;
    } in
    let found = found-text before mid c.args.self.now.files c.text_at.new.files main
    (subst EachPathOnce (sym c.requires.files) tt) (main_place main) c.in_ok-text.text
    c.in_ok-text.ensures in
    let text = rc_slice_items c.in_ok-text.text in
    let has = main-has main before mid after c.args.self.now opened c.read_text.new.self text c.requires found
    refl refl refl in
    let nested = c.read_text.ensures.reads main [] [] 0 has (main-placed main c.args.self.now c.requires) in
    main-reads main before mid after c.args.self.now opened c.read_text.new.self text c.requires found
    c.read_text.result
    (subst (λ t. ReadsOrStops main mid after opened c.read_text.new.self
    (λ all. text_read (opened_in all most_within) (main_site main) t []) c.read_text.result)
    c.as_slice.ensures.value nested)
