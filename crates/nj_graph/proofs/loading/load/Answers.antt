use Rattle.std.proofs.Common.{◌≡◌, Err, inl, subst, refl}
use Rattle.nj_graph.proofs.FirstTimes.{loads}
use Rattle.nj_faults.specs.Faults.{no_memory}
use Rattle.nj_graph.specs.Reading.{main_read}
use Rattle.nj_graph.specs.Inside.ReaderContracts.{StopsAt}
use Rattle.nj_manifest.proofs.Handed.{handed-as}
use Rattle.nj_graph.proofs.MainFiles.{main-nothing, was-faultless, finished-loads, finished-main}
use Rattle.nj_graph.proofs.loading.load.Goals as goal

pub returns-in_err-reader-clause-loads : goal.returns-in_err-reader-clause-loads
returns-in_err-reader-clause-loads g c =
    let reported = g.S.FileSource.state c.args.source.now in
    let fault = handed-as (λ e. e ≡ no_memory) c.from_residual.result c.from_residual.ensures in
    let s = main-nothing c.args.main.now reported reported fault.0 refl fault.2 in
    rw fault.1 (loads c.args.main.now reported reported (Err fault.0) (s.files, s.reads, inl s.stops))

pub returns-in-Err-clause-loads : goal.returns-in-Err-clause-loads
returns-in-Err-clause-loads g c =
    let reported = g.S.FileSource.state c.args.source.now in
    let after = g.S.FileSource.state c.read_main.new.source in
    let fault = c.in-Err.fault in
    let s = subst (λ fs. StopsAt c.args.main.now reported after fs (λ all. main_read all c.args.main.now)
    fault) c.in_ok-reader.ensures.files c.in-Err.ensures.reads in
    loads c.args.main.now reported after (Err fault) (s.files, s.reads, inl s.stops)

pub finish-requires-clause-outermost : goal.finish-requires-clause-outermost
finish-requires-clause-outermost g c = c.in-Ok.ensures.outermost

pub finish-requires-clause-read : goal.finish-requires-clause-read
finish-requires-clause-read g c =
    let reads = c.in-Ok.ensures.reads in (
      c.args.main.now,
      reads.entries,
      reads.has,
      was-faultless c.args.main.now (g.S.FileSource.state c.args.source.now)
          (g.S.FileSource.state c.read_main.new.source) c.in_ok-reader.reader c.read_main.new.self reads,
    )

pub returns-in-Ok-clause-loads : goal.returns-in-Ok-clause-loads
returns-in-Ok-clause-loads g c =
    let reads = c.in-Ok.ensures.reads in
    let main = c.args.main.now in
    let before = g.S.FileSource.state c.args.source.now in
    let after = g.S.FileSource.state c.read_main.new.source in
    let old = c.in_ok-reader.reader in
    let held = c.read_main.new.self in
    finished-loads main before after old held reads c.finish.result c.in_ok-reader.ensures.files
    (c.finish.ensures main reads.entries reads.has (was-faultless main before after old held reads))

pub returns-in-Ok-clause-main : goal.returns-in-Ok-clause-main
returns-in-Ok-clause-main g c =
    let reads = c.in-Ok.ensures.reads in
    let main = c.args.main.now in
    let held = c.read_main.new.self in
    finished-main main held reads.entries c.finish.result (c.finish.ensures main reads.entries reads.has
    (was-faultless main (g.S.FileSource.state c.args.source.now) (g.S.FileSource.state c.read_main.new.source)
    c.in_ok-reader.reader held reads))
