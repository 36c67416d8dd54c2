use Rattle.nj_depfiles.specs.Depfiles.{depfile_of}
use Rattle.nj_depfiles.specs.Inside.PiecesCut.{piece_of}
use Rattle.nj_depfiles.specs.Inside.Readings.{then_read, word_ended, told}
use Rattle.nj_depfiles.proofs.ReadingLemmas.{fault-returned, whole-read, answers-ok, answers-err}
use Rattle.nj_depfiles.proofs.depfile.Depfile.read_with_keys.Goals as goal

pub returns-in_err-take-clause-fault : goal.returns-in_err-take-clause-fault
returns-in_err-take-clause-fault c =
    fault-returned c.pieces.reading (piece_of c.in-Some.piece) c.args.text.now c.pieces.rest.now
    c.in-Some.after.now c.in_err-take.field-0.0 c.in-Some.ensures.0 c.pieces.invariant
    c.in_err-take.ensures c.from_residual.result c.from_residual.ensures

pub returns-clause-depfile : goal.returns-clause-depfile
returns-clause-depfile c =
    let r = c.pieces.reading in
    answers-ok (then_read (word_ended r.line r.word) told) (depfile_of c.args.text.now)
    (whole-read r c.args.text.now c.pieces.rest.now c.in_default.ensures c.pieces.invariant)
    c.finish.result c.finish.ensures

pub returns-clause-fault : goal.returns-clause-fault
returns-clause-fault c =
    let r = c.pieces.reading in
    answers-err (then_read (word_ended r.line r.word) told) (depfile_of c.args.text.now)
    (whole-read r c.args.text.now c.pieces.rest.now c.in_default.ensures c.pieces.invariant)
    c.finish.result c.finish.ensures
