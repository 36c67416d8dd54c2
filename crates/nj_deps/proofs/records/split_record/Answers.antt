use Rattle.std.proofs.Common.{arith}
use Rattle.nj_deps.proofs.RecordLemmas.{frame-long, frame-size}
use Rattle.nj_deps.proofs.records.split_record.Goals as goal

pub returns-in-None : goal.returns-in-None
returns-in-None c head content after small frame =
    let long = frame-long c.args.bytes.now head content after frame in
    let short = c.in-None.ensures in
    omega arith

pub returns-then-size-gt-LARGEST : goal.returns-then-size-gt-LARGEST
returns-then-size-gt-LARGEST c head content after small frame =
    let split = c.in-Some.split in
    let size = frame-size c.args.bytes.now split.1.now head split.0 content after small c.in-Some.ensures.0
    c.in-Some.ensures.1 frame in
    let large = c.if-size-gt-LARGEST.true in
    omega arith

pub returns-in-None-split_at_checked : goal.returns-in-None-split_at_checked
returns-in-None-split_at_checked c head content after small frame =
    let split = c.in-Some.split in
    let size = frame-size c.args.bytes.now split.1.now head split.0 content after small c.in-Some.ensures.0
    c.in-Some.ensures.1 frame in
    let short = c.in-None-split_at_checked.ensures.cases in
    omega arith
