use Rattle.std.proofs.Common.{◌∙◌, w32, w64, FitsSigned, rules}
use Rattle.std.proofs.lemmas.Int.{to_z-of_z}
use Rattle.nj_build_log.proofs.LineLemmas.{line_read}
use Rattle.nj_build_log.proofs.lines.read_line.Goals as goal

pub returns : goal.returns
returns c =
    let of_start : FitsSigned w32 c.int_in.result = search rules in
    let of_end : FitsSigned w32 c.int_in-2.result = search rules in
    let of_time : FitsSigned w64 c.long_in.result = search rules in
    line_read c.args.line.now c.counted_part.result.now c.in_ok-start.start.now c.in_ok-start.rest.now
    c.in_ok-end.end.now c.in_ok-end.rest.now c.in_ok-time.time.now c.in_ok-time.rest.now
    c.in_ok-output.output.now c.in_ok-output.hash.now _ _ _ c.hash_in.result c.counted_part.ensures
    c.in_ok-start.ensures c.in_ok-end.ensures c.in_ok-time.ensures c.in_ok-output.ensures
    (to_z-of_z w32 c.int_in.result of_start ∙ c.int_in.ensures)
    (to_z-of_z w32 c.int_in-2.result of_end ∙ c.int_in-2.ensures)
    (to_z-of_z w64 c.long_in.result of_time ∙ c.long_in.ensures) c.hash_in.ensures
