use Rattle.std.proofs.Common.{sym, ◌∙◌}
use Rattle.std.proofs.lemmas.List.{length-take-le}
use Rattle.nj_ask.proofs.SinceLemmas.{output-bound}
use Rattle.nj_ask.proofs.since.key_of.Goals as goal

pub slice_bounds-from_hex-end : goal.slice_bounds-from_hex-end
slice_bounds-from_hex-end c =
    sym (length-take-le 64 c.args.line.now
    (output-bound c.args.line.now (sym c.has_output.ensures ∙ c.if-not-has_output.false)))
