use Rattle.std.proofs.Common.{[], ◌++◌, sym, ap, ◌∙◌}
use Rattle.std.proofs.Output.{has_written_of_eq}
use Rattle.std.specs.Fmt.{decimal}
use Rattle.std.specs.Option.{option_map}
use Rattle.std.specs.Prelude.{unwrap_or}
use Rattle.std.specs.Str.Lossy.{utf8_lossy}
use Rattle.nj_faults.specs.FaultLines.{cause_text, opening_text}
use Rattle.nj_faults.proofs.Openings.{line_joined}
use Rattle.nj_faults.proofs.fault_line.GraphFaultDisplay.fmt.Goals as goal

pub returns-in-Some-clause-writes : goal.returns-in-Some-clause-writes
returns-in-Some-clause-writes g c = λ plain ok.
    let place = c.in-Some.place in
    let text = cause_text utf8_lossy c.args.self.now.cause in
    let placed = line_joined (utf8_lossy place.file) (decimal place.spot.line) (decimal place.spot.column)
    text in
    let whole = placed ∙ ap (λ place. unwrap_or (option_map (opening_text utf8_lossy) place) [] ++ text)
    (sym c.in-Some.is) in
    has_written_of_eq _ _ _ _ _ whole (c.write.ensures.writes plain ok)
