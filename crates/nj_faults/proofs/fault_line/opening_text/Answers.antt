use Rattle.std.proofs.Common.{◌++◌, ap, ◌∙◌}
use Rattle.std.specs.Fmt.{decimal}
use Rattle.nj_faults.proofs.Openings.{opening_joined}
use Rattle.nj_faults.proofs.fault_line.opening_text.Goals as goal

pub returns-in_ok-extend_from_slice-in-Some : goal.returns-in_ok-extend_from_slice-in-Some
returns-in_ok-extend_from_slice-in-Some c =
    let place = c.in-Some.place in
    let file = c.in_ok-text-in-Some.ensures.items ∙ c.as_bytes.ensures in
    let at = c.as_bytes-in-Some.ensures.value ∙ c.in_ok-at-in-Some.ensures.ok in
    let written = c.in_ok-extend_from_slice-in-Some.ensures.items
    ∙ ap (λ text. text ++ c.as_bytes-in-Some.result.now) file ∙ ap (λ text. place.file ++ text) at in
    rw (c.in-Some.is) (written ∙ opening_joined place.file (decimal place.spot.line)
    (decimal place.spot.column))
