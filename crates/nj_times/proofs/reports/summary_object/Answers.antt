use Rattle.std.proofs.Common.{◌++◌, ◌∙◌, List, ℕ, ap, codes}
use Rattle.std.specs.Fmt.{decimal}
use Rattle.nj_times.proofs.ReportLemmas.{object_text, sums_part}
use Rattle.nj_times.proofs.reports.summary_object.Goals as goal

pub returns : goal.returns
returns c =
    let sums = c.args.sums in
    let two = codes ",\"unknown\":" ++ decimal sums.unknown in
    c.in_ok-push_sums.ensures
    ∙ ap (λ (t : List ℕ). t ++ sums_part sums.sum sums.critical) (c.in_ok-push_number-2.ensures
    ∙ ap (λ (t : List ℕ). t ++ two) c.in_ok-push_number.ensures)
    ∙ object_text c.new-text.result.items sums.commands sums.unknown sums.sum sums.critical
    c.new-text.ensures.items
