use Rattle.std.proofs.Common.{◌++◌, ◌∙◌, List, ℕ, ap, codes}
use Rattle.std.specs.Fmt.{decimal}
use Rattle.nj_times.proofs.ReportLemmas.{sums_text}
use Rattle.nj_times.proofs.reports.push_sums.Goals as goal

pub returns : goal.returns
returns c =
    let sums = c.args.sums in
    let two = codes ",\"critical_path\":" ++ decimal sums.critical in
    c.in_ok-extend_from_slice.ensures.items
    ∙ ap (λ (t : List ℕ). t ++ codes "}\n") (c.in_ok-push_number-2.ensures
    ∙ ap (λ (t : List ℕ). t ++ two) c.in_ok-push_number.ensures)
    ∙ sums_text c.args.text.now.items sums.sum sums.critical
