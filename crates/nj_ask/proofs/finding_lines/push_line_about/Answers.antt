use Rattle.std.proofs.Common.{◌++◌, ap, ◌∙◌, codes, ◌∷◌, []}
use Rattle.std.specs.Fmt.{decimal}
use Rattle.nj_audit.specs.Findings.{finding_model}
use Rattle.nj_ask.proofs.FindingLemmas.{plain-parts}
use Rattle.nj_ask.proofs.finding_lines.push_line_about.Goals as goal

pub returns : goal.returns
returns c =
    let f = finding_model c.args.finding in
    let old = c.args.lines.now.items in
    c.in_ok-extend_from_slice-4.ensures.items ∙ ap (λ text. text ++ codes "'\n")
    (c.in_ok-extend_from_slice-3.ensures.items ∙ ap (λ text. text ++ f.name)
    (c.in_ok-extend_from_slice-2.ensures.items ∙ ap (λ text. text ++ c.as_bytes.result.now)
    c.in_ok-extend_from_slice.ensures.items
    ∙ ap (λ text. (old ++ f.place.file) ++ text) (c.as_bytes.ensures.value ∙ c.in_ok-middle.ensures.ok)))
    ∙ plain-parts old f.place.file (codes ":") (decimal f.place.spot.line) (codes ":")
    (decimal f.place.spot.column) (codes ": ") c.args.phrase.now (codes " '") f.name (codes "'") (10 ∷ [])
