use Rattle.std.proofs.Common.{◌++◌, ap, ◌∙◌, codes}
use Rattle.std.specs.Str.Lossy.{utf8_lossy}
use Rattle.serde_json.specs.Data.{string}
use Rattle.serde_json.specs.Written.{compact_text}
use Rattle.nj_audit.specs.Findings.{finding_model}
use Rattle.nj_audit.specs.Kinds.{name_of}
use Rattle.nj_ask.proofs.FindingLemmas.{object-is}
use Rattle.nj_ask.proofs.finding_lines.push_object.Goals as goal

pub returns : goal.returns
returns c =
    let f = finding_model c.args.finding in
    let old = c.args.lines.now.items in
    let file = compact_text (string (utf8_lossy f.place.file)) in
    let name = compact_text (string (utf8_lossy f.name)) in
    c.in_ok-extend_from_slice-4.ensures.items ∙ ap (λ text. text ++ codes "}\n")
    (c.in_ok-push_bytes-2.ensures ∙ ap (λ text. text ++ name)
    (c.in_ok-extend_from_slice-3.ensures.items ∙ ap (λ text. text ++ codes ",\"name\":")
    (c.in_ok-push_text.ensures ∙ ap (λ kind. c.extend_from_slice-2.new.self.items
    ++ compact_text (string kind)) c.name.ensures
    ∙ ap (λ text. text ++ compact_text (string (name_of f.kind)))
    (c.in_ok-extend_from_slice-2.ensures.items ∙ ap (λ text. text ++ c.as_bytes.result.now)
    (c.in_ok-push_bytes.ensures ∙ ap (λ text. text ++ file) c.in_ok-extend_from_slice.ensures.items)
    ∙ ap (λ text. ((old ++ codes "{\"file\":") ++ file) ++ text)
    (c.as_bytes.ensures.value ∙ c.in_ok-middle.ensures.ok)))))
    ∙ object-is f old
